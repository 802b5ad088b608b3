-- Each turn, with the path's lowest step taken off.
use Rattle.std.proofs.Common.{◌≡◌, suc, ◌∙◌, sym, arith, slice_index_or}
use Rattle.tree_walk.proofs.WalkClimb.{climb_end}
use Rattle.tree_walk.proofs.PathTurns.{lent, first_leaf, first_node, turn_past, turn_down, falls_past, falls_down, deep}
use Rattle.tree_walk.proofs.parent_last.Path.next.Goals as goal
use Rattle.tree_walk.proofs.parent_last.Path.next.Goals.{then-tag-ne0-via-then-tag-ne0, then-tag-ne0-via-else-tag-ne0+then-step-eq4}

pub tag-requires : goal.tag-requires
tag-requires c = (lent (c.loop-step.invariant _ _ c.requires.climbs) c.in-Some.ensures).0

pub returns-then-tag-ne0 : goal.returns-then-tag-ne0
returns-then-tag-ne0 c =
    record {
      first = λ next rest k.
          let h = c.loop-step.invariant next rest k in
          elim c.then-tag-ne0.branch [
            | then-tag-ne0-via-then-tag-ne0 w ↦ first_leaf h c.in-Some.ensures (λ z. w.if-tag-ne0.true (c.tag.ensures ∙ z))
            | then-tag-ne0-via-else-tag-ne0+then-step-eq4 w ↦ first_node h c.in-Some.ensures (sym c.tag.ensures ∙ w.if-tag-ne0.false) w.if-step-eq4.true
          ];
    }

pub children-requires : goal.children-requires
children-requires c = (lent (c.loop-step.invariant _ _ c.requires.climbs) c.in-Some.ensures).0

pub offset_bounds-children-step : goal.offset_bounds-children-step
offset_bounds-children-step c = omega (arith, lent (c.loop-step.invariant _ _ c.requires.climbs) c.in-Some.ensures)

pub bounds-children-step : goal.bounds-children-step
bounds-children-step c = omega (arith, lent (c.loop-step.invariant _ _ c.requires.climbs) c.in-Some.ensures)

pub overflow_add-step : goal.overflow_add-step
overflow_add-step c = omega (arith, lent (c.loop-step.invariant _ _ c.requires.climbs) c.in-Some.ensures)

pub push-requires : goal.push-requires
push-requires c = omega (arith, lent (c.loop-step.invariant _ _ c.requires.climbs) c.in-Some.ensures)

pub push-requires-in-Some-checked_sub : goal.push-requires-in-Some-checked_sub
push-requires-in-Some-checked_sub c =
    let n : slice_index_or c.children.result c.in-Some.step.quadrant 0 ≡ suc c.in-Some-checked_sub.slot = omega (arith, c.in-Some-checked_sub.ensures) in
    (omega arith, deep (c.loop-step.invariant _ _ c.requires.climbs) c.in-Some.ensures (sym c.tag.ensures ∙ c.if-tag-ne0.false) c.if-step-eq4.false c.children.ensures c.push.ensures n)

pub loop-step-smaller-in-Some-checked_sub : goal.loop-step-smaller-in-Some-checked_sub
loop-step-smaller-in-Some-checked_sub c =
    let n : slice_index_or c.children.result c.in-Some.step.quadrant 0 ≡ suc c.in-Some-checked_sub.slot = omega (arith, c.in-Some-checked_sub.ensures) in
    falls_down (c.loop-step.invariant _ _ c.requires.climbs) c.in-Some.ensures (sym c.tag.ensures ∙ c.if-tag-ne0.false) c.if-step-eq4.false c.children.ensures c.push.ensures n
    c.push-in-Some-checked_sub.ensures

pub loop-step-preserved-in-Some-checked_sub : goal.loop-step-preserved-in-Some-checked_sub
loop-step-preserved-in-Some-checked_sub c = λ next rest k.
    let n : slice_index_or c.children.result c.in-Some.step.quadrant 0 ≡ suc c.in-Some-checked_sub.slot = omega (arith, c.in-Some-checked_sub.ensures) in
    turn_down (c.loop-step.invariant next rest k) c.in-Some.ensures (sym c.tag.ensures ∙ c.if-tag-ne0.false) c.if-step-eq4.false c.children.ensures c.push.ensures n
    c.push-in-Some-checked_sub.ensures

pub loop-step-smaller : goal.loop-step-smaller
loop-step-smaller c =
    falls_past (c.loop-step.invariant _ _ c.requires.climbs) c.in-Some.ensures (sym c.tag.ensures ∙ c.if-tag-ne0.false) c.if-step-eq4.false c.children.ensures c.push.ensures

pub loop-step-preserved : goal.loop-step-preserved
loop-step-preserved c = λ next rest k.
    let n : slice_index_or c.children.result c.in-Some.step.quadrant 0 ≡ 0 = omega (arith, c.in_default-checked_sub.ensures) in
    turn_past (c.loop-step.invariant next rest k) c.in-Some.ensures (sym c.tag.ensures ∙ c.if-tag-ne0.false) c.if-step-eq4.false c.children.ensures c.push.ensures n

pub returns : goal.returns
returns c = λ next rest k. climb_end c.args.m.now next rest (rw c.in_default.ensures.0 at (c.loop-step.invariant next rest k))
