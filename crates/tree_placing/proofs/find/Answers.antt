-- `find` follows a point's way down the tree to the leaf or the missing child where it ends.
use Rattle.std.proofs.Common.{List, ℕ, get_or, sym, ap, ◌∙◌, arith}
use Rattle.tree_leaves.proofs.Turns.{step-side, step-own, step-cell}
use Rattle.tree_placing.proofs.AddTurns.{way_slot, way_leaf, way-inner, way-hole, way_down}
use Rattle.tree_placing.proofs.find.Goals as goal

pub tag-tag-requires : goal.tag-tag-requires
tag-tag-requires c =
    let h = c.requires.1.holds in
    let w = c.loop-ix.invariant.way _ h in
    way_slot _ _ _ _ _ h _ _ _ w.0 w.1 w.2

pub returns-then-tag-ne0 : goal.returns-then-tag-ne0
returns-then-tag-ne0 c is k =
    let w = c.loop-ix.invariant.way is k.holds in
    rw (c.tag-tag.ensures, c.cell.ensures) (way_leaf _ _ _ _ _ k.holds _ _ _ w.0 w.1 w.2 (λ z. c.if-tag-ne0.true (c.tag-tag.ensures ∙ z)))

pub children-children-requires : goal.children-children-requires
children-children-requires c =
    let h = c.requires.1.holds in
    let w = c.loop-ix.invariant.way _ h in
    way_slot _ _ _ _ _ h _ _ _ w.0 w.1 w.2

pub returns-then-child-eq0 : goal.returns-then-child-eq0
returns-then-child-eq0 c is k =
    let w = c.loop-ix.invariant.way is k.holds in
    let i = way-inner _ _ _ _ _ k.holds _ _ _ w.0 w.1 w.2 (sym c.tag-tag.ensures ∙ c.if-tag-ne0.false) in
    let e = step-side c.args.at.now c.args.p _ _ _ _ c.get_and_descend-way.ensures c.x_at-x.ensures c.y_at-y.ensures in
    let a = ap (λ (ks : List ℕ). get_or ks c.get_and_descend-way.result.quadrant 0) c.children-children.ensures in
    way-hole _ _ _ _ _ k.holds _ _ _ i _ e (sym a ∙ c.if-child-eq0.true)

pub overflow_add-level : goal.overflow_add-level
overflow_add-level c =
    let h = c.requires.1.holds in
    let w = c.loop-ix.invariant.way _ h in
    let i = way-inner _ _ _ _ _ h _ _ _ w.0 w.1 w.2 (sym c.tag-tag.ensures ∙ c.if-tag-ne0.false) in
    omega (arith, i.level)

pub loop-ix-smaller : goal.loop-ix-smaller
loop-ix-smaller c =
    let h = c.requires.1.holds in
    let w = c.loop-ix.invariant.way _ h in
    let i = way-inner _ _ _ _ _ h _ _ _ w.0 w.1 w.2 (sym c.tag-tag.ensures ∙ c.if-tag-ne0.false) in
    omega (arith, i.level)

pub loop-ix-preserved : goal.loop-ix-preserved
loop-ix-preserved c =
    record {
      whole = step-own c.args.at.now c.args.p _ _ _ _ c.get_and_descend-way.ensures c.x_at-x.ensures c.y_at-y.ensures;
      way = λ is h. (let w = c.loop-ix.invariant.way is h in
          let i = way-inner _ _ _ _ _ h _ _ _ w.0 w.1 w.2 (sym c.tag-tag.ensures ∙ c.if-tag-ne0.false) in
          let e = step-side c.args.at.now c.args.p _ _ _ _ c.get_and_descend-way.ensures c.x_at-x.ensures c.y_at-y.ensures in
          let a = ap (λ (ks : List ℕ). get_or ks c.get_and_descend-way.result.quadrant 0) c.children-children.ensures in
          rw (step-cell c.args.at.now c.args.p _ _ _ _ c.get_and_descend-way.ensures c.x_at-x.ensures c.y_at-y.ensures)
          (way_down _ _ _ _ _ h _ _ _ i _ e _ a c.if-child-eq0.false));
    }
