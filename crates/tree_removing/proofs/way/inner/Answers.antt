-- `inner` follows the way of i down to its last internal node.
use Rattle.std.proofs.Common.{◌≡◌, ℕ, ◌-◌, sym, ap, ◌∙◌, subst, arith}
use Rattle.rules.specs.Tree.{Tree, none, leaf, node}
use Rattle.tree_cells.specs.Indexer.{cell_of}
use Rattle.tree_leaves.proofs.Turns.{indexed, step-side, step-own, step-cell}
use Rattle.tree_slots.specs.Trees.{lead}
use Rattle.tree_removing.specs.Ways.{Outer}
use Rattle.tree_removing.proofs.Turns.{less-more, Come, come_root, come-slot, come-child, come-lower, child-slot, come-down, come-outer}
use Rattle.tree_removing.proofs.way.inner.Goals as goal
use Rattle.tree_removing.proofs.way.inner.Goals.{then-child-eq0-via-then-child-eq0, then-child-eq0-via-else-child-eq0+then-tag-ne0}

pub loop-way-init : goal.loop-way-init
loop-way-init c =
    record {
      whole = indexed c.with_extent-ix.result c.args.q.extent c.with_extent-ix.ensures;
      come = λ t g. subst (Come c.args.at.now c.args.i c.args.q.extent t (c.args.q.root - 1)) (sym (ap cell_of c.with_extent-ix.ensures))
          (come_root _ _ _ _ _ g.stored _ (sym g.leads ∙ less-more c.args.q.root (λ z. omega (arith, g.rooted))) g.internal);
    }

pub children-children-requires : goal.children-children-requires
children-children-requires c =
    let g = c.requires.1 in
    come-slot _ _ _ _ _ g.stored g.lent g.levels _ _ (c.loop-way.invariant.come _ g)

pub tag-requires : goal.tag-requires
tag-requires c =
    let g = c.requires.1 in
    let n = c.loop-way.invariant.come _ g in
    let e = step-side c.args.at.now c.args.i _ _ _ _ c.get_and_descend-way.ensures c.x_at-x.ensures c.y_at-y.ensures in
    child-slot _ _ _ _ _ g.stored g.lent g.levels _ _ n _ e _ (come-child _ _ _ _ _ g.stored g.lent g.levels _ _ n _ e _ c.children-children.ensures) c.if-child-eq0.false

lead-outer : (u : Tree ℕ) → lead u ≡ 0 → Outer u
lead-outer none e = tt
lead-outer (leaf s is) e = tt
lead-outer (node s t0 t1 t2 t3) e = absurd (omega arith)

pub returns-then-child-eq0 : goal.returns-then-child-eq0
returns-then-child-eq0 c t g =
    let n = c.loop-way.invariant.come t g in
    let e = step-side c.args.at.now c.args.i _ _ _ _ c.get_and_descend-way.ensures c.x_at-x.ensures c.y_at-y.ensures in
    let i = come-child _ _ _ _ _ g.stored g.lent g.levels _ _ n _ e _ c.children-children.ensures in
    record {
      level = n.level;
      cell = cell_of c.loop-way.ix;
      t0 = n.t0;
      t1 = n.t1;
      t2 = n.t2;
      t3 = n.t3;
      way = n.way;
      quadrant = e;
      outer = elim c.then-child-eq0.branch [
        | then-child-eq0-via-then-child-eq0 w ↦ lead-outer _ (sym i ∙ w.if-child-eq0.true)
        | then-child-eq0-via-else-child-eq0+then-tag-ne0 w ↦ come-outer _ _ _ _ _ g.stored g.lent g.levels _ _ n _ e _ (sym i) w.if-child-eq0.false (λ z. w.if-tag-ne0.true (w.tag.ensures ∙ z))
      ];
    }

pub loop-way-smaller : goal.loop-way-smaller
loop-way-smaller c =
    let g = c.requires.1 in
    let n = c.loop-way.invariant.come _ g in
    let e = step-side c.args.at.now c.args.i _ _ _ _ c.get_and_descend-way.ensures c.x_at-x.ensures c.y_at-y.ensures in
    come-lower _ _ _ _ _ g.stored g.lent g.levels _ _ n _ _ (come-child _ _ _ _ _ g.stored g.lent g.levels _ _ n _ e _ c.children-children.ensures) c.if-child-eq0.false

pub loop-way-preserved : goal.loop-way-preserved
loop-way-preserved c =
    record {
      whole = step-own c.args.at.now c.args.i _ _ _ _ c.get_and_descend-way.ensures c.x_at-x.ensures c.y_at-y.ensures;
      come = λ t g. (let n = c.loop-way.invariant.come t g in
          let e = step-side c.args.at.now c.args.i _ _ _ _ c.get_and_descend-way.ensures c.x_at-x.ensures c.y_at-y.ensures in
          let i = come-child _ _ _ _ _ g.stored g.lent g.levels _ _ n _ e _ c.children-children.ensures in
          rw (step-cell c.args.at.now c.args.i _ _ _ _ c.get_and_descend-way.ensures c.x_at-x.ensures c.y_at-y.ensures)
          (come-down _ _ _ _ _ g.stored g.lent g.levels _ _ n _ e _ (sym i ∙ less-more _ c.if-child-eq0.false) (sym c.tag.ensures ∙ c.if-tag-ne0.false)));
    }
