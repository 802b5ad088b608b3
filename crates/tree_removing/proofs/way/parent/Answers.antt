-- `parent` follows the way of f down to the node above slot x.
use Rattle.std.proofs.Common.{◌-◌, sym, ap, ◌∙◌, subst, arith}
use Rattle.tree_cells.specs.Indexer.{cell_of}
use Rattle.tree_leaves.proofs.Turns.{indexed, step-side, step_less, step-own, step-cell}
use Rattle.tree_removing.proofs.Turns.{less-more, come-slot, come-child, come-lower, Nears, nears_start, nears_turn, under_rooted}
use Rattle.tree_removing.proofs.way.parent.Goals as goal

pub overflow_sub-slot : goal.overflow_sub-slot
overflow_sub-slot c = under_rooted _ _ _ _ _ _ c.requires.1

pub loop-way-init : goal.loop-way-init
loop-way-init c =
    record {
      whole = indexed c.with_extent-ix.result c.args.q.extent c.with_extent-ix.ensures;
      nears = λ t g. subst (Nears c.args.at.now c.args.f c.args.q.extent t c.args.x (c.args.q.root - 1)) (sym (ap cell_of c.with_extent-ix.ensures))
          (nears_start _ _ _ _ _ _ _ _ _ g.way g.top (sym g.leads ∙ less-more c.args.q.root (λ z. omega (arith, under_rooted _ _ _ _ _ _ g))));
    }

pub children-children-requires : goal.children-children-requires
children-children-requires c =
    let g = c.requires.1 in
    come-slot _ _ _ _ _ g.stored g.lent g.levels _ _ (c.loop-way.invariant.nears _ g).come

pub returns-then-child-x : goal.returns-then-child-x
returns-then-child-x c t g =
    let n = (c.loop-way.invariant.nears t g).come in
    let e = step-side c.args.at.now c.args.f _ _ _ _ c.get_and_descend-way.ensures c.x_at-u.ensures c.y_at-v.ensures in
    record {
      level = n.level;
      cell = cell_of c.loop-way.ix;
      t0 = n.t0;
      t1 = n.t1;
      t2 = n.t2;
      t3 = n.t3;
      way = n.way;
      less = step_less c.args.at.now c.args.f _ _ _ _ c.get_and_descend-way.ensures c.x_at-u.ensures c.y_at-v.ensures;
      child = sym (come-child _ _ _ _ _ g.stored g.lent g.levels _ _ n _ e _ c.children-children.ensures) ∙ c.if-child-x.true;
    }

pub overflow_sub-slot-in-loop-way : goal.overflow_sub-slot-in-loop-way
overflow_sub-slot-in-loop-way c =
    let g = c.requires.1 in
    let n = c.loop-way.invariant.nears _ g in
    let e = step-side c.args.at.now c.args.f _ _ _ _ c.get_and_descend-way.ensures c.x_at-u.ensures c.y_at-v.ensures in
    let i = come-child _ _ _ _ _ g.stored g.lent g.levels _ _ n.come _ e _ c.children-children.ensures in
    (nears_turn _ _ _ _ _ g.stored g.lent g.levels _ _ _ n _ e _ i c.if-child-x.false).0

pub loop-way-smaller : goal.loop-way-smaller
loop-way-smaller c =
    let g = c.requires.1 in
    let n = c.loop-way.invariant.nears _ g in
    let e = step-side c.args.at.now c.args.f _ _ _ _ c.get_and_descend-way.ensures c.x_at-u.ensures c.y_at-v.ensures in
    let i = come-child _ _ _ _ _ g.stored g.lent g.levels _ _ n.come _ e _ c.children-children.ensures in
    let l = (nears_turn _ _ _ _ _ g.stored g.lent g.levels _ _ _ n _ e _ i c.if-child-x.false).0 in
    come-lower _ _ _ _ _ g.stored g.lent g.levels _ _ n.come _ _ i (λ z. omega arith)

pub loop-way-preserved : goal.loop-way-preserved
loop-way-preserved c =
    record {
      whole = step-own c.args.at.now c.args.f _ _ _ _ c.get_and_descend-way.ensures c.x_at-u.ensures c.y_at-v.ensures;
      nears = λ t g. (let n = c.loop-way.invariant.nears t g in
          let e = step-side c.args.at.now c.args.f _ _ _ _ c.get_and_descend-way.ensures c.x_at-u.ensures c.y_at-v.ensures in
          let i = come-child _ _ _ _ _ g.stored g.lent g.levels _ _ n.come _ e _ c.children-children.ensures in
          rw (step-cell c.args.at.now c.args.f _ _ _ _ c.get_and_descend-way.ensures c.x_at-u.ensures c.y_at-v.ensures) (nears_turn _ _ _ _ _ g.stored g.lent g.levels _ _ _ n _ e _ i c.if-child-x.false).1);
    }
