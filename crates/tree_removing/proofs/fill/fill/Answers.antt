-- `fill` moves the node in the last slot to the free one, and the slots then hold the same tree in the first slots.
use Rattle.std.proofs.Common.{List, ℕ, ◌+◌, sym, subst}
use Rattle.tree_slots.specs.declared.Quadtree.{Quadtree}
use Rattle.tree_removing.specs.Remove.{Filled}
use Rattle.tree_removing.proofs.Filling.{fill-last, fill-root, fill-rooted, fill-under, fill-slots, fill-child}
use Rattle.tree_removing.proofs.fill.fill.Goals as goal

pub returns-then-h-x : goal.returns-then-h-x
returns-then-h-x c t g = fill-last _ _ _ _ t g c.if-h-x.true

pub returns-then-q-x : goal.returns-then-q-x
returns-then-q-x c t g =
    let q : Quadtree = c.args.q in
    subst (λ (w : List ℕ). Filled c.args.at.now w q (record { extent = q.extent; root = c.args.h + 1; nodes = q.nodes; deepest = q.deepest }) t) (sym c.copy.ensures) (fill-root _ _ q _ t g c.if-h-x.false c.if-q-x.true)

pub leaf_below-f-requires : goal.leaf_below-f-requires
leaf_below-f-requires c = fill-rooted _ _ _ _ c.requires.0 c.requires.1 c.if-h-x.false

pub parent-up-requires : goal.parent-up-requires
parent-up-requires c = (c.requires.0, fill-under _ _ _ _ c.requires.0 c.requires.1 c.if-h-x.false _ c.leaf_below-f.ensures c.if-q-x.false)

pub relink-requires : goal.relink-requires
relink-requires c =
    let u = c.requires.0 in
    let g = c.requires.1 in
    fill-slots _ _ _ _ u g c.if-h-x.false _ c.leaf_below-f.ensures c.if-q-x.false _ (c.parent-up.ensures u (fill-under _ _ _ _ u g c.if-h-x.false _ c.leaf_below-f.ensures c.if-q-x.false))

pub returns : goal.returns
returns c u g =
    fill-child _ _ _ _ u g c.if-h-x.false _ c.leaf_below-f.ensures c.if-q-x.false _ (c.parent-up.ensures u (fill-under _ _ _ _ u g c.if-h-x.false _ c.leaf_below-f.ensures c.if-q-x.false)) _ c.relink.ensures
