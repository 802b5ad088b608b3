-- `at_leaf` splits the leaf of another point, or refuses by 6 or 7 where the rules do.
use Rattle.std.proofs.Common.{arith}
use Rattle.tree_placing.proofs.AddPlaced.{few, first-less, leaf-most, grown-deep, shared-most, grown-split-full, split-asks, grown-split}
use Rattle.tree_placing.proofs.at_leaf.Goals as goal

pub overflow_sub-left : goal.overflow_sub-left
overflow_sub-left c = leaf-most _ _ _ _ _ c.requires.1 _ _ _ _ c.requires.2

pub shared_levels-g-requires : goal.shared_levels-g-requires
shared_levels-g-requires c =
    let l = first-less _ _ _ _ _ c.requires.1 _ _ _ _ c.requires.2 in
    omega (arith, c.requires.1.read)

pub returns-then-g-left : goal.returns-then-g-left
returns-then-g-left c is g h =
    grown-deep _ _ _ _ _ g _ _ _ _ h c.requires.3 _ c.shared_levels-g.ensures c.if-g-left.true c.args.m.now

pub overflow_add-q : goal.overflow_add-q
overflow_add-q c =
    let k = shared-most _ _ _ _ _ c.requires.1 _ _ _ _ c.requires.2 c.requires.3 _ c.shared_levels-g.ensures in
    let n = few _ _ _ _ _ c.requires.1 in
    omega arith

pub overflow_add-q-2 : goal.overflow_add-q-2
overflow_add-q-2 c =
    let k = shared-most _ _ _ _ _ c.requires.1 _ _ _ _ c.requires.2 c.requires.3 _ c.shared_levels-g.ensures in
    let n = few _ _ _ _ _ c.requires.1 in
    omega arith

pub returns-then-slots-q : goal.returns-then-slots-q
returns-then-slots-q c is g h =
    grown-split-full _ _ _ _ _ g _ _ _ _ h c.requires.3 _ c.shared_levels-g.ensures c.if-g-left.false (omega (arith, c.slots.ensures))

pub split-requires : goal.split-requires
split-requires c =
    split-asks _ _ _ _ _ c.requires.1 _ _ _ _ c.requires.2 c.requires.3 _ c.shared_levels-g.ensures c.if-g-left.false (omega (arith, c.slots.ensures))

pub more-requires : goal.more-requires
more-requires c =
    (few _ _ _ _ _ c.requires.1, let k = shared-most _ _ _ _ _ c.requires.1 _ _ _ _ c.requires.2 c.requires.3 _ c.shared_levels-g.ensures in omega arith)

pub returns : goal.returns
returns c is g h =
    grown-split _ _ _ _ _ g _ _ _ _ h c.requires.3 _ c.shared_levels-g.ensures c.if-g-left.false (omega (arith, c.slots.ensures)) _ _ c.split.ensures c.more.ensures
