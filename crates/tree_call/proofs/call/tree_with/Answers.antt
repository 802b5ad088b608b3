-- `tree_with` answers what building came to.
use mathlib.Core.Path.{refl}
use Rattle.tree_call.proofs.TreeCalled.{can_build, sheet-comes, sheet-after}
use Rattle.tree_call.proofs.call.tree_with.Goals as goal

pub build-built-requires : goal.build-built-requires
build-built-requires c = can_build c.requires c.read_pairs.ensures c.read_pairs.auto.out refl refl

pub answer-requires : goal.answer-requires
answer-requires c =
    let b = c.build-built in
    (_, sheet-comes c.requires c.read_pairs.ensures c.read_pairs.auto.out b.new.m b.auto.m b.new.next b.auto.next b.result b.ensures)

pub returns : goal.returns
returns c =
    let b = c.build-built in
    let k = sheet-comes c.requires c.read_pairs.ensures c.read_pairs.auto.out b.new.m b.auto.m b.new.next b.auto.next b.result b.ensures in
    sheet-after c.requires c.read_pairs.ensures c.read_pairs.auto.out b.new.m b.auto.m b.new.next b.result b.ensures _ _ _ _ (c.answer.ensures _ k)
