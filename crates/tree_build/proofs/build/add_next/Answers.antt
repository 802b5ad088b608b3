-- `add_next` puts p into the tree, in the extent of all particles up to it.
use Rattle.std.proofs.Common.{subst}
use Rattle.rules.specs.declared.Extent.{Extent}
use Rattle.tree_placing.specs.Add.{Placed}
use Rattle.tree_build.proofs.build.add_next.Goals as goal

pub insert-requires : goal.insert-requires
insert-requires c = (_, record { puts = c.requires.2; covers = c.extend-covered.ensures.covers })

pub returns : goal.returns
returns c is h =
    subst (λ (e : Extent). Placed c.args.at.now is c.insert.new.m c.insert.new.next c.insert.new.tail e c.args.p c.insert.result) c.extend-covered.ensures.extent
    (c.insert.ensures is (record { puts = h; covers = c.extend-covered.ensures.covers }))
