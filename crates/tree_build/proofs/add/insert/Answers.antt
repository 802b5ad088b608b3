-- `insert` puts p into the tree in the extent that it is given, or refuses as the rules do.
use Rattle.std.proofs.Common.{subst}
use Rattle.rules.specs.declared.Extent.{Extent}
use Rattle.tree_placing.specs.Add.{Placed}
use Rattle.tree_build.proofs.AddInsert.{begun-alone, begun-puts, first-placed}
use Rattle.tree_build.proofs.add.insert.Goals as goal

pub returns-then-q-eq0 : goal.returns-then-q-eq0
returns-then-q-eq0 c is g =
    first-placed _ _ _ _ _ _ c.args.covered _ g.puts _ _ c.begin.ensures.0 c.begin.ensures.1 c.if-q-eq0.true _ _ c.plant.ensures

pub place-requires : goal.place-requires
place-requires c =
    let g = c.requires.1.puts in
    let w = c.in_ok-grown.ensures _ g.seeks in
    (_, begun-puts _ _ _ _ _ _ c.args.covered _ g _ _ c.begin.ensures.0 c.begin.ensures.1 _ _ w.holds, begun-alone _ _ _ _ _ _ c.args.covered _ g _ _ c.begin.ensures.0 c.begin.ensures.1, w.rooted)

pub returns : goal.returns
returns c is g =
    let w = c.in_ok-grown.ensures is g.puts.seeks in
    subst (λ (e : Extent). Placed c.args.at.now is c.place.new.m c.place.new.next c.place.new.tail e c.args.p c.place.result) w.extent
    (c.place.ensures is (begun-puts _ _ _ _ _ _ c.args.covered _ g.puts _ _ c.begin.ensures.0 c.begin.ensures.1 _ _ w.holds))
