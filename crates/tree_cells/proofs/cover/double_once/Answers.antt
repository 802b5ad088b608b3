-- `double_once` answers the rules' next extent towards a point that is outside, and the quadrant that the old one takes in it.
use Rattle.rules.specs.Floor.{floor}
use Rattle.rules.proofs.Cover.{old-quadrant-less}
use Rattle.tree_cells.specs.Cover.{square_of}
use Rattle.tree_cells.proofs.CoverNear.{new_side, doubled-to}
use Rattle.tree_cells.proofs.cover.double_once.Goals as goal

pub grown-requires : goal.grown-requires
grown-requires c =
    let n = c.requires.0 in
    (n.reachable, rw c.old_quadrant-quadrant.ensures (old-quadrant-less (square_of c.args.e) (floor c.args.x) (floor c.args.y)), new_side n.reachable)

pub returns : goal.returns
returns c = doubled-to c.requires.0 c.requires.1 _ c.old_quadrant-quadrant.ensures c.grown.ensures
