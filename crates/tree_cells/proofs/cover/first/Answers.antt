-- `first` answers the rules' extent of the first point.
use Rattle.tree_cells.proofs.CoverNear.{first-is}
use Rattle.tree_cells.proofs.cover.first.Goals as goal

pub returns : goal.returns
returns c = cc (first-is c.args.x c.args.y c.requires.0 c.requires.1)
