-- `old_quadrant` answers the rules' quadrant, by comparing numbers where they compare floors.
use Rattle.std.proofs.Common.{arith}
use Rattle.std.proofs.lemmas.Grind.{common_steps}
use Rattle.tree_cells.proofs.CoverNear.{old-quadrant-is}
use Rattle.tree_cells.proofs.cover.old_quadrant.Goals as goal

pub returns : goal.returns
returns c = grind (arith, common_steps, old-quadrant-is c.requires)
