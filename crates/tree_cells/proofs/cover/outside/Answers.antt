-- `outside` tells what the rules do of the point's floor, by comparing the point itself.
use Rattle.tree_cells.proofs.CoverNear.{outside_across, outside_along}
use Rattle.tree_cells.proofs.cover.outside.Goals as goal

pub returns-then-off : goal.returns-then-off
returns-then-off c = outside_across c.requires c.off.result c.off.ensures c.if-off.true

pub returns-else-off : goal.returns-else-off
returns-else-off c = outside_along c.requires c.off.result c.off-else-off.result c.off.ensures c.if-off.false c.off-else-off.ensures
