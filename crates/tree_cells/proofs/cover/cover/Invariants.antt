-- The rest of the covering, and the rest of the count, are those from the extent on that was come to.
use Rattle.rules.specs.Floor.{floor}
use Rattle.tree_cells.proofs.CoverDoublings.{Going, left}
use Rattle.tree_cells.proofs.cover.cover.Given as goal

abbrev pub invariant-loop-covered : goal.invariant-loop-covered
invariant-loop-covered l = Going (floor l.x) (floor l.y) l.fn.e l.covered.extent l.covered.doublings

abbrev pub decreases-loop-covered : goal.decreases-loop-covered
decreases-loop-covered l = left (floor l.x) (floor l.y) l.covered.extent
