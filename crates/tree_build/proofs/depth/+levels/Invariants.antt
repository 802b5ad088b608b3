-- The levels that are left fall, and the levels below a node are those of its deepest child so far.
use Rattle.std.proofs.Common.{◌≡◌, ℕ, ◌-◌}
use Rattle.rules.specs.Tree.{Tree}
use Rattle.tree_build.specs.Depth.{Goes}
use Rattle.tree_build.proofs.Levels.{below}
use Rattle.tree_build.proofs.depth.+levels.Given as goal

abbrev pub decreases-levels : goal.decreases-levels
decreases-levels l = 65 - l.level

abbrev pub invariant-loop-child : goal.invariant-loop-child
invariant-loop-child l = (t : Tree ℕ) → Goes l.m l.p l.level t → l.below ≡ below t l.child-index
