-- A leaf below where the way has come to is one below its beginning, and fewer levels are left with each turn.
use Rattle.std.proofs.Common.{ℕ, ◌+◌}
use Rattle.rules.specs.Tree.{Tree}
use Rattle.tree_removing.specs.Ways.{StandsFrom}
use Rattle.tree_removing.proofs.Turns.{height, Deeper}
use Rattle.tree_removing.proofs.way.leaf_below.Given as goal

abbrev pub invariant-loop-s : goal.invariant-loop-s
invariant-loop-s l = (t : Tree ℕ) → StandsFrom l.m l.s t → Deeper l.m t l.x

abbrev pub decreases-loop-s : goal.decreases-loop-s
decreases-loop-s l = height 65 l.m (l.x + 1)
