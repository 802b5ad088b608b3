-- The slot that the way of p has come to, and fewer levels are left with each turn.
use Rattle.std.proofs.Common.{◌≡◌, List, ℕ, ◌-◌}
use Rattle.tree_cells.specs.Indexer.{indexer, cell_of}
use Rattle.tree_placing.specs.Add.{Holds}
use Rattle.tree_placing.proofs.AddTurns.{Way}
use Rattle.tree_placing.proofs.find.Given as goal

abbrev pub invariant-loop-ix : goal.invariant-loop-ix
invariant-loop-ix l =
    record {
      whole : l.ix ≡ indexer (cell_of l.ix);
      way : (is : List ℕ) (h : Holds l.at is l.m l.fn.q) → Way l.at l.p is l.m l.fn.q h l.slot (cell_of l.ix) l.level;
    }

abbrev pub decreases-loop-ix : goal.decreases-loop-ix
decreases-loop-ix l = 64 - l.level
