-- The way of i has come to an internal node, and fewer levels are left with each turn.
use Rattle.std.proofs.Common.{◌≡◌, ℕ, ◌+◌}
use Rattle.rules.specs.Tree.{Tree}
use Rattle.tree_cells.specs.Indexer.{indexer, cell_of}
use Rattle.tree_removing.specs.Ways.{Tops}
use Rattle.tree_removing.proofs.Turns.{height, Come}
use Rattle.tree_removing.proofs.way.inner.Given as goal

abbrev pub invariant-loop-way : goal.invariant-loop-way
invariant-loop-way l =
    record {
      whole : l.ix ≡ indexer (cell_of l.ix);
      come : (t : Tree ℕ) → Tops l.at l.m l.fn.q l.i t → Come l.at l.i l.fn.q.extent t l.slot (cell_of l.ix);
    }

abbrev pub decreases-loop-way : goal.decreases-loop-way
decreases-loop-way l = height 65 l.m (l.slot + 1)
