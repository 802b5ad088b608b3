-- The way of f has come to a node with slot x ahead, and fewer levels are left with each turn.
use Rattle.std.proofs.Common.{◌≡◌, ℕ, ◌+◌}
use Rattle.rules.specs.Tree.{Tree}
use Rattle.tree_cells.specs.Indexer.{indexer, cell_of}
use Rattle.tree_removing.specs.Ways.{Under}
use Rattle.tree_removing.proofs.Turns.{height, Nears}
use Rattle.tree_removing.proofs.way.parent.Given as goal

abbrev pub invariant-loop-way : goal.invariant-loop-way
invariant-loop-way l =
    record {
      whole : l.ix ≡ indexer (cell_of l.ix);
      nears : (t : Tree ℕ) → Under l.at l.m l.fn.q l.x l.f t → Nears l.at l.f l.fn.q.extent t l.x l.slot (cell_of l.ix);
    }

abbrev pub decreases-loop-way : goal.decreases-loop-way
decreases-loop-way l = height 65 l.m (l.slot + 1)
