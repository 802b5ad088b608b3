-- What is shared is the levels that were counted, and those from the cell on that was come to.
use Rattle.std.proofs.Common.{◌≡◌, ◌+◌, ◌-◌}
use Rattle.tree_cells.specs.Indexer.{indexer, cell_of}
use Rattle.tree_leaves.specs.Leaf.{shared_levels}
use Rattle.tree_leaves.proofs.leaf.shared_levels.Given as goal

abbrev pub invariant-loop-level : goal.invariant-loop-level
invariant-loop-level l = record {
  own : l.ix ≡ indexer (cell_of l.ix);
  same : shared_levels l.at l.p l.most l.fn.cell l.f ≡ l.level + shared_levels l.at l.p (l.most - l.level) (cell_of l.ix) l.f;
}
