-- What is left of the split is that from the slot and the cell on that were come to.
use Rattle.std.proofs.Common.{◌≡◌, ◌+◌, ◌-◌, length}
use Rattle.tree_cells.specs.Indexer.{indexer, cell_of}
use Rattle.tree_leaves.specs.Leaf.{Splits, parted}
use Rattle.tree_leaves.proofs.leaf.split.Given as goal

abbrev pub invariant-loop-free : goal.invariant-loop-free
invariant-loop-free l = record {
  asks : Splits l.m (length l.at) l.slot l.free (l.x + l.g - l.free) l.f l.p;
  own : l.ix ≡ indexer (cell_of l.ix);
  same : parted l.at l.p l.f (l.x + l.g - l.free) (cell_of l.ix) l.slot l.free l.m ≡ parted l.at l.p l.f l.g l.fn.cell l.s l.x l.initial.m;
}
