-- A cell with its middles at hand. Definitions only.
use Rattle.std.specs.Prelude.{◌≡◌, Float}
use Rattle.rules.specs.declared.Extent.{Extent}
use Rattle.rules.specs.Cell.{xm, ym, quadrant, quarter}
use Rattle.tree_cells.specs.declared.indexer.Indexer.{Indexer}
use Rattle.tree_cells.specs.declared.indexer.Descent.{Descent}

-- of a cell
abbrev pub indexer : Extent → Indexer
indexer c = record { cell = c; xm = xm c; ym = ym c }

-- the cell of an indexer
abbrev pub cell_of : Indexer → Extent
cell_of i = i.cell

-- the point's quadrant in the cell c, and the indexer of that quarter
pub record Descends (c : Extent) (x y : Float) (r : Descent) : Type 0 where
  pub quadrant : r.quadrant ≡ quadrant c x y
  pub indexer : r.indexer ≡ indexer (quarter r.quadrant c)
