-- Points in cells, and quarters in their cells. Assumes nothing.
use Rattle.std.proofs.Common.{◌≡◌, ℕ, zero, suc, ◌<◌, true, [], ◌∷◌, sym, ◌∙◌}
use lib.Ieee.{Float, le}
use lib.Ieee.Bits.{is_true}
use Rattle.rules.specs.declared.Extent.{Extent}
use Rattle.rules.specs.Number.{finite}
use Rattle.rules.specs.Cell.{quadrant, quarter}
use Rattle.rules.proofs.CellDeep.{in_quarter-is}
use Rattle.rules.proofs.CellInside.{Between, FiniteCell, inside-next, inside-quarter}
use Rattle.rules.proofs.CoverCount.{le_same}
use Rattle.number.proofs.Order.{units_z, Finite64, le_order}
use Rattle.tree_cells.proofs.CoverMiddles.{le_through, lt_through, Tame, Middle, middle-between}

-- ---- a point in a cell

-- the point lies in the cell, which is half-open
pub record Lies (c : Extent) (x y : Float) : Type 0 where
  pub across : Between c.x0 x c.x1
  pub along : Between c.y0 y c.y1

-- A point of a quarter's cell has that quarter's number.
pub lies_quadrant : (c : Extent) (x y : Float) (q : ℕ) → q < 4 → Lies (quarter q c) x y → quadrant c x y ≡ q
lies_quadrant c x y q l w = let at = x ∷ y ∷ [] in sym (in_quarter-is at c q 0 (inside-quarter at q c 0 l (record { x = w.across; y = w.along })))

-- A point of a cell with finite ends lies in the cell of its own quarter.
pub lies_quarter : (c : Extent) (x y : Float) → FiniteCell c → Lies c x y → Lies (quarter (quadrant c x y) c) x y
lies_quarter c x y f w = let r = inside-next (x ∷ y ∷ []) c 0 f (record { x = w.across; y = w.along }) in record { across = r.x; along = r.y }

-- ---- quarters

-- a cell whose ends lie within 2 ^ 44 of zero, in order
pub record TameCell (c : Extent) : Type 0 where
  pub x0 : Tame c.x0
  pub y0 : Tame c.y0
  pub x1 : Tame c.x1
  pub y1 : Tame c.y1
  pub wide : le c.x0 c.x1 ≡ true
  pub tall : le c.y0 c.y1 ≡ true

-- d lies in c, ends included
pub record Around (c d : Extent) : Type 0 where
  pub left : le c.x0 d.x0 ≡ true
  pub low : le c.y0 d.y0 ≡ true
  pub right : le d.x1 c.x1 ≡ true
  pub high : le d.y1 c.y1 ≡ true

-- Its ends are finite.
pub tame_finite : {c : Extent} → TameCell c → FiniteCell c
tame_finite {c} h = record {
  x0 = is_true (finite c.x0) h.x0.is.finite;
  y0 = is_true (finite c.y0) h.y0.is.finite;
  x1 = is_true (finite c.x1) h.x1.is.finite;
  y1 = is_true (finite c.y1) h.y1.is.finite;
}

same : (x : Float) → Tame x → le x x ≡ true
same x t = le_order x x t.is t.is ∙ le_same (units_z x)

module _ (c : Extent) (h : TameCell c) where
  mid_x : Middle c.x0 c.x1
  mid_x = middle-between c.x0 c.x1 h.x0 h.x1 h.wide

  mid_y : Middle c.y0 c.y1
  mid_y = middle-between c.y0 c.y1 h.y0 h.y1 h.tall

  -- Each quarter of it is such a cell too.
  pub quarter_tame : (q : ℕ) → TameCell (quarter q c)
  unfolding quarter
  quarter_tame zero = record { x0 = h.x0; y0 = h.y0; x1 = mid_x.tame; y1 = mid_y.tame; wide = mid_x.low; tall = mid_y.low }
  quarter_tame (suc zero) = record { x0 = mid_x.tame; y0 = h.y0; x1 = h.x1; y1 = mid_y.tame; wide = mid_x.high; tall = mid_y.low }
  quarter_tame (suc (suc zero)) = record { x0 = h.x0; y0 = mid_y.tame; x1 = mid_x.tame; y1 = h.y1; wide = mid_x.low; tall = mid_y.high }
  quarter_tame (suc (suc (suc n))) = record { x0 = mid_x.tame; y0 = mid_y.tame; x1 = h.x1; y1 = h.y1; wide = mid_x.high; tall = mid_y.high }

  -- Each quarter lies in it.
  pub quarter_around : (q : ℕ) → Around c (quarter q c)
  unfolding quarter
  quarter_around zero = record { left = same c.x0 h.x0; low = same c.y0 h.y0; right = mid_x.high; high = mid_y.high }
  quarter_around (suc zero) = record { left = mid_x.low; low = same c.y0 h.y0; right = same c.x1 h.x1; high = mid_y.high }
  quarter_around (suc (suc zero)) = record { left = same c.x0 h.x0; low = mid_y.low; right = mid_x.high; high = same c.y1 h.y1 }
  quarter_around (suc (suc (suc n))) = record { left = mid_x.low; low = mid_y.low; right = same c.x1 h.x1; high = same c.y1 h.y1 }

-- A point of a cell that lies in another is a point of that one.
pub around_lies : {c d : Extent} {x y : Float} → TameCell c → TameCell d → Around c d → Finite64 x → Finite64 y → Lies d x y → Lies c x y
around_lies {c} {d} {x} {y} h k o f g w = record {
  across = record { low = le_through c.x0 d.x0 x h.x0.is k.x0.is f o.left w.across.low; high = lt_through x d.x1 c.x1 f k.x1.is h.x1.is w.across.high o.right };
  along = record { low = le_through c.y0 d.y0 y h.y0.is k.y0.is g o.low w.along.low; high = lt_through y d.y1 c.y1 g k.y1.is h.y1.is w.along.high o.high };
}
