-- Covering in f64: the whole numbers that an extent's ends are, which extents covering can reach, and what a doubling and a covering answer. Definitions only.
use Rattle.std.specs.Prelude.{◌≡◌, ℕ, zero, suc, ◌≤◌, T, List, ℤ, Float}
use Rattle.rules.specs.declared.Extent.{Extent}
use Rattle.rules.specs.Plain.{branch}
use Rattle.rules.specs.Number.{within}
use Rattle.rules.specs.Floor.{floor}
use Rattle.rules.specs.Cell.{quarter}
use Rattle.rules.specs.Cover.{Square, square, inside, old_quadrant, most_doublings, holds, cover_point, extent_of}
use Rattle.rules.proofs.CoverTerms.{Held, next}
use Rattle.tree_cells.specs.declared.cover.Doubled.{Doubled}
use Rattle.tree_cells.specs.declared.cover.Covered.{Covered}

-- the square of an extent whose ends are whole numbers
unfoldable pub square_of : Extent → Square
square_of e = square (floor e.x0) (floor e.y0) (floor e.x1) (floor e.y1)

-- Covering floors within 2 ^ 40 of zero can reach this extent, also between two doublings: its ends are whole, and its square holds these floors.
pub record Reachable (e : Extent) : Type 0 where
  pub is : e ≡ extent_of (holds (square_of e))
  pub floors : List (ℤ × ℤ)
  pub held : Held (square_of e) floors

-- such an extent, and a point within 2 ^ 40 of zero
pub record Near (e : Extent) (x y : Float) : Type 0 where
  pub reachable : Reachable e
  pub across : T (within x)
  pub along : T (within y)

-- how many doublings bring the point inside, if at most k do
unfoldable pub doublings : ℕ → ℤ → ℤ → Square → ℕ
doublings zero x y s = 0
doublings (suc k) x y s = branch (inside s x y) (λ _. 0) (λ _. suc (doublings k x y (next s x y)))

-- one doubling towards the point, as the rule has it; the extent before is the quarter with this number of the new one
pub record DoubledTo (e : Extent) (x y : ℤ) (r : Doubled) : Type 0 where
  pub extent : r.extent ≡ extent_of (holds (next (square_of e) x y))
  pub quadrant : r.quadrant ≡ old_quadrant (square_of e) x y
  pub old : quarter r.quadrant r.extent ≡ e
  pub reachable : Reachable r.extent

-- the point covered, as the rule has it, and how many doublings that took
pub record CoveredTo (e : Extent) (x y : ℤ) (r : Covered) : Type 0 where
  pub extent : r.extent ≡ extent_of (cover_point (holds (square_of e)) x y)
  pub doublings : r.doublings ≡ doublings most_doublings x y (square_of e)
  pub few : r.doublings ≤ most_doublings
  pub reachable : Reachable r.extent
