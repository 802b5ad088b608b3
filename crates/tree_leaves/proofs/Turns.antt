-- The turns of the loops that go down the cells of a particle: counting the levels that two share, and splitting a leaf.
use mathlib.Core.Path.{◌≡◌, sym, ap, ap₂, ◌∙◌, subst}
use mathlib.Core.List.{List}
use Prim.Native.Nat.{ℕ, zero, suc, ◌+◌, ◌-◌, ◌<◌}
use native.Mathlib.Omega.{arith}
use lib.ListN.{set}
use lib.Ieee.{Float}
use borrow.Author.Tests.{eq-eqb, ne_eqb}
use Rattle.rules.specs.declared.Extent.{Extent}
use Rattle.rules.specs.Number.{x_at, y_at}
use Rattle.rules.specs.Cell.{quadrant, quarter}
use Rattle.rules.specs.Tree.{in_quarter}
use Rattle.tree_cells.specs.declared.indexer.Indexer.{Indexer}
use Rattle.tree_cells.specs.declared.indexer.Descent.{Descent}
use Rattle.tree_cells.specs.Indexer.{indexer, cell_of, Descends}
use Rattle.tree_cells.proofs.Quadrant.{quadrant_lt}
use Rattle.tree_slots.specs.Slots.{put_internal, childless}
use Rattle.tree_leaves.specs.Leaf.{side, shared_levels, parted}

-- an indexer of a cell
pub indexed : (i : Indexer) (c : Extent) → i ≡ indexer c → i ≡ indexer (cell_of i)
indexed i c e = e ∙ ap indexer (sym (ap cell_of e))

module _ (at : List Float) (p : ℕ) where
  -- ---- one step down

  module _ (c : Extent) (x y : Float) (r : Descent) (d : Descends c x y r) (ex : x ≡ x_at at p) (ey : y ≡ y_at at p) where
    pub step-side : r.quadrant ≡ side at p c
    step-side = d.quadrant ∙ ap₂ (quadrant c) ex ey

    pub step_less : r.quadrant < 4
    step_less = subst (λ (q : ℕ). q < 4) (sym step-side) (quadrant_lt _ _ _)

    pub step-own : r.indexer ≡ indexer (cell_of r.indexer)
    step-own = indexed r.indexer (quarter r.quadrant c) d.indexer

    pub step-cell : cell_of r.indexer ≡ quarter r.quadrant c
    step-cell = ap cell_of d.indexer

-- ---- the levels that two particles share

module _ (at : List Float) (p f : ℕ) {level most : ℕ} {c : Extent} {x y u v : Float} {r : Descent} {j : ℕ} (lt : level < most) (d : Descends c x y r) (ex : x ≡ x_at at p) (ey : y ≡ y_at at p)
    (e : j ≡ quadrant c u v) (eu : u ≡ x_at at f) (ev : v ≡ y_at at f) where
  one : most - level ≡ suc (most - (level + 1))
  one = omega arith

  other-side : j ≡ quadrant c (x_at at f) (y_at at f)
  other-side = e ∙ ap₂ (quadrant c) eu ev

  -- one more
  pub shared_more : r.quadrant ≡ j → shared_levels at p (most - level) c f ≡ suc (shared_levels at p (most - (level + 1)) (cell_of r.indexer) f)
  unfolding in_quarter
  shared_more h =
      let k = step-side at p c x y r d ex ey in
      rw (one, step-cell at p c x y r d ex ey, k, eq-eqb (side at p c) (quadrant c (x_at at f) (y_at at f)) (sym k ∙ h ∙ other-side))

  -- no more
  pub shared_stop : (r.quadrant ≡ j → ⊥) → shared_levels at p (most - level) c f ≡ 0
  unfolding in_quarter
  shared_stop n = rw (one, ne_eqb (side at p c) (quadrant c (x_at at f) (y_at at f)) (λ z. n (step-side at p c x y r d ex ey ∙ z ∙ sym other-side)))

-- ---- a split

pub split-turn : (at : List Float) (p f left slot free : ℕ) (m : List ℕ) {c : Extent} {x y : Float} {r : Descent} {w : List ℕ} → 0 < left → Descends c x y r → x ≡ x_at at p → y ≡ y_at at p
    → w ≡ put_internal m slot (set childless r.quadrant (free + 1)) → parted at p f (left - 1) (cell_of r.indexer) free (free + 1) w ≡ parted at p f left c slot free m
split-turn at p f zero slot free m lt d ex ey e = absurd (omega arith)
split-turn at p f (suc n) slot free m {c} {x} {y} {r} lt d ex ey e =
    let z : suc n - 1 ≡ n = omega arith in
    rw (z, step-cell at p c x y r d ex ey, e, step-side at p c x y r d ex ey)
