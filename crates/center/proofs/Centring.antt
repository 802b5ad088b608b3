-- Center over pairs: the sums of an axis, and every pair shifted.
use mathlib.Core.Path.{◌≡◌, refl, sym, ap, ap₂, ◌∙◌}
use mathlib.Core.List.{List, [], ◌∷◌, map}
use Prim.Native.Nat.{ℕ, ◌/◌}
use native.Mathlib.Omega.{arith}
use lib.ListN.{length}
use lib.Ieee.{Float}
use Rattle.rules.specs.declared.Particle.{Particle}
use Rattle.rules.specs.Plain.{foldl}
use Rattle.rules.specs.Number.{◌⊕◌, ◌⊖◌, 0·}
use Rattle.rules.specs.Sheet.{places_of, speeds_of}
use Rattle.rules.specs.Particle.{offset, shifted, centered}
use Rattle.center.specs.declared.Pair.{Pair}
use Rattle.center.specs.Pairs.{column, shifted_pairs, pair, offsets_of}

-- ---- the numbers of an axis

column-length : (axis : ℕ) (l : List Float) → length (column axis l) ≡ length l / 2
column-length axis [] = refl
column-length axis (x ∷ []) = refl
column-length axis (x ∷ y ∷ l) = omega (arith, column-length axis l)

-- ---- shifts

module _ (sx sy : Float) where
  shift-places : (ps : List Particle) → shifted_pairs sx sy (places_of ps) ≡ places_of (map (shifted sx sy) ps)
  unfolding shifted
  shift-places [] = refl
  shift-places (p ∷ ps) = ap (λ (l : List Float). (p.x ⊖ sx) ∷ (p.y ⊖ sy) ∷ l) (shift-places ps)

  shift-speeds : (ps : List Particle) → speeds_of ps ≡ speeds_of (map (shifted sx sy) ps)
  unfolding shifted
  shift-speeds [] = refl
  shift-speeds (p ∷ ps) = ap (λ (l : List Float). p.vx ∷ p.vy ∷ l) (shift-speeds ps)

-- ---- Center

column_x : (ps : List Particle) → column 0 (places_of ps) ≡ map (λ p. p.x) ps
column_x [] = refl
column_x (p ∷ ps) = ap (λ (l : List Float). p.x ∷ l) (column_x ps)

column_y : (ps : List Particle) → column 1 (places_of ps) ≡ map (λ p. p.y) ps
column_y [] = refl
column_y (p ∷ ps) = ap (λ (l : List Float). p.y ∷ l) (column_y ps)

-- the sums that the code makes of places
abbrev pub sums_of : List Float → Pair
sums_of places = pair (foldl ◌⊕◌ 0· (column 0 places)) (foldl ◌⊕◌ 0· (column 1 places))

offsets-columns : (x y strength : Float) (l : List Float)
    → offsets_of (sums_of l) (length l / 2) x y strength ≡ pair (offset x strength (column 0 l)) (offset y strength (column 1 l))
unfolding offset
offsets-columns x y strength l = rw (column-length 0 l, column-length 1 l)

module _ (x y strength : Float) (ps : List Particle) where
  pub centered-places : places_of (centered x y strength ps)
      ≡ (let shift = offsets_of (sums_of (places_of ps)) (length (places_of ps) / 2) x y strength in shifted_pairs shift.x shift.y (places_of ps))
  unfolding centered
  centered-places =
      sym (
      ap (λ (shift : Pair). shifted_pairs shift.x shift.y (places_of ps)) (offsets-columns x y strength (places_of ps))
      ∙ ap₂ (λ (a b : List Float). shifted_pairs (offset x strength a) (offset y strength b) (places_of ps)) (column_x ps) (column_y ps)
      ∙ shift-places _ _ ps
      )

  -- Center leaves velocities alone.
  pub center_speeds : speeds_of (centered x y strength ps) ≡ speeds_of ps
  unfolding centered
  center_speeds = sym (shift-speeds _ _ ps)
