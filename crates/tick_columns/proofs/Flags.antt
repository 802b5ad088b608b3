-- No stage of a tick changes a flag.
use mathlib.Core.Path.{◌≡◌, refl, ap}
use mathlib.Core.List.{List, [], ◌∷◌, map}
use Prim.Native.Nat.{ℕ, ◌*◌}
use native.Mathlib.Omega.{arith}
use lib.ListN.{length}
use lib.Ieee.{Float}
use Rattle.rules.specs.declared.Particle.{Particle}
use Rattle.rules.specs.Sheet.{places_of, speeds_of}
use Rattle.rules.specs.Particle.{shifted, centered, moved, closing}
use Rattle.rules.specs.Tick.{with_speeds}
use Rattle.sheet.specs.Columns.{flags_of}
use Rattle.closing.specs.Columns.{particles_from}
use Rattle.closing.proofs.Closing.{particles-back}

-- a pair of places for each flag
pub places_flags : (ps : List Particle) → length (places_of ps) ≡ length (flags_of ps) * 2
places_flags [] = refl
places_flags (p ∷ ps) = omega (arith, places_flags ps)

pub pushed_flags : (vs : List Float) (ps : List Particle) → flags_of (with_speeds vs ps) ≡ flags_of ps
pushed_flags [] ps = refl
pushed_flags (x ∷ []) ps = refl
pushed_flags (x ∷ y ∷ vs) [] = refl
pushed_flags (x ∷ y ∷ vs) (p ∷ ps) = ap (λ (l : List ℕ). p.flags ∷ l) (pushed_flags vs ps)

shifted_flags : (sx sy : Float) (ps : List Particle) → flags_of (map (shifted sx sy) ps) ≡ flags_of ps
unfolding shifted
shifted_flags sx sy [] = refl
shifted_flags sx sy (p ∷ ps) = ap (λ (l : List ℕ). p.flags ∷ l) (shifted_flags sx sy ps)

pub centered_flags : (x y strength : Float) (ps : List Particle) → flags_of (centered x y strength ps) ≡ flags_of ps
unfolding centered
centered_flags x y strength ps = shifted_flags _ _ ps

-- with a home for each
pub closing_flags : (decay : Float) (home : List Float) (ps : List Particle) → length home ≡ length (flags_of ps) * 2 → flags_of (closing decay home ps) ≡ flags_of ps
unfolding closing moved
closing_flags decay [] [] h = refl
closing_flags decay [] (p ∷ ps) h = absurd (omega arith)
closing_flags decay (x ∷ []) ps h = absurd (omega arith)
closing_flags decay (x ∷ y ∷ home) [] h = refl
closing_flags decay (x ∷ y ∷ home) (p ∷ ps) h = ap (λ (l : List ℕ). p.flags ∷ l) (closing_flags decay home ps (omega arith))

-- particles are those that stand in their columns
pub columns_of : (qs : List Particle) (places speeds : List Float) (flags : List ℕ) → places_of qs ≡ places → speeds_of qs ≡ speeds → flags_of qs ≡ flags
    → particles_from places speeds flags ≡ qs
columns_of qs places speeds flags p v f = rw (← p, ← v, ← f) (particles-back qs)
