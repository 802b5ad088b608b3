-- Passes over a list of particles: checks that stop at the first refusal, sums, and a list that is changed from the front.
use mathlib.Core.Path.{◌≡◌, refl, ap, ◌∙◌}
use mathlib.Core.Bool.{Bool, true, false, ◌&&◌}
use mathlib.Core.List.{List, [], ◌∷◌, map}
use Prim.Native.Nat.{ℕ, ◌+◌}
use lib.ListN.{length, length-map}
use lib.Ieee.{Float, nan}
use Rattle.rules.specs.declared.Particle.{Particle}
use Rattle.rules.specs.Plain.{all, foldl}
use Rattle.rules.specs.Number.{◌⊕◌, 0·, within, finite}
use Rattle.rules.specs.Outcome.{Check, require, ◌>>=◌, check_from, check_each}
use Rattle.rules.specs.Refusal.{result_check}
use Rattle.rules.specs.Sheet.{particle, places_of, speeds_of}
use Rattle.rules.specs.Particle.{offset, shifted, centered, closing}
use Rattle.center.specs.declared.Pair.{Pair}
use Rattle.center.specs.Pairs.{pair, offsets_of}
use Rattle.talemiku.specs.Pass.{result_of, moved_alone}

-- what stands past a list's end: no pass looks there
abbrev pub none : Particle
none = particle nan nan nan nan 0

-- 9 of all particles is 9 of each
module _ (f : Particle → Particle) where
  results-from : (i : ℕ) (ps : List Particle) → result_check (places_of (map f ps)) (speeds_of (map f ps)) ≡ check_from (λ _ p. result_of (f p)) i ps
  unfolding result_check
  results-from i [] = refl
  results-from i (p ∷ ps) =
      apart (within (f p).x) (within (f p).y) (finite (f p).vx) (finite (f p).vy) (all within (places_of (map f ps))) (all finite (speeds_of (map f ps)))
      ∙ ap (λ (c : Check). result_of (f p) >>= λ _. c) (results-from (i + 1) ps)
    where
      apart : (a b c d l m : Bool) → require ((a && (b && l)) && (c && (d && m))) 9 0 ≡ require ((a && (b && true)) && (c && (d && true))) 9 0 >>= λ _. require (l && m) 9 0
      apart false b c d l m = refl
      apart true false c d l m = refl
      apart true true false d false m = refl
      apart true true false d true m = refl
      apart true true true false false m = refl
      apart true true true false true m = refl
      apart true true true true l m = refl

  pub results : (ps : List Particle) → result_check (places_of (map f ps)) (speeds_of (map f ps)) ≡ check_each (λ _ p. result_of (f p)) ps
  results ps = results-from 0 ps

-- the closing move, called alone
pub closing_each : (decay : Float) (ps : List Particle) → closing decay (places_of ps) ps ≡ map (moved_alone decay) ps
unfolding closing
closing_each decay [] = refl
closing_each decay (p ∷ ps) = ap (λ (l : List Particle). moved_alone decay p ∷ l) (closing_each decay ps)

-- ---- Center

module _ (x y strength : Float) (ps : List Particle) where
  -- how far Center moves each particle back
  abbrev pub shift : Pair
  shift = pair (offset x strength (map (λ p. p.x) ps)) (offset y strength (map (λ p. p.y) ps))

  pub centered_each : centered x y strength ps ≡ map (shifted shift.x shift.y) ps
  unfolding centered
  centered_each = refl

  -- the same by the sums of all places
  pub shift_is : (s : Pair) → s ≡ pair (foldl ◌⊕◌ 0· (map (λ p. p.x) ps)) (foldl ◌⊕◌ 0· (map (λ p. p.y) ps)) → offsets_of s (length ps) x y strength ≡ shift
  unfolding offset
  shift_is s e = rw (length-map ps (λ p. p.x), length-map ps (λ p. p.y)) (ap (λ (s : Pair). offsets_of s (length ps) x y strength) e)
