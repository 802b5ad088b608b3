-- A particle's own place is at distance zero from it, and no cell is far at distance zero.
use mathlib.Core.Path.{◌≡◌, refl, ◌∙◌, subst⁻¹}
use mathlib.Core.Bool.{Bool, true, false, cond}
use mathlib.Core.List.{List, [], ◌∷◌}
use Prim.Native.Nat.compare
use Prim.Native.Nat.{ℕ, zero, suc, ◌*◌, ◌/◌, ◌%◌, ◌^◌, ◌<◌, compare}
use native.Mathlib.Nat.{zero-div, zero-mod, sub_self, mul-pos}
use native.Mathlib.Omega.{arith}
use borrow.Author.Tests.{le-ltb}
use lib.IntN.{pos}
use lib.Dec.{eqb, ltb}
use lib.Ieee.{Float, nan, inf, fin, binary64, up, down, span, climb, size, nearest, odd, units, round, neg, sum, add, sub, mul, div, lt}
use lib.Ieee.Fits.{round_is, down_pos}
use Rattle.rules.specs.declared.Extent.{Extent}
use Rattle.rules.specs.declared.Tuning.{Tuning}
use Rattle.rules.specs.Number.{◌⊖◌, ◌⊗◌, ◌⊘◌, finite, x_at, y_at}
use Rattle.rules.specs.Flow.{length²}
use Rattle.rules.specs.ManyBody.{leaf_charge, gap_to, far}

-- ---- zero

abbrev pub 0+ : Float
0+ = fin false 0 (pos 0)

nearest_zero : (u : ℕ) → 0 < u → nearest (0 / u) (compare (0 % u * 2) u) ≡ 0
nearest_zero zero h = absurd (omega arith)
nearest_zero (suc u) h = rw (zero-div (suc u), zero-mod (suc u), compare.zero-suc u)

round-zero : (c : ℕ) → 0 < c → round binary64 false 0 c ≡ 0+
unfolding size span climb units odd
round-zero c h = round_is binary64 false 0 c ∙ rw (zero-div c, nearest_zero (c * 1) (omega arith))

-- a number less itself is +0
less_itself : (x : Float) → finite x ≡ true → x ⊖ x ≡ 0+
unfolding finite neg sum add sub
less_itself nan h = absurd (let z : ◌≡◌ {A = ℕ} 0 1 = cc in omega arith)
less_itself (inf s) h = absurd (let z : ◌≡◌ {A = ℕ} 0 1 = cc in omega arith)
less_itself (fin false m e) h = rw (le-ltb (m * up e * down e) (m * up e * down e) (omega arith), sub_self (m * up e * down e)) (round-zero (down e * down e) (mul-pos (down_pos e) (down_pos e)))
less_itself (fin true m e) h = rw (le-ltb (m * up e * down e) (m * up e * down e) (omega arith), sub_self (m * up e * down e)) (round-zero (down e * down e) (mul-pos (down_pos e) (down_pos e)))

-- the distance to its own place
pub own-length : (at strengths : List Float) (i : ℕ) → finite (x_at at i) ≡ true → finite (y_at at i) ≡ true → length² (gap_to at i (leaf_charge at strengths (i ∷ []))) ≡ 0+
unfolding leaf_charge mul sum add
own-length at strengths i hx hy = rw (less_itself (x_at at i) hx, less_itself (y_at at i) hy, round-zero 1 (omega arith)) (round-zero 1 (omega arith))

-- ---- signs

-- a NaN, or no minus sign
abbrev pub Unsigned : Float → Type 0
Unsigned nan = Unit {0}
Unsigned (inf s) = s ≡ false
Unsigned (fin s m e) = s ≡ false

units_unsigned : (q k : ℕ) → Unsigned (units binary64 false q k)
unfolding units odd
units_unsigned q k = go (ltb (q * 2 ^ k) (2 ^ 2098)) q
  where
    go : (b : Bool) (q : ℕ) → Unsigned (cond b (odd 54 false q k 1074) (inf false))
    go true zero = refl
    go true (suc q) = refl
    go false q = refl

round_unsigned : (n c : ℕ) → Unsigned (round binary64 false n c)
round_unsigned n c = subst⁻¹ Unsigned (round_is binary64 false n c) (units_unsigned _ _)

-- a square
pub square_unsigned : (x : Float) → Unsigned (x ⊗ x)
unfolding mul
square_unsigned nan = tt
square_unsigned (inf false) = refl
square_unsigned (inf true) = refl
square_unsigned (fin false m e) = round_unsigned (m * up e * (m * up e)) (down e * down e)
square_unsigned (fin true m e) = round_unsigned (m * up e * (m * up e)) (down e * down e)

cond_unsigned : (b : Bool) (x y : Float) → Unsigned x → Unsigned y → Unsigned (cond b x y)
cond_unsigned true x y hx hy = hx
cond_unsigned false x y hx hy = hy

-- a quotient
over_unsigned : (x y : Float) → Unsigned x → Unsigned y → Unsigned (x ⊘ y)
unfolding div
over_unsigned nan y hx hy = tt
over_unsigned (inf s) nan hx hy = tt
over_unsigned (inf s) (inf t) hx hy = tt
over_unsigned (inf s) (fin t n d) hx hy = rw (hx, hy)
over_unsigned (fin s m e) nan hx hy = tt
over_unsigned (fin s m e) (inf t) hx hy = rw (hx, hy)
over_unsigned (fin s m e) (fin t n d) hx hy =
    rw (hx, hy)
    (cond_unsigned (eqb n 0) (cond (eqb m 0) nan (inf false)) (round binary64 false (m * up e * down d) (n * up d * down e)) (cond_unsigned (eqb m 0) nan (inf false) tt refl)
    (round_unsigned (m * up e * down d) (n * up d * down e)))

-- ---- far

not-below : (x : Float) → Unsigned x → lt x 0+ ≡ false
unfolding lt
not-below nan h = refl
not-below (inf s) h = h
not-below (fin s m e) h = rw h (le-ltb (m * up e * 1) (0 * down e) (omega arith))

-- no cell is far at distance zero
pub never-far : (t : Tuning) (c : Extent) → Unsigned t.theta2 → far t c 0+ ≡ false
unfolding far
never-far t c h = let w = c.x1 ⊖ c.x0 in not-below (w ⊗ w ⊘ t.theta2) (over_unsigned (w ⊗ w) t.theta2 (square_unsigned w) h)
