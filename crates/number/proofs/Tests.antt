-- What the tests of the small functions say of a number: whether it is a NaN, zero, below zero, finite. Assumes nothing.
use Rattle.std.proofs.Common.{◌≡◌, ℕ, suc, ◌+◌, ◌*◌, ◌%◌, ◌^◌, ◌<◌, ◌≤◌, Bool, true, false, not, ◌||◌, T, eqb, ltb, ℤ, sym, refl, ap, ◌∙◌, subst, true≢false, zero-lt-suc, mul-pos, zero-mul, mul-one, arith, eqb→eq, ltb→lt, lt→ltb}
use mathlib.Core.Bool.{beq, false≢true}
use lib.Arith.{le→nltb}
use lib.Ieee.{Float, nan, inf, fin, binary64, up, down, is_nan, of_bits, to_bits, nan_bits, lt, eq, ne, level}
use lib.Ieee.Fits.{and_l, up_pos}
use lib.Ieee.Bits.{nan_bits_is, nan_bits_above, is_true}
use lib.Ieee.Compare.{nan_differs}
use Rattle.std.specs.Float.{float_is_finite, float_with_sign}
use Rattle.rules.specs.Number.{float_of, bits_of, 0·, finite, abs}
use Rattle.rules.specs.Root.{infinity}

pub yes : {b : Bool} → b ≡ true → T b
yes h = subst T (sym h) tt

-- ---- NaN

pub no_nan : (x : Float) → ne x x ≡ false → T (not (is_nan x))
unfolding is_nan
no_nan nan h = absurd (true≢false (sym nan_differs ∙ h))
no_nan (inf s) h = tt
no_nan (fin s m e) h = tt

is_nan_lem : (x : Float) → T (is_nan x) → x ≡ nan
unfolding is_nan
is_nan_lem nan h = refl
is_nan_lem (inf s) h = absurd h
is_nan_lem (fin s m e) h = absurd h

-- a NaN is written as the one
pub nan_bits_are : (x : Float) → is_nan x ≡ true → 0x7ff8_0000_0000_0000 ≡ bits_of x
unfolding is_nan to_bits
nan_bits_are nan h = refl
nan_bits_are (inf s) h = absurd (false≢true h)
nan_bits_are (fin s m e) h = absurd (false≢true h)

nan_pattern : of_bits binary64 0x7ff8_0000_0000_0000 ≡ nan
unfolding of_bits
nan_pattern = refl

-- beyond the infinity, without the sign, every pattern is a NaN
pub nan_of : (b : ℕ) → infinity < b % 2 ^ 63 → of_bits binary64 0x7ff8_0000_0000_0000 ≡ float_of b
nan_of b h = nan_pattern ∙ sym (is_nan_lem (float_of b) (subst T (sym (nan_bits_above binary64 b) ∙ nan_bits_is binary64 b) (lt→ltb infinity (b % 2 ^ 63) h)))

pub no_nan_of : (b : ℕ) → b % 2 ^ 63 ≤ infinity → T (not (nan_bits binary64 b))
no_nan_of b h = subst (λ (t : Bool). T (not t)) (sym (nan_bits_above binary64 b)) (le→nltb infinity (b % 2 ^ 63) h)

-- ---- the library's methods

pub finite_is : (x : Float) → float_is_finite x ≡ finite x
unfolding float_is_finite finite
finite_is nan = refl
finite_is (inf s) = refl
finite_is (fin s m e) = refl

pub abs_is : (x : Float) → float_with_sign false x ≡ abs x
unfolding float_with_sign abs
abs_is nan = refl
abs_is (inf s) = refl
abs_is (fin s m e) = refl

-- ---- zero, and below zero

level_zero : (s : Bool) → level s 0 false 0 ≡ true
level_zero true = refl
level_zero false = refl

pub eq_zero : (s : Bool) (e : ℤ) → eq (fin s 0 e) 0· ≡ true
unfolding eq of_bits
eq_zero s e =
    ap (λ (a : ℕ). level s a false (0 * 1 * down e)) (mul-one (0 * up e) ∙ zero-mul (up e))
    ∙ ap (λ (b : ℕ). level s 0 false b) (zero-mul (down e))
    ∙ level_zero s

not_level : (s : Bool) (a d : ℕ) → 0 < a → T (level s (a * 1) false (0 * 1 * d)) → ⊥
not_level s a d p t = go a d p (eqb→eq (a * 1) (0 * 1 * d) (and_l (eqb (a * 1) (0 * 1 * d)) (beq s false || eqb (a * 1) 0) t))
  where
    go : (a d : ℕ) → 0 < a → a * 1 ≡ 0 * 1 * d → ⊥
    go a d p e = omega arith

-- what has a digit is not zero
pub not-zero : (s : Bool) (m : ℕ) (e : ℤ) → eq (fin s (suc m) e) 0· ≡ true → ⊥
unfolding eq of_bits
not-zero s m e h = not_level s (suc m * up e) (down e) (mul-pos (zero-lt-suc m) (up_pos e)) (yes h)

pub lt_zero : (m : ℕ) (e : ℤ) → lt (fin true (suc m) e) 0· ≡ true
unfolding lt of_bits
lt_zero m e = is_true (ltb 0 (suc m * up e * 1 + 0 * 1 * down e)) (lt→ltb 0 (suc m * up e * 1 + 0 * 1 * down e) (go (suc m * up e) (0 * 1 * down e) (mul-pos (zero-lt-suc m) (up_pos e))))
  where
    go : (a b : ℕ) → 0 < a → 0 < a * 1 + b
    go a b h = omega arith

-- neither -0 nor a value with the sign clear is below zero
pub no_neg : (e : ℤ) → lt (fin true 0 e) 0· ≡ true → ⊥
unfolding lt of_bits
no_neg e h = go (up e) (down e) (ltb→lt 0 (0 * up e * 1 + 0 * 1 * down e) (yes h))
  where
    go : (u d : ℕ) → 0 < 0 * u * 1 + 0 * 1 * d → ⊥
    go u d h = omega arith

pub no_pos : (m : ℕ) (e : ℤ) → lt (fin false m e) 0· ≡ true → ⊥
unfolding lt of_bits
no_pos m e h = go (m * up e) (down e) (ltb→lt (m * up e * 1) (0 * 1 * down e) (yes h))
  where
    go : (a d : ℕ) → a * 1 < 0 * 1 * d → ⊥
    go a d h = omega arith
