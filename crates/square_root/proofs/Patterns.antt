-- Which values the tests of `root` leave, their patterns, and what each return owes. Assumes nothing.
use mathlib.Core.Path.{◌≡◌, refl, sym, ap, ◌∙◌, subst}
use mathlib.Core.Bool.{true, false, ◌&&◌, true≢false, false≢true}
use Prim.Native.Nat.{ℕ, zero, suc, ◌+◌, ◌-◌, ◌*◌, ◌/◌, ◌%◌, ◌^◌, ◌≤◌, ◌<◌}
use native.Mathlib.Nat.{le_of_eq, lt_of_lt_of_le, lt_of_le_of_lt, lt_irrefl, mul_right_comm, mul-lt-mul_of_pos_right, div-lt_iff_lt-mul}
use native.Mathlib.Omega.{arith}
use lib.IntN.{ℤ, pos}
use lib.Dec.{T, leb, ltb, eqb, ltb→lt, lit<}
use lib.Pow.{pow-add, pow_pos}
use lib.Ieee.{Float, nan, inf, fin, binary64, up, down, size, fits, of_bits, to_bits, lt, eq}
use lib.Ieee.Fits.{and_r, down_pos, kept-lt}
use lib.Ieee.Digits.{size-le}
use lib.Ieee.Bits.{of_bits-to_bits}
use Rattle.rules.specs.Number.{float_of, bits_of, 0·}
use Rattle.rules.specs.Root.{infinity, root_pattern, root}
use Rattle.number.proofs.Tests.{eq_zero, not-zero, lt_zero, no_neg, no_pos}

-- ---- the pattern of a finite value above zero

bits_fin : (m : ℕ) (e : ℤ) → bits_of (fin false m e) ≡ 0 + (size (m * up e * 2 ^ 1074 / down e) - 53) * 2 ^ 52 + m * up e * 2 ^ 1074 / down e / 2 ^ (size (m * up e * 2 ^ 1074 / down e) - 53)
unfolding to_bits
bits_fin m e = refl

-- an f64 is below 2 ^ 1024
fits_top : (m : ℕ) (e : ℤ) → T (fits binary64 (fin false (suc m) e)) → suc m * up e < 2 ^ 1024 * down e
unfolding fits
fits_top m e t = ltb→lt (suc m * up e) (2 ^ 1024 * down e) (and_r (eqb (suc m % 2) 1 && ltb (suc m) (2 ^ 53) && leb (down e) (2 ^ 1074)) (ltb (suc m * up e) (2 ^ 1024 * down e)) t)

top_units : (a d : ℕ) → 0 < d → a < 2 ^ 1024 * d → a * 2 ^ 1074 / d < 2 ^ 2098
top_units a d D h =
    (div-lt_iff_lt-mul D).1
    (lt_of_lt_of_le (mul-lt-mul_of_pos_right h (pow_pos 1074))
    (le_of_eq (mul_right_comm (2 ^ 1024) d (2 ^ 1074) ∙ ap (λ (x : ℕ). x * d) (sym (pow-add 2 1024 1074)))))

finite_lt : (m : ℕ) (e : ℤ) → T (fits binary64 (fin false (suc m) e)) → bits_of (fin false (suc m) e) < infinity
finite_lt m e t =
    let n = suc m * up e * 2 ^ 1074 / down e in
    let z : size n ≤ 2098 = size-le n 2098 (top_units (suc m * up e) (down e) (down_pos e) (fits_top m e t)) in
    subst (λ (x : ℕ). x < infinity) (sym (bits_fin (suc m) e)) (go (size n) (n / 2 ^ (size n - 53)) z (kept-lt 53 n))
  where
    go : (s q : ℕ) → s ≤ 2098 → q < 2 ^ 53 → 0 + (s - 53) * 2 ^ 52 + q < infinity
    go s q h k = omega arith

zero_is : 0· ≡ fin false 0 (pos 0)
unfolding of_bits
zero_is = refl

no_zero : (m : ℕ) (e : ℤ) → T (fits binary64 (fin false (suc m) e)) → bits_of (fin false (suc m) e) ≡ 0 → ⊥
no_zero m e t h = differ (sym (of_bits-to_bits binary64 (fin false (suc m) e) t) ∙ ap (of_bits binary64) h ∙ zero_is)
  where
    differ : fin false (suc m) e ≡ fin false 0 (pos 0) → ⊥
    differ q = let z : suc m ≡ 0 = cc in omega arith

-- ---- which values the tests leave: neither zero nor below zero

pub data Kind : Float → Type 0 where
  none : Kind nan
  infinite : Kind (inf false)
  positive : (m : ℕ) (e : ℤ) → Kind (fin false (suc m) e)

pub kind : (x : Float) → lt x 0· ≡ false → eq x 0· ≡ false → Kind x
unfolding lt of_bits
kind nan a b = none
kind (inf true) a b = absurd (true≢false a)
kind (inf false) a b = infinite
kind (fin s zero e) a b = absurd (true≢false (sym (eq_zero s e) ∙ b))
kind (fin true (suc m) e) a b = absurd (true≢false (sym (lt_zero m e) ∙ a))
kind (fin false (suc m) e) a b = positive m e

inf_is : bits_of (inf false) ≡ infinity
unfolding to_bits
inf_is = refl

nan_is : bits_of nan ≡ 0x7ff8_0000_0000_0000
unfolding to_bits
nan_is = refl

pub some : (x : Float) → Kind x → T (fits binary64 x) → 0 < bits_of x
some x none t = subst (λ (n : ℕ). 0 < n) (sym nan_is) (lit< tt)
some x infinite t = subst (λ (n : ℕ). 0 < n) (sym inf_is) (lit< tt)
some x (positive m e) t = go (bits_of (fin false (suc m) e)) (no_zero m e t)
  where
    go : (n : ℕ) → (n ≡ 0 → ⊥) → 0 < n
    go n f = omega arith

-- ---- what each return owes

pub root-negative : (x : Float) → lt x 0· ≡ true → of_bits binary64 0x7ff8_0000_0000_0000 ≡ root x
unfolding lt of_bits root
root-negative nan h = refl
root-negative (inf true) h = refl
root-negative (inf false) h = absurd (false≢true h)
root-negative (fin true zero e) h = absurd (no_neg e h)
root-negative (fin false zero e) h = absurd (no_pos 0 e h)
root-negative (fin true (suc m) e) h = refl
root-negative (fin false (suc m) e) h = absurd (no_pos (suc m) e h)

pub root-zero : (x : Float) → eq x 0· ≡ true → x ≡ root x
unfolding eq of_bits root
root-zero nan h = refl
root-zero (inf s) h = absurd (false≢true h)
root-zero (fin true zero e) h = refl
root-zero (fin false zero e) h = refl
root-zero (fin true (suc m) e) h = absurd (not-zero true m e h)
root-zero (fin false (suc m) e) h = absurd (not-zero false m e h)

pub root-large : (x : Float) → Kind x → T (fits binary64 x) → infinity ≤ bits_of x → x ≡ root x
unfolding root
root-large x none t h = refl
root-large x infinite t h = refl
root-large x (positive m e) t h = absurd (lt_irrefl infinity (lt_of_le_of_lt h (finite_lt m e t)))

pub root-finite : (x : Float) → Kind x → bits_of x < infinity → float_of (root_pattern (bits_of x)) ≡ root x
unfolding root
root-finite x none h = absurd (beyond (bits_of nan) nan_is h)
  where
    beyond : (n : ℕ) → n ≡ 0x7ff8_0000_0000_0000 → n < infinity → ⊥
    beyond n e h = omega arith
root-finite x infinite h = absurd (lt_irrefl infinity (subst (λ (n : ℕ). n < infinity) inf_is h))
root-finite x (positive m e) h = refl
