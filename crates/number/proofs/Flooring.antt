-- The floor against whole floats: x is at or above one where its floor is. Assumes nothing.
use Rattle.std.proofs.Common.{◌≡◌, ℕ, zero, suc, ◌+◌, ◌*◌, ◌/◌, ◌^◌, ◌<◌, ◌≤◌, Bool, true, false, not, T, leb, ℤ, pos, negsuc, neg_ℤ, nat_abs, sym, refl, ap, ◌∙◌, subst, le_trans, le_of_eq, mul-le-mul_right, mul_comm, le-div_iff_mul-le, mul-one, mul_right_comm, le_of_mul-le-mul_right, arith, le→leb, leb→le}
use native.Mathlib.Nat.{div-le_of_le-mul}
use lib.Signed.{lt_z, le_z}
use lib.Dec.{leb-suc-suc, leb-suc-zero, leb-zero}
use lib.Ieee.{Float, nan, inf, fin, up, down, of_bits, neg, lt, le, eq}
use lib.Ieee.Fits.{down_pos, and_l, and_r}
use lib.Ieee.Exact.{HasValue}
use Rattle.rules.specs.Number.{finite, between, within, limit}
use Rattle.rules.specs.Floor.{floor, ceiling}
use Rattle.rules.proofs.Floor.{ceiling_ge, ceiling-least}
use Rattle.number.proofs.Order.{same_test, signed, flip, lt_at, le_at}
use Rattle.number.proofs.Integers.{HasInt, negative, Within}

-- ---- a float y that is the integer w, against x, which is ± n / d

scaled : (y : Float) (s : Bool) (a c : ℕ) → HasValue y s a 1 → HasValue y s (a * c) c
scaled nan s a c h = h
scaled (inf u) s a c h = h
scaled (fin u m e) s a c h = (h.0, ap (λ (v : ℕ). v * c) (sym (mul-one (m * up e)) ∙ h.1) ∙ mul_right_comm a (down e) c)

-- w over the denominator of x
abbrev pub over : ℤ → ℤ → ℤ
over w e = signed (negative w) (nat_abs w * down e)

module _ (y : Float) (w : ℤ) (t : Bool) (m : ℕ) (e : ℤ) (h : HasInt y w) where
  pub int_le_x : le y (fin t m e) ≡ le_z (over w e) (signed t (m * up e))
  int_le_x = le_at (down e) y (fin t m e) (negative w) t (nat_abs w * down e) (m * up e) (down_pos e) (scaled y (negative w) (nat_abs w) (down e) h) (refl, refl)

  pub x_le_int : le (fin t m e) y ≡ le_z (signed t (m * up e)) (over w e)
  x_le_int = le_at (down e) (fin t m e) y t (negative w) (m * up e) (nat_abs w * down e) (down_pos e) (refl, refl) (scaled y (negative w) (nat_abs w) (down e) h)

  pub x_lt_int : lt (fin t m e) y ≡ lt_z (signed t (m * up e)) (over w e)
  x_lt_int = lt_at (down e) (fin t m e) y t (negative w) (m * up e) (nat_abs w * down e) (down_pos e) (refl, refl) (scaled y (negative w) (nat_abs w) (down e) h)

pub negatives : (p n : ℕ) → le_z (signed true p) (signed true n) ≡ leb n p
negatives zero zero = refl
negatives zero (suc n) = sym (leb-suc-zero n)
negatives (suc p) zero = sym (leb-zero (suc p))
negatives (suc p) (suc n) = sym (leb-suc-suc n p)

pub either_side : (p n : ℕ) → le_z (signed true p) (pos n) ≡ true
either_side zero n = leb-zero n
either_side (suc p) n = refl

none_above : (p n : ℕ) → T (le_z (pos p) (signed true n)) → p + n ≤ 0
none_above p zero t = let h : p ≤ 0 = leb→le p 0 t in omega arith
none_above p (suc n) t = absurd t

zeros : (p n : ℕ) → p + n ≤ 0 → T (le_z (pos p) (signed true n))
zeros p zero h = le→leb p 0 (omega arith)
zeros p (suc n) h = absurd (no p n h)
  where
    no : (p n : ℕ) → p + suc n ≤ 0 → ⊥
    no p n h = omega arith

-- ---- the floor is at least w where n / d is

floor_pos : (a n d : ℕ) → 0 < d → leb (a * d) n ≡ leb a (n / d)
floor_pos a n d D = same_test (leb (a * d) n) (leb a (n / d)) (λ t. le→leb a (n / d) ((le-div_iff_mul-le D).1 (leb→le (a * d) n t))) (λ t. le→leb (a * d) n ((le-div_iff_mul-le D).0 (leb→le a (n / d) t)))

floor_mixed : (a n d : ℕ) → 0 < d → le_z (pos (a * d)) (signed true n) ≡ le_z (pos a) (signed true (ceiling n d))
floor_mixed a n d D =
    same_test (le_z (pos (a * d)) (signed true n)) (le_z (pos a) (signed true (ceiling n d)))
    (λ t. zeros a (ceiling n d) (sum a (ceiling n d) (le_of_mul-le-mul_right (first (a * d) n d (none_above (a * d) n t)) D) (ceiling-least n d 0 D (second (a * d) n d (none_above (a * d) n t)))))
    (λ t. zeros (a * d) n (back a (ceiling n d) (none_above a (ceiling n d) t) (ceiling_ge n d D)))
  where
    first : (p n d : ℕ) → p + n ≤ 0 → p ≤ 0 * d
    first p n d h = omega arith

    second : (p n d : ℕ) → p + n ≤ 0 → n ≤ 0 * d
    second p n d h = omega arith

    sum : (a c : ℕ) → a ≤ 0 → c ≤ 0 → a + c ≤ 0
    sum a c h k = omega arith

    back : (a c : ℕ) → a + c ≤ 0 → n ≤ c * d → a * d + n ≤ 0
    back zero zero h k = omega arith
    back zero (suc c) h k = omega arith
    back (suc a) c h k = omega arith

floor_neg : (p n d : ℕ) → 0 < d → le_z (signed true (p * d)) (signed true n) ≡ le_z (signed true p) (signed true (ceiling n d))
floor_neg p n d D =
    negatives (p * d) n
    ∙ same_test (leb n (p * d)) (leb (ceiling n d) p) (λ t. le→leb (ceiling n d) p (ceiling-least n d p D (leb→le n (p * d) t))) (λ t. le→leb n (p * d) (le_trans (ceiling_ge n d D) (mul-le-mul_right d (leb→le (ceiling n d) p t))))
    ∙ sym (negatives p (ceiling n d))

-- the float of w is at most x where w is at most the floor
pub floor_le : (x y : Float) (w : ℤ) → T (finite x) → HasInt y w → le y x ≡ le_z w (floor x)
unfolding finite floor
floor_le nan y w F h = absurd F
floor_le (inf s) y w F h = absurd F
floor_le (fin false m e) y (pos a) F h = int_le_x y (pos a) false m e h ∙ floor_pos a (m * up e) (down e) (down_pos e)
floor_le (fin false m e) y (negsuc a) F h = int_le_x y (negsuc a) false m e h ∙ either_side (suc a * down e) (m * up e)
floor_le (fin true m e) y (pos a) F h = int_le_x y (pos a) true m e h ∙ floor_mixed a (m * up e) (down e) (down_pos e)
floor_le (fin true m e) y (negsuc a) F h = int_le_x y (negsuc a) true m e h ∙ floor_neg (suc a) (m * up e) (down e) (down_pos e)

not_le : (x y : Float) (w : ℤ) → T (finite x) → HasInt y w → lt x y ≡ not (le y x)
unfolding finite
not_le nan y w F h = absurd F
not_le (inf s) y w F h = absurd F
not_le (fin t m e) y w F h = x_lt_int y w t m e h ∙ flip (signed t (m * up e)) (over w e) ∙ ap not (sym (int_le_x y w t m e h))

-- x is below the float of w where the floor is below w
pub floor_lt : (x y : Float) (w : ℤ) → T (finite x) → HasInt y w → lt x y ≡ lt_z (floor x) w
floor_lt x y w F h = not_le x y w F h ∙ ap not (floor_le x y w F h) ∙ sym (flip (floor x) w)

-- ---- within 2 ^ 40 of zero

abbrev pub Bounded : Float → Type 0
Bounded nan = ⊥
Bounded (inf s) = ⊥
Bounded (fin s m e) = m * up e ≤ 2 ^ 40 * down e

limit-has : HasInt limit (pos (2 ^ 40))
unfolding of_bits
limit-has = (refl, refl)

lower-has : HasInt (neg limit) (negsuc 0xff_ffff_ffff)
unfolding of_bits neg
lower-has = (refl, refl)

test_l : (x : Float) → T (within x) → T (le (neg limit) x)
unfolding between
test_l x t = and_l (le (neg limit) x) (le x limit) t

test_r : (x : Float) → T (within x) → T (le x limit)
unfolding between
test_r x t = and_r (le (neg limit) x) (le x limit) t

no_nan : T (within nan) → ⊥
unfolding between le lt eq of_bits neg
no_nan t = t

no_inf : (s : Bool) → T (within (inf s)) → ⊥
unfolding between le lt eq of_bits neg
no_inf true t = t
no_inf false t = t

pub bounded : (x : Float) → T (within x) → Bounded x
bounded nan t = no_nan t
bounded (inf s) t = no_inf s t
bounded (fin false m e) t = leb→le (m * up e) (2 ^ 40 * down e) (subst T (x_le_int limit (pos (2 ^ 40)) false m e limit-has) (test_r (fin false m e) t))
bounded (fin true m e) t = leb→le (m * up e) (2 ^ 40 * down e) (subst T (int_le_x (neg limit) (negsuc 0xff_ffff_ffff) true m e lower-has ∙ negatives (2 ^ 40 * down e) (m * up e)) (test_l (fin true m e) t))

pub within-finite : (x : Float) → T (within x) → T (finite x)
unfolding finite
within-finite nan t = no_nan t
within-finite (inf s) t = no_inf s t
within-finite (fin s m e) t = tt

pub magnitude : (n : ℕ) → nat_abs (neg_ℤ (pos n)) ≡ n
magnitude zero = refl
magnitude (suc n) = refl

-- the floor of an x within 2 ^ 40 of zero is within it too
pub floor-within : (x : Float) → T (within x) → Within 40 (floor x)
unfolding floor
floor-within x t = go x (bounded x t)
  where
    go : (x : Float) → Bounded x → Within 40 (floor x)
    go nan b = absurd b
    go (inf s) b = absurd b
    go (fin false m e) b = record { within = div-le_of_le-mul (down e) (le_trans b (le_of_eq (mul_comm (2 ^ 40) (down e)))) }
    go (fin true m e) b = record { within = le_trans (le_of_eq (magnitude (ceiling (m * up e) (down e)))) (ceiling-least (m * up e) (down e) (2 ^ 40) (down_pos e) b) }
