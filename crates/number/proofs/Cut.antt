-- A number within 2 ^ 40 of zero cut toward zero, as a cast does it, and the floor from that. Assumes nothing.
use Rattle.std.proofs.Common.{◌≡◌, ℕ, zero, suc, ◌-◌, ◌*◌, ◌/◌, ◌^◌, ◌<◌, ◌≤◌, min, Bool, true, false, not, T, ltb, ℤ, pos, negsuc, ◌-ℤ◌, neg_ℤ, sym, refl, ap, ◌∙◌, subst, le_trans, le_of_eq, lt_of_lt_of_le, lt_of_le_of_lt, le_of_lt, lt_irrefl, lt-suc_self, mul_comm, div-lt_iff_lt-mul, div-mul-le_self, le_of_mul-le-mul_right, arith, lit<, lit≤, le→leb, ltb→lt, lt→ltb, nltb→le, w64, SFits, to_z, of_z}
use native.Mathlib.Nat.{div-le_of_le-mul}
use lib.IntN.{pred_ℤ, -ℤ_one}
use lib.Signed.{lt_z}
use lib.Ieee.{Float, nan, inf, fin, binary64, up, down, of_int, lt, le, to_signed}
use lib.Ieee.Fits.{down_pos}
use mir.ValLaws.{to_z-of_z}
use Rattle.rules.specs.Number.{within}
use Rattle.rules.specs.Floor.{floor, ceiling}
use Rattle.rules.proofs.Floor.{ceiling_ge, ceiling-least}
use Rattle.number.proofs.Order.{signed, flip, flip_nat}
use Rattle.number.proofs.Integers.{HasInt, of_int_has, Within}
use Rattle.number.proofs.Flooring.{magnitude, int_le_x, x_lt_int, negatives, either_side, Bounded, bounded, floor_lt, within-finite}

-- ---- what `truncating_f64_to_i64` requires

abbrev 2^63 : ℕ
2^63 = 0x8000_0000_0000_0000

far : (n d : ℕ) → 0 < d → n ≤ 2 ^ 40 * d → n < 2^63 * d
far n d D h = omega arith

below-far : (n p : ℕ) → 0 < p → T (lt_z (signed true n) (pos p))
below-far zero p h = lt→ltb 0 p h
below-far (suc n) p h = tt

asked_of : (x : Float) → Bounded x → T (le (fin true 1 (pos 63)) x) × T (lt x (fin false 1 (pos 63)))
asked_of nan b = absurd b
asked_of (inf s) b = absurd b
asked_of (fin false m e) b = (
  subst T (sym (int_le_x (fin true 1 (pos 63)) (negsuc 0x7fff_ffff_ffff_ffff) false m e (refl, refl) ∙ either_side (2^63 * down e) (m * up e))) tt,
  subst T (sym (x_lt_int (fin false 1 (pos 63)) (pos 2^63) false m e (refl, refl))) (lt→ltb (m * up e) (2^63 * down e) (far (m * up e) (down e) (down_pos e) b)),
)
asked_of (fin true m e) b =
    let g : m * up e < 2^63 * down e = far (m * up e) (down e) (down_pos e) b in (
      subst T (sym (int_le_x (fin true 1 (pos 63)) (negsuc 0x7fff_ffff_ffff_ffff) true m e (refl, refl) ∙ negatives (2^63 * down e) (m * up e))) (le→leb (m * up e) (2^63 * down e) (le_of_lt g)),
      subst T (sym (x_lt_int (fin false 1 (pos 63)) (pos 2^63) true m e (refl, refl))) (below-far (m * up e) (2^63 * down e) (some (m * up e) (2^63 * down e) g)),
    )
  where
    some : (n p : ℕ) → n < p → 0 < p
    some n p h = omega arith

pub asked : (x : Float) → T (within x) → T (le (fin true 1 (pos 63)) x) × T (lt x (fin false 1 (pos 63)))
asked x t = asked_of x (bounded x t)

-- ---- the cut

abbrev cut : Float → ℤ
cut nan = pos 0
cut (inf s) = pos 0
cut (fin s m e) = signed s (m * up e / down e)

quot_le : (n d : ℕ) → n ≤ 2 ^ 40 * d → n / d ≤ 2 ^ 40
quot_le n d h = div-le_of_le-mul d (le_trans h (le_of_eq (mul_comm (2 ^ 40) d)))

cut_of : (x : Float) → Bounded x → to_signed 63 x ≡ cut x
unfolding to_signed
cut_of nan b = absurd b
cut_of (inf s) b = absurd b
cut_of (fin false m e) b = ap pos (free (m * up e / down e) (quot_le (m * up e) (down e) b))
  where
    free : (q : ℕ) → q ≤ 2 ^ 40 → min q (2 ^ 63 - 1) ≡ q
    free q h = omega arith
cut_of (fin true m e) b = ap (λ (q : ℕ). neg_ℤ (pos q)) (free (m * up e / down e) (quot_le (m * up e) (down e) b))
  where
    free : (q : ℕ) → q ≤ 2 ^ 40 → min q (2 ^ 63) ≡ q
    free q h = omega arith

cut-within : (x : Float) → Bounded x → Within 40 (cut x)
cut-within nan b = absurd b
cut-within (inf s) b = absurd b
cut-within (fin false m e) b = record { within = quot_le (m * up e) (down e) b }
cut-within (fin true m e) b = record { within = le_trans (le_of_eq (magnitude (m * up e / down e))) (quot_le (m * up e) (down e) b) }

-- ---- the floor is the cut, or one less where it is below

over-cut : (n d : ℕ) → 0 < d → ceiling n d ≤ suc (n / d)
over-cut n d D = ceiling-least n d (suc (n / d)) D (le_of_lt ((div-lt_iff_lt-mul D).0 (lt-suc_self (n / d))))

under-cut : (n d : ℕ) → 0 < d → n / d ≤ ceiling n d
under-cut n d D = le_of_mul-le-mul_right (le_trans (div-mul-le_self n d) (ceiling_ge n d D)) D

below-negative : (c q : ℕ) → lt_z (signed true c) (signed true q) ≡ ltb q c
below-negative c q = flip (signed true c) (signed true q) ∙ ap not (negatives q c) ∙ sym (flip_nat q c)

floor-cut : (x : Float) → Bounded x → lt_z (floor x) (cut x) ≡ true → pred_ℤ (cut x) ≡ floor x
unfolding floor
floor-cut nan b h = absurd b
floor-cut (inf s) b h = absurd b
floor-cut (fin false m e) b h = absurd (lt_irrefl (m * up e / down e) (ltb→lt (m * up e / down e) (m * up e / down e) (subst T (sym h) tt)))
floor-cut (fin true m e) b h = go (m * up e / down e) (ceiling (m * up e) (down e)) (over-cut (m * up e) (down e) (down_pos e)) (ltb→lt (m * up e / down e) (ceiling (m * up e) (down e)) (subst T (sym (sym (below-negative (ceiling (m * up e) (down e)) (m * up e / down e)) ∙ h)) tt))
  where
    next : (q : ℕ) → pred_ℤ (neg_ℤ (pos q)) ≡ neg_ℤ (pos (suc q))
    next zero = refl
    next (suc q) = refl

    go : (q c : ℕ) → c ≤ suc q → q < c → pred_ℤ (neg_ℤ (pos q)) ≡ neg_ℤ (pos c)
    go q c h k = let e : suc q ≡ c = omega arith in next q ∙ ap (λ (n : ℕ). neg_ℤ (pos n)) e

floor-whole : (x : Float) → Bounded x → lt_z (floor x) (cut x) ≡ false → cut x ≡ floor x
unfolding floor
floor-whole nan b h = absurd b
floor-whole (inf s) b h = absurd b
floor-whole (fin false m e) b h = refl
floor-whole (fin true m e) b h = go (m * up e / down e) (ceiling (m * up e) (down e)) (under-cut (m * up e) (down e) (down_pos e)) (nltb→le (m * up e / down e) (ceiling (m * up e) (down e)) (subst (λ (t : Bool). T (not t)) (sym (sym (below-negative (ceiling (m * up e) (down e)) (m * up e / down e)) ∙ h)) tt))
  where
    go : (q c : ℕ) → q ≤ c → c ≤ q → neg_ℤ (pos q) ≡ neg_ℤ (pos c)
    go q c h k = let e : q ≡ c = omega arith in ap (λ (n : ℕ). neg_ℤ (pos n)) e

-- ---- the two returns, with z for what `truncating_f64_to_i64` gave and y for its float

module _ (x : Float) (z : ℤ) (r : T (within x)) (Z : z ≡ to_signed 63 x) where
  is_cut : z ≡ cut x
  is_cut = Z ∙ cut_of x (bounded x r)

  small : Within 40 z
  small = subst (Within 40) (sym is_cut) (cut-within x (bounded x r))

  fits : SFits w64 z
  fits = go z small
    where
      go : (z : ℤ) → Within 40 z → SFits w64 z
      go (pos n) w = record { sfits = lt_of_le_of_lt w.within (lit< tt) }
      go (negsuc n) w = record { sfits = lt_of_lt_of_le w.within (lit≤ tt) }

  less-fits : SFits w64 (pred_ℤ z)
  less-fits = go z small
    where
      go : (z : ℤ) → Within 40 z → SFits w64 (pred_ℤ z)
      go (pos zero) w = record { sfits = lit< tt }
      go (pos (suc n)) w = record { sfits = lt_of_lt_of_le w.within (lit≤ tt) }
      go (negsuc n) w = record { sfits = lt_of_le_of_lt w.within (lit< tt) }

  -- the machine writes each signed value as bits and reads it back
  back : to_z w64 (of_z w64 z) ≡ z
  back = to_z-of_z w64 z fits

  less-is : to_z w64 (of_z w64 z) -ℤ pos 1 ≡ pred_ℤ z
  less-is = ap (λ (v : ℤ). v -ℤ pos 1) back ∙ -ℤ_one z

  pub sub-fits : SFits w64 (to_z w64 (of_z w64 z) -ℤ pos 1)
  sub-fits = subst (λ (v : ℤ). SFits w64 v) (sym less-is) less-fits

  module _ (y : Float) (Y : y ≡ of_int binary64 (to_z w64 (of_z w64 z))) where
    has : HasInt y z
    has = subst (λ (v : Float). HasInt v z) (sym (Y ∙ ap (of_int binary64) back)) (of_int_has 40 z (lit≤ tt) small)

    below : lt x y ≡ lt_z (floor x) (cut x)
    below = floor_lt x y z (within-finite x r) has ∙ ap (lt_z (floor x)) is_cut

    pub floor-less : lt x y ≡ true → to_z w64 (of_z w64 (to_z w64 (of_z w64 z) -ℤ pos 1)) ≡ floor x
    floor-less t = to_z-of_z w64 (to_z w64 (of_z w64 z) -ℤ pos 1) sub-fits ∙ less-is ∙ ap pred_ℤ is_cut ∙ floor-cut x (bounded x r) (sym below ∙ t)

    pub floor-same : lt x y ≡ false → to_z w64 (of_z w64 z) ≡ floor x
    floor-same t = back ∙ is_cut ∙ floor-whole x (bounded x r) (sym below ∙ t)
