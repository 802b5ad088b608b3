-- A float that is a whole number: its cast, and its text. Assumes nothing.
use mathlib.Core.Path.{◌≡◌, refl, sym, ap, ◌∙◌, subst}
use mathlib.Core.Bool.{Bool, true, false, cond, true≢false, false≢true}
use mathlib.Core.List.{List, [], ◌∷◌, ◌++◌}
use Prim.Native.Nat.{ℕ, zero, suc, compare, ◌+◌, ◌-◌, ◌*◌, ◌/◌, ◌%◌, ◌^◌, ◌≤◌, ◌<◌}
use native.Mathlib.Nat.{le_trans, lt_of_le_of_lt}
use lib.IntN.{ℤ, pos, negsuc, nat_abs}
use lib.Dec.{T, ltb, le→leb, lt→ltb, lit≤, lit<, leb-suc-zero}
use lib.Ieee.{Float, inf, binary64, low, prec, emax, odd, nearest, units, round, size, neg, lt, of_int, in_float, in_unsigned, to_unsigned, of_bits}
use lib.Ieee.Back.{unsigned_back, positive_back, negative_back}
use Rattle.rules.specs.Number.{0·}
use Rattle.rules.specs.Cover.{whole}
use Rattle.rules.specs.Listing.{decimal, signed}
use Rattle.number.proofs.Integers.{HasInt, lt_int}
use Rattle.lister_text.specs.Told.{integer, IsWhole}
use Rattle.tree_cells.proofs.CoverNear.{has}

-- ---- the float of an integer, read back

in_pos : (n : ℕ) → n ≤ 2 ^ 44 → T (in_float binary64 (pos n))
unfolding in_float
in_pos n h = le→leb n (2 ^ 53) (le_trans h (lit≤ tt))

in_negsuc : (n : ℕ) → suc n ≤ 2 ^ 44 → T (in_float binary64 (negsuc n))
unfolding in_float
in_negsuc n h = lt→ltb n (2 ^ 53) (le_trans h (lit≤ tt))

-- the integer of a float is the one that the float was made of
pub integer-whole : (z : ℤ) → nat_abs z ≤ 2 ^ 44 → integer (whole z) ≡ z
integer-whole (pos n) h = (positive_back binary64 63 n (in_pos n h) (lt_of_le_of_lt h (lit< tt))).1
integer-whole (negsuc n) h = (negative_back binary64 63 n (in_negsuc n h) (le_trans h (lit≤ tt))).1

pub is_whole : (x : Float) (z : ℤ) → x ≡ whole z → nat_abs z ≤ 2 ^ 44 → IsWhole x
is_whole x z e h =
    let i : integer x ≡ z = ap integer e ∙ integer-whole z h in
    record { is = e ∙ ap whole (sym i); near = subst (λ (w : ℤ). nat_abs w ≤ 2 ^ 44) (sym i) h }

-- ---- the other sign

neg_odd : (d q k l : ℕ) → neg (odd d true q k l) ≡ odd d false q k l
unfolding neg odd
neg_odd d zero k l = refl
neg_odd d (suc q) k l = refl

neg_units : (q k : ℕ) → neg (units binary64 true q k) ≡ units binary64 false q k
unfolding neg units
neg_units q k = go (ltb (q * 2 ^ k) (2 ^ (low binary64 + suc (emax binary64))))
  where
    go : (t : Bool) → neg (cond t (odd 54 true q k (low binary64)) (inf true)) ≡ cond t (odd 54 false q k (low binary64)) (inf false)
    go true = neg_odd 54 q k (low binary64)
    go false = refl

neg_round : (a b : ℕ) → neg (round binary64 true a b) ≡ round binary64 false a b
unfolding round
neg_round a b =
    let n = a * 2 ^ low binary64 in
    let k = size (n / b) - prec binary64 in
    let u = b * 2 ^ k in
    neg_units (nearest (n / u) (compare (n % u * 2) u)) k

neg_whole : (n : ℕ) → neg (whole (negsuc n)) ≡ whole (pos (suc n))
unfolding of_int
neg_whole n = neg_round (suc n) 1

-- ---- the text of a whole number: a sign where it is below zero, and the cast's digits

zero_is : HasInt 0· (pos 0)
unfolding of_bits
zero_is = (refl, refl)

-- y can be cast, and the text is this sign and y's digits
pub record Cast (y : Float) (sign text : List ℕ) : Type 0 where
  pub casts : T (in_unsigned binary64 64 y)
  pub small : to_unsigned 64 y < 10 ^ 14
  pub is : text ≡ sign ++ decimal (to_unsigned 64 y)

cast_of : (sign : List ℕ) (y : Float) (n : ℕ) → y ≡ whole (pos n) → n ≤ 2 ^ 44 → Cast y sign (sign ++ decimal n)
cast_of sign y n e h =
    let b = unsigned_back binary64 64 n (in_pos n h) (lt_of_le_of_lt h (lit< tt)) in
    let i : to_unsigned 64 y ≡ n = ap (to_unsigned 64) e ∙ b.1 in
    record {
      casts = subst (λ (x : Float). T (in_unsigned binary64 64 x)) (sym e) b.0;
      small = subst (λ (m : ℕ). m < 10 ^ 14) (sym i) (lt_of_le_of_lt h (lit< tt));
      is = ap (λ (m : ℕ). sign ++ decimal m) (sym i);
    }

pub above : (x : Float) → IsWhole x → lt x 0· ≡ false → Cast x [] (signed (integer x))
above x w t = go (integer x) w.is w.near
  where
    go : (z : ℤ) → x ≡ whole z → nat_abs z ≤ 2 ^ 44 → Cast x [] (signed z)
    go (pos n) e h = cast_of [] x n e h
    go (negsuc n) e h = absurd (true≢false (sym (lt_int x 0· (negsuc n) (pos 0) (has (negsuc n) e h) zero_is) ∙ t))

pub below : (x : Float) → IsWhole x → lt x 0· ≡ true → Cast (neg x) (45 ∷ []) (signed (integer x))
below x w t = go (integer x) w.is w.near
  where
    go : (z : ℤ) → x ≡ whole z → nat_abs z ≤ 2 ^ 44 → Cast (neg x) (45 ∷ []) (signed z)
    go (pos n) e h = absurd (false≢true (sym (lt_int x 0· (pos n) (pos 0) (has (pos n) e h) zero_is ∙ leb-suc-zero n) ∙ t))
    go (negsuc n) e h = cast_of (45 ∷ []) (neg x) (suc n) (ap neg e ∙ neg_whole n) h
