-- The middle of two f64 lies between them, though it is rounded twice: rounding keeps the order, and doubling and halving are exact. Assumes nothing.
use Rattle.std.proofs.Common.{◌≡◌, ℕ, zero, suc, ◌+◌, ◌-◌, ◌*◌, ◌%◌, ◌^◌, ◌<◌, ◌≤◌, Bool, true, false, ◌&&◌, T, eqb, ltb, leb, ℤ, pos, negsuc, neg_ℤ, nat_abs, sym, refl, ap, ◌∙◌, subst, le_trans, le_of_eq, lt_of_le_of_lt, mul-le-mul_right, mul_assoc, mul-le-mul, mul-pos, one-mul, mul-one, mul_right_comm, le_of_mul-le-mul_right, arith, lit<, lit≤, eqb→eq, ltb→lt, leb→le, pow_pos, pow_mono, pow-add, le-leb}
use mathlib.Core.Bool.{false≢true}
use native.Mathlib.Nat.{pow-succ'}
use lib.Signed.{le_z}
use lib.Ieee.{Float, nan, inf, fin, binary64, up, down, round, sum, add, fits, lt, le, eq}
use lib.Ieee.Fits.{down_pos, div-fits, of_int-fits, and_l, and_r}
use lib.Ieee.Exact.{HasValue, round_exact}
use lib.Ieee.Scale.{round_same}
use lib.Ieee.Digits.{back}
use Rattle.rules.specs.Number.{◌⊕◌, ◌⊘◌, 2·, finite}
use Rattle.rules.specs.Cell.{middle}
use Rattle.rules.specs.Cover.{whole}
use Rattle.rules.proofs.CoverCount.{le_same, le_le, lt_le}
use Rattle.number.proofs.Order.{signed, le_at, two_up, pow_le_back, units_z, Finite64, lt_order, le_order}
use Rattle.number.proofs.Integers.{HasInt, negative, le_int}
use Rattle.number.proofs.Flooring.{int_le_x, x_le_int, negatives}
use Rattle.number.proofs.Tests.{yes}
use Rattle.tree_cells.proofs.CoverNear.{whole_has}
use Rattle.tree_cells.proofs.CoverRounding.{above-twice, below-twice, half_is, half_pos, half_mono}

-- ---- the half of the double is the number itself

-- 2 ^ e in units of 2 ^ -L, which e does not go below
in_units : (e : ℤ) (L : ℕ) → down e ≤ 2 ^ L → (i : ℕ) × (up e * 2 ^ L ≡ 2 ^ i * down e)
in_units (pos k) L h = (k + L, sym (pow-add 2 k L) ∙ sym (mul-one (2 ^ (k + L))))
in_units (negsuc k) L h = (L - suc k, one-mul (2 ^ L) ∙ ap (λ (n : ℕ). 2 ^ n) (sym (back L (suc k) (pow_le_back (suc k) L h))) ∙ pow-add 2 (L - suc k) (suc k))

-- at most 2 ^ 44 in size
abbrev pub Small : ℕ → ℤ → Type 0
Small m e = m * up e ≤ 2 ^ 44 * down e

module _ (m u w d c p : ℕ) (D : 0 < d) (shape : u * c ≡ w * d) where
  moved : m * u * p * c ≡ m * (w * p) * d
  moved = first m u p c ∙ ap (λ (v : ℕ). v * (m * p)) shape ∙ last m w p d
    where
      first : (m u p c : ℕ) → m * u * p * c ≡ u * c * (m * p)
      first m u p c = omega arith

      last : (m w p d : ℕ) → w * d * (m * p) ≡ m * (w * p) * d
      last m w p d = omega arith

  bounded : m * u ≤ 2 ^ 44 * d → p ≤ 2 → m * (w * p) ≤ 2 ^ 44 * c * 2
  bounded small two =
      let scaled : m * w * d ≤ 2 ^ 44 * c * d = le_trans (le_of_eq (mul_assoc m w d ∙ ap (λ (v : ℕ). m * v) (sym shape) ∙ sym (mul_assoc m u c))) (le_trans (mul-le-mul_right c small) (le_of_eq (mul_right_comm (2 ^ 44) d c))) in
      le_trans (le_of_eq (sym (mul_assoc m w p))) (mul-le-mul (le_of_mul-le-mul_right scaled D) two)

module _ (s : Bool) (m : ℕ) (e : ℤ) (small : Small m e) where
  -- x, for j = 0, and its double, for j = 1, round to themselves
  exact-at : (i j : ℕ) → m < 2 ^ 53 → up e * 2 ^ 1074 ≡ 2 ^ i * down e → j ≤ 1 → HasValue (round binary64 s (m * up e * 2 ^ j) (down e)) s (m * up e * 2 ^ j) (down e)
  exact-at i j digits shape one = round_exact binary64 s (m * up e * 2 ^ j) (down e) m (i + j) (down_pos e) digits
      (lt_of_le_of_lt (le_trans (le_of_eq (ap (λ (v : ℕ). m * v) (pow-add 2 i j))) (bounded m (up e) (2 ^ i) (down e) (2 ^ 1074) (2 ^ j) (down_pos e) shape small (pow_mono one))) (lit< tt))
      (moved m (up e) (2 ^ i) (down e) (2 ^ 1074) (2 ^ j) (down_pos e) shape ∙ ap (λ (v : ℕ). m * v * down e) (sym (pow-add 2 i j)))

-- x and its double round to themselves
pub exact : (s : Bool) (m : ℕ) (e : ℤ) → T (fits binary64 (fin s m e)) → Small m e → (j : ℕ) → j ≤ 1 → HasValue (round binary64 s (m * up e * 2 ^ j) (down e)) s (m * up e * 2 ^ j) (down e)
unfolding fits
exact s zero (pos k) t small j one = exact-at s zero (pos k) small (in_units (pos k) 1074 (pow_pos 1074)).0 j (pow_pos 53) (in_units (pos k) 1074 (pow_pos 1074)).1 one
exact s zero (negsuc k) t small j one = absurd (two_up (2 ^ k) (pow_pos k) (sym (pow-succ' 2 k) ∙ sym (one-mul (2 ^ suc k)) ∙ eqb→eq (1 * 2 ^ suc k) 1 t))
exact s (suc m) e t small j one =
    let three = and_l (eqb (suc m % 2) 1 && ltb (suc m) (2 ^ 53) && leb (down e) (2 ^ 1074)) (ltb (suc m * up e) (2 ^ 1024 * down e)) t in
    let digits : suc m < 2 ^ 53 = ltb→lt (suc m) (2 ^ 53) (and_r (eqb (suc m % 2) 1) (ltb (suc m) (2 ^ 53)) (and_l (eqb (suc m % 2) 1 && ltb (suc m) (2 ^ 53)) (leb (down e) (2 ^ 1074)) three)) in
    let u = in_units e 1074 (leb→le (down e) (2 ^ 1074) (and_r (eqb (suc m % 2) 1 && ltb (suc m) (2 ^ 53)) (leb (down e) (2 ^ 1074)) three)) in
    exact-at s (suc m) e small u.0 j digits u.1 one

-- the double is finite, and its half is neither above nor below x
record Doubled (x : Float) : Type 0 where
  whole : T (finite (x ⊕ x))
  half : T (finite ((x ⊕ x) ⊘ 2·))
  low : le x ((x ⊕ x) ⊘ 2·) ≡ true
  high : le ((x ⊕ x) ⊘ 2·) x ≡ true

has-finite : (x : Float) (s : Bool) (a c : ℕ) → HasValue x s a c → T (finite x)
unfolding finite
has-finite nan s a c h = h
has-finite (inf t) s a c h = h
has-finite (fin t m e) s a c h = tt

twice-is : (s : Bool) (m : ℕ) (e : ℤ) → fin s m e ⊕ fin s m e ≡ round binary64 s (m * up e * 2) (down e)
unfolding add
twice-is s m e = sums s ∙ round_same binary64 s (m * up e * down e + m * up e * down e) (down e * down e) (m * up e * 2) (down e) (mul-pos (down_pos e) (down_pos e)) (down_pos e) (scaled (m * up e) (down e))
  where
    sums : (s : Bool) → sum binary64 s (m * up e * down e) s (m * up e * down e) (down e * down e) ≡ round binary64 s (m * up e * down e + m * up e * down e) (down e * down e)
    sums true = unfold sum in refl
    sums false = unfold sum in refl

    scaled : (x p : ℕ) → (x * p + x * p) * p ≡ x * 2 * (p * p)
    scaled x p = omega arith

half_of : (y : Float) (s : Bool) (a c : ℕ) → 0 < c → HasValue y s (a * 2) c → y ⊘ 2· ≡ round binary64 s a c
half_of nan s a c C h = absurd h
half_of (inf t) s a c C h = absurd h
half_of (fin t m e) s a c C h = half_is t m e ∙ ap (λ (u : Bool). round binary64 u (m * up e * 1) (1 * 2 * down e)) h.0 ∙ round_same binary64 s (m * up e * 1) (1 * 2 * down e) a c (half_pos e) C (halved (m * up e) (down e) a c h.1)
  where
    halved : (x p a c : ℕ) → x * c ≡ a * 2 * p → x * 1 * c ≡ a * (1 * 2 * p)
    halved x p a c e = omega arith

same-value : (x y : Float) (s : Bool) (a c : ℕ) → 0 < c → HasValue x s a c → HasValue y s a c → le x y ≡ true
same-value x y s a c C h k = le_at c x y s s a a C h k ∙ le_same (signed s a)

doubled : (s : Bool) (m : ℕ) (e : ℤ) → T (fits binary64 (fin s m e)) → Small m e → Doubled (fin s m e)
doubled s m e t small =
    let x = fin s m e in
    let a = m * up e * 1 in
    let two : HasValue (x ⊕ x) s (m * up e * 2) (down e) = subst (λ (y : Float). HasValue y s (m * up e * 2) (down e)) (sym (twice-is s m e)) (exact s m e t small 1 (lit≤ tt)) in
    let is : (x ⊕ x) ⊘ 2· ≡ round binary64 s a (down e) = half_of (x ⊕ x) s a (down e) (down_pos e) (subst (λ (n : ℕ). HasValue (x ⊕ x) s n (down e)) (ap (λ (n : ℕ). n * 2) (sym (mul-one (m * up e)))) two) in
    let one : HasValue ((x ⊕ x) ⊘ 2·) s a (down e) = subst (λ (y : Float). HasValue y s a (down e)) (sym is) (exact s m e t small 0 (lit≤ tt)) in
    let own : HasValue x s a (down e) = (refl, ap (λ (n : ℕ). n * down e) (sym (mul-one (m * up e)))) in
    record {
      whole = has-finite (x ⊕ x) s (m * up e * 2) (down e) two;
      half = has-finite ((x ⊕ x) ⊘ 2·) s a (down e) one;
      low = same-value x ((x ⊕ x) ⊘ 2·) s a (down e) (down_pos e) own one;
      high = same-value ((x ⊕ x) ⊘ 2·) x s a (down e) (down_pos e) one own;
    }

-- ---- what lies between two finite numbers is finite

between-finite : (p r q : Float) → T (finite p) → T (finite q) → le p r ≡ true → le r q ≡ true → T (finite r)
unfolding finite le lt eq
between-finite nan r q f g h k = absurd f
between-finite (inf s) r q f g h k = absurd f
between-finite (fin s m e) r nan f g h k = absurd g
between-finite (fin s m e) r (inf t) f g h k = absurd g
between-finite (fin s m e) nan (fin t n d) f g h k = absurd (false≢true h)
between-finite (fin s m e) (inf true) (fin t n d) f g h k = absurd (false≢true h)
between-finite (fin s m e) (inf false) (fin t n d) f g h k = absurd (false≢true k)
between-finite (fin s m e) (fin u l c) (fin t n d) f g h k = tt

-- ---- theorems

-- at most and below, one after the other
module _ (x y z : Float) (F : Finite64 x) (G : Finite64 y) (H : Finite64 z) where
  pub le_through : le x y ≡ true → le y z ≡ true → le x z ≡ true
  le_through h k = le_order x z F H ∙ le_le (units_z x) (units_z y) (units_z z) (sym (le_order x y F G) ∙ h) (sym (le_order y z G H) ∙ k)

  pub lt_through : lt x y ≡ true → le y z ≡ true → lt x z ≡ true
  lt_through h k = lt_order x z F H ∙ lt_le (units_z x) (units_z y) (units_z z) (sym (lt_order x y F G) ∙ h) (sym (le_order y z G H) ∙ k)

-- an f64 within 2 ^ 44 of zero
pub record Tame (x : Float) : Type 0 where
  pub is : Finite64 x
  pub low : le (whole (neg_ℤ (pos (2 ^ 44)))) x ≡ true
  pub high : le x (whole (pos (2 ^ 44))) ≡ true

small : (s : Bool) (m : ℕ) (e : ℤ) → Tame (fin s m e) → Small m e
small false m e t = leb→le (m * up e) (2 ^ 44 * down e) (yes (sym (x_le_int (whole (pos (2 ^ 44))) (pos (2 ^ 44)) false m e (whole_has (pos (2 ^ 44)) (lit≤ tt))) ∙ t.high))
small true m e t = leb→le (m * up e) (2 ^ 44 * down e) (yes (sym (int_le_x (whole (neg_ℤ (pos (2 ^ 44)))) (neg_ℤ (pos (2 ^ 44))) true m e (whole_has (neg_ℤ (pos (2 ^ 44))) (lit≤ tt)) ∙ negatives (2 ^ 44 * down e) (m * up e)) ∙ t.low))

limit-finite : (z : ℤ) → nat_abs z ≤ 2 ^ 44 → Finite64 (whole z)
limit-finite z h = record { finite = int-finite (whole z) z (whole_has z h); held = of_int-fits binary64 z }
  where
    int-finite : (x : Float) (z : ℤ) → HasInt x z → T (finite x)
    int-finite x z h = has-finite x (negative z) (nat_abs z) 1 h

pub record Middle (a b : Float) : Type 0 where
  pub tame : Tame (middle a b)
  pub low : le a (middle a b) ≡ true
  pub high : le (middle a b) b ≡ true

between : (a b : Float) → Tame a → Tame b → Doubled a → Doubled b → le (a ⊕ a) (a ⊕ b) ≡ true → le (a ⊕ b) (b ⊕ b) ≡ true → Middle a b
unfolding middle
between a b A B p q u v =
    let f : T (finite (a ⊕ b)) = between-finite (a ⊕ a) (a ⊕ b) (b ⊕ b) p.whole q.whole u v in
    let lo : le ((a ⊕ a) ⊘ 2·) ((a ⊕ b) ⊘ 2·) ≡ true = half_mono (a ⊕ a) (a ⊕ b) p.whole f u in
    let hi : le ((a ⊕ b) ⊘ 2·) ((b ⊕ b) ⊘ 2·) ≡ true = half_mono (a ⊕ b) (b ⊕ b) f q.whole v in
    let P : Finite64 ((a ⊕ a) ⊘ 2·) = record { finite = p.half; held = div-fits binary64 (a ⊕ a) 2· } in
    let Q : Finite64 ((b ⊕ b) ⊘ 2·) = record { finite = q.half; held = div-fits binary64 (b ⊕ b) 2· } in
    let M : Finite64 ((a ⊕ b) ⊘ 2·) = record { finite = between-finite ((a ⊕ a) ⊘ 2·) ((a ⊕ b) ⊘ 2·) ((b ⊕ b) ⊘ 2·) p.half q.half lo hi; held = div-fits binary64 (a ⊕ b) 2· } in
    let low : le a ((a ⊕ b) ⊘ 2·) ≡ true = le_through a ((a ⊕ a) ⊘ 2·) ((a ⊕ b) ⊘ 2·) A.is P M p.low lo in
    let high : le ((a ⊕ b) ⊘ 2·) b ≡ true = le_through ((a ⊕ b) ⊘ 2·) ((b ⊕ b) ⊘ 2·) b M Q B.is hi q.high in
    record {
      tame = record {
        is = M;
        low = le_through (whole (neg_ℤ (pos (2 ^ 44)))) a ((a ⊕ b) ⊘ 2·) (limit-finite (neg_ℤ (pos (2 ^ 44))) (lit≤ tt)) A.is M A.low low;
        high = le_through ((a ⊕ b) ⊘ 2·) b (whole (pos (2 ^ 44))) M B.is (limit-finite (pos (2 ^ 44)) (lit≤ tt)) high B.high;
      };
      low = low;
      high = high;
    }

-- The middle of two such numbers is such a number, and lies between them, ends included.
pub middle-between : (a b : Float) → Tame a → Tame b → le a b ≡ true → Middle a b
unfolding finite
middle-between nan b A B h = absurd A.is.finite
middle-between (inf s) b A B h = absurd A.is.finite
middle-between (fin s m e) nan A B h = absurd B.is.finite
middle-between (fin s m e) (inf t) A B h = absurd B.is.finite
middle-between (fin s m e) (fin t n d) A B h =
    between (fin s m e) (fin t n d) A B (doubled s m e A.is.held (small s m e A)) (doubled t n d B.is.held (small t n d B)) (above-twice s t m n e d h) (below-twice s t m n e d h)

-- A whole number within 2 ^ 44 of zero is such a number.
pub whole_tame : (z : ℤ) → nat_abs z ≤ 2 ^ 44 → Tame (whole z)
whole_tame z h = record {
  is = limit-finite z h;
  low = le_int (whole (neg_ℤ (pos (2 ^ 44)))) (whole z) (neg_ℤ (pos (2 ^ 44))) z (whole_has (neg_ℤ (pos (2 ^ 44))) (lit≤ tt)) (whole_has z h) ∙ above z h;
  high = le_int (whole z) (whole (pos (2 ^ 44))) z (pos (2 ^ 44)) (whole_has z h) (whole_has (pos (2 ^ 44)) (lit≤ tt)) ∙ below z h;
}
  where
    above : (z : ℤ) → nat_abs z ≤ 2 ^ 44 → le_z (neg_ℤ (pos (2 ^ 44))) z ≡ true
    above (pos n) h = refl
    above (negsuc n) h = le-leb n 0xfff_ffff_ffff (omega arith)

    below : (z : ℤ) → nat_abs z ≤ 2 ^ 44 → le_z z (pos (2 ^ 44)) ≡ true
    below (pos n) h = le-leb n (2 ^ 44) h
    below (negsuc n) h = refl
