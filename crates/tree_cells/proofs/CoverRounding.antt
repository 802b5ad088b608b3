-- Rounding keeps the order, whatever the signs, and so do sums and halves. Assumes nothing.
use Rattle.std.proofs.Common.{◌≡◌, ℕ, zero, suc, ◌+◌, ◌-◌, ◌*◌, ◌^◌, ◌<◌, ◌≤◌, Bool, true, false, cond, not, T, ltb, ℤ, pos, negsuc, ◌+ℤ◌, ◌-ℤ◌, neg_ℤ, sym, refl, ap, ◌∙◌, subst, ap₂, true≢false, le_trans, le_of_eq, le_of_lt, mul-le-mul_right, zero-lt-suc, mul_assoc, mul_comm, add-mul, mul-pos, zero-mul, mul-one, mul_right_comm, le_of_mul-le-mul_right, arith, leb→le, ltb-false, ltb-true}
use mathlib.Core.Bool.{false≢true}
use native.Mathlib.Nat.{mul-sub}
use lib.Dec.{leb-suc-suc, leb-suc-zero}
use lib.IntN.{+ℤ_comm, +ℤ_assoc, +ℤ-neg_ℤ_cancel, neg_ℤ-+ℤ, neg_ℤ-neg_ℤ}
use lib.Signed.{le_z}
use lib.Ieee.{Float, nan, inf, fin, Format, binary64, prec, emax, low, up, down, odd, units, round, sum, add, div, neg, of_bits, lt, le, eq}
use lib.Ieee.Fits.{down_pos, round_is}
use lib.Ieee.Exact.{HasValue}
use lib.Ieee.Order.{round_mono}
use lib.Ieee.Scale.{round_same}
use lib.Ieee.Bits.{is_true}
use lib.Ieee.Digits.{back}
use Rattle.rules.specs.Number.{◌⊕◌, ◌⊘◌, 2·, finite}
use Rattle.rules.proofs.CoverCount.{le_more}
use Rattle.number.proofs.Order.{signed, le_at}
use Rattle.number.proofs.Flooring.{negatives, either_side}
use Rattle.number.proofs.Tests.{yes}

-- ---- order with signs

-- two fractions times the same number
le_z_scale : (s t : Bool) (a b k : ℕ) → 0 < k → le_z (signed s (a * k)) (signed t (b * k)) ≡ le_z (signed s a) (signed t b)
le_z_scale s t a b k K = sym (le_at k (fin s a (pos 0)) (fin t b (pos 0)) s t (a * k) (b * k) K (refl, scaled a k) (refl, scaled b k)) ∙ le_at 1 (fin s a (pos 0)) (fin t b (pos 0)) s t a b (zero-lt-suc 0) (refl, mul-one (a * 1)) (refl, mul-one (b * 1))
  where
    scaled : (a k : ℕ) → a * 1 * k ≡ a * k * 1
    scaled a k = mul_right_comm a 1 k

le_z_neg : (z w : ℤ) → le_z (neg_ℤ w) (neg_ℤ z) ≡ le_z z w
le_z_neg (pos a) (pos b) = negatives b a
le_z_neg (pos zero) (negsuc b) = leb-suc-zero b
le_z_neg (pos (suc a)) (negsuc b) = refl
le_z_neg (negsuc a) (pos b) = either_side b (suc a)
le_z_neg (negsuc a) (negsuc b) = leb-suc-suc b a

signed-not : (s : Bool) (a : ℕ) → signed (not s) a ≡ neg_ℤ (signed s a)
signed-not false a = refl
signed-not true a = sym (neg_ℤ-neg_ℤ (pos a))

le_fin : (s t : Bool) (m n : ℕ) (e d : ℤ) → le (fin s m e) (fin t n d) ≡ le_z (signed s (m * up e * down d)) (signed t (n * up d * down e))
le_fin s t m n e d = le_at (down e * down d) (fin s m e) (fin t n d) s t (m * up e * down d) (n * up d * down e) (mul-pos (down_pos e) (down_pos d)) (refl, over (m * up e) (down e) (down d)) (refl, sym (mul_assoc (n * up d) (down e) (down d)))
  where
    over : (x p q : ℕ) → x * (p * q) ≡ x * q * p
    over x p q = omega arith

-- ---- rounding keeps the order

odd_neg : (d q k l : ℕ) → odd d true q k l ≡ neg (odd d false q k l)
unfolding odd neg
odd_neg d zero k l = refl
odd_neg d (suc q) k l = refl

units_neg : (f : Format) (q k : ℕ) → units f true q k ≡ neg (units f false q k)
unfolding units neg
units_neg f q k = go (ltb (q * 2 ^ k) (2 ^ (low f + suc (emax f))))
  where
    go : (b : Bool) → cond b (odd (suc (prec f)) true q k (low f)) (inf true) ≡ neg (cond b (odd (suc (prec f)) false q k (low f)) (inf false))
    go true = odd_neg (suc (prec f)) q k (low f)
    go false = refl

pub round_neg : (f : Format) (a c : ℕ) → round f true a c ≡ neg (round f false a c)
round_neg f a c = round_is f true a c ∙ units_neg f _ _ ∙ ap neg (sym (round_is f false a c))

le_neg : (x y : Float) → le (neg y) (neg x) ≡ le x y
unfolding neg le lt eq
le_neg nan nan = refl
le_neg nan (inf t) = refl
le_neg nan (fin t n d) = refl
le_neg (inf s) nan = refl
le_neg (inf true) (inf true) = refl
le_neg (inf true) (inf false) = refl
le_neg (inf false) (inf true) = refl
le_neg (inf false) (inf false) = refl
le_neg (inf true) (fin t n d) = refl
le_neg (inf false) (fin t n d) = refl
le_neg (fin s m e) nan = refl
le_neg (fin s m e) (inf true) = refl
le_neg (fin s m e) (inf false) = refl
le_neg (fin s m e) (fin t n d) =
    le_fin (not t) (not s) n m d e
    ∙ ap₂ le_z (signed-not t (n * up d * down e)) (signed-not s (m * up e * down d))
    ∙ le_z_neg (signed s (m * up e * down d)) (signed t (n * up d * down e))
    ∙ sym (le_fin s t m n e d)

-- a number with the sign s
abbrev pub HasSign : Bool → Float → Type 0
HasSign s nan = ⊥
HasSign s (inf t) = t ≡ s
HasSign s (fin t m e) = t ≡ s

pub round_sign : (f : Format) (s : Bool) (a c : ℕ) → HasSign s (round f s a c)
round_sign f s a c = subst (HasSign s) (sym (round_is f s a c)) (at-units _ _)
  where
    at-odd : (d q k l : ℕ) → HasSign s (odd d s q k l)
    at-odd d zero k l = unfold odd in refl
    at-odd d (suc q) k l = unfold odd in refl

    at-cond : (b : Bool) (q k : ℕ) → HasSign s (cond b (odd (suc (prec f)) s q k (low f)) (inf s))
    at-cond true q k = at-odd (suc (prec f)) q k (low f)
    at-cond false q k = refl

    at-units : (q k : ℕ) → HasSign s (units f s q k)
    at-units q k = unfold units in at-cond (ltb (q * 2 ^ k) (2 ^ (low f + suc (emax f)))) q k

le_signs : (x y : Float) → HasSign true x → HasSign false y → le x y ≡ true
unfolding le lt eq
le_signs nan y p q = absurd p
le_signs (inf s) nan p q = absurd q
le_signs (fin s m e) nan p q = absurd q
le_signs (inf false) (inf t) p q = absurd (false≢true p)
le_signs (inf true) (inf true) p q = absurd (true≢false q)
le_signs (inf true) (inf false) p q = refl
le_signs (inf false) (fin t n d) p q = absurd (false≢true p)
le_signs (inf true) (fin t n d) p q = refl
le_signs (fin s m e) (inf true) p q = absurd (true≢false q)
le_signs (fin s m e) (inf false) p q = refl
le_signs (fin false m e) (fin t n d) p q = absurd (false≢true p)
le_signs (fin true m e) (fin true n d) p q = absurd (true≢false q)
le_signs (fin true m e) (fin false n d) p q = le_fin true false m n e d ∙ either_side (m * up e * down d) (n * up d * down e)

-- of a number that is not negative and at most one that is not positive, both are 0
both_zero : (p n : ℕ) → le_z (pos p) (signed true n) ≡ true → (p ≡ 0) × (n ≡ 0)
both_zero p zero h = let l : p ≤ 0 = leb→le p 0 (yes h) in (omega arith, refl)
both_zero p (suc n) h = absurd (false≢true h)

factor_zero : (a d : ℕ) → 0 < d → a * d ≡ 0 → a ≡ 0
factor_zero zero d D e = refl
factor_zero (suc a) d D e = let l : 0 < suc a * d = mul-pos (zero-lt-suc a) D in absurd (omega arith)

le_round : (s t : Bool) (a c b d : ℕ) → 0 < c → 0 < d → le_z (signed s (a * d)) (signed t (b * c)) ≡ true → le (round binary64 s a c) (round binary64 t b d) ≡ true
le_round false false a c b d C D h = is_true _ (round_mono binary64 a c b d C D (leb→le (a * d) (b * c) (yes h)))
le_round true true a c b d C D h = ap₂ le (round_neg binary64 a c) (round_neg binary64 b d) ∙ le_neg (round binary64 false b d) (round binary64 false a c) ∙ is_true _ (round_mono binary64 b d a c D C (leb→le (b * c) (a * d) (yes (sym (negatives (a * d) (b * c)) ∙ h))))
le_round true false a c b d C D h = le_signs (round binary64 true a c) (round binary64 false b d) (round_sign binary64 true a c) (round_sign binary64 false b d)
le_round false true a c b d C D h =
    let (p, q) = both_zero (a * d) (b * c) h in
    ap₂ le (at_zero false a c C (factor_zero a d D p)) (at_zero true b d D (factor_zero b c C q)) ∙ zeros
  where
    at_zero : (s : Bool) (a c : ℕ) → 0 < c → a ≡ 0 → round binary64 s a c ≡ round binary64 s 0 1
    at_zero s a c C e = round_same binary64 s a c 0 1 C (zero-lt-suc 0) (mul-one a ∙ e ∙ sym (zero-mul c))

    zeros : le (round binary64 false 0 1) (round binary64 true 0 1) ≡ true
    zeros = unfold round le in refl

-- ---- a sum, rounded

-- x is z / c, rounded
record Rounds (x : Float) (z : ℤ) (c : ℕ) : Type 0 where
  sign : Bool
  size : ℕ
  is : x ≡ round binary64 sign size c
  value : signed sign size ≡ z

le_rounds : {x y : Float} {z w : ℤ} {c : ℕ} → 0 < c → Rounds x z c → Rounds y w c → le_z z w ≡ true → le x y ≡ true
le_rounds {c} C p q h = ap₂ le p.is q.is ∙ le_round p.sign q.sign p.size c q.size c C C (le_z_scale p.sign q.sign p.size q.size c C ∙ ap₂ le_z p.value q.value ∙ h)

less_pos : (a b : ℕ) → b ≤ a → pos (a - b) ≡ pos a +ℤ neg_ℤ (pos b)
less_pos a b h = sym (ap (λ (n : ℕ). pos n -ℤ pos b) (sym (back a b h)) ∙ +ℤ-neg_ℤ_cancel (pos (a - b)) (pos b))

less_neg : (a b : ℕ) → a ≤ b → neg_ℤ (pos (b - a)) ≡ pos a +ℤ neg_ℤ (pos b)
less_neg a b h = ap neg_ℤ (less_pos b a h) ∙ neg_ℤ-+ℤ (pos b) (neg_ℤ (pos a)) ∙ ap (neg_ℤ (pos b) +ℤ◌) (neg_ℤ-neg_ℤ (pos a)) ∙ +ℤ_comm (neg_ℤ (pos b)) (pos a)

-- P / E and Q / E are a / c and b / c
module _ (P Q a b c E : ℕ) (C : 0 < c) (D : 0 < E) (p : P * c ≡ a * E) (q : Q * c ≡ b * E) where
  plus : (P + Q) * c ≡ (a + b) * E
  plus = add-mul P Q c ∙ ap₂ ◌+◌ p q ∙ sym (add-mul a b E)

  order : P ≤ Q → a ≤ b
  order h = le_of_mul-le-mul_right (le_trans (le_of_eq (sym p)) (le_trans (mul-le-mul_right c h) (le_of_eq q))) D

  minus : (P - Q) * c ≡ (a - b) * E
  minus = mul_comm (P - Q) c ∙ mul-sub c P Q ∙ ap₂ ◌-◌ (mul_comm c P ∙ p ∙ mul_comm a E) (mul_comm c Q ∙ q ∙ mul_comm b E) ∙ sym (mul-sub E a b) ∙ mul_comm E (a - b)

  rounded : (s : Bool) (N n : ℕ) → N * c ≡ n * E → round binary64 s N E ≡ round binary64 s n c
  rounded s N n e = round_same binary64 s N E n c D C e

sum_rounds : (s t : Bool) (P Q a b c E : ℕ) → 0 < c → 0 < E → P * c ≡ a * E → Q * c ≡ b * E → Rounds (sum binary64 s P t Q E) (signed s a +ℤ signed t b) c
unfolding sum
sum_rounds false false P Q a b c E C D p q = record { sign = false; size = a + b; is = rounded P Q a b c E C D p q false (P + Q) (a + b) (plus P Q a b c E C D p q); value = refl }
sum_rounds true true P Q a b c E C D p q = record { sign = true; size = a + b; is = rounded P Q a b c E C D p q true (P + Q) (a + b) (plus P Q a b c E C D p q); value = neg_ℤ-+ℤ (pos a) (pos b) }
sum_rounds false true P Q a b c E C D p q = go (ltb P Q) (ltb-true P Q) (ltb-false P Q)
  where
    go : (u : Bool) → (u ≡ true → P < Q) → (u ≡ false → Q ≤ P) → Rounds (cond u (round binary64 true (Q - P) E) (round binary64 false (P - Q) E)) (pos a +ℤ neg_ℤ (pos b)) c
    go true f g = record { sign = true; size = b - a; is = rounded P Q a b c E C D p q true (Q - P) (b - a) (minus Q P b a c E C D q p); value = less_neg a b (order P Q a b c E C D p q (le_of_lt (f refl))) }
    go false f g = record { sign = false; size = a - b; is = rounded P Q a b c E C D p q false (P - Q) (a - b) (minus P Q a b c E C D p q); value = less_pos a b (order Q P b a c E C D q p (g refl)) }
sum_rounds true false P Q a b c E C D p q = go (ltb P Q) (ltb Q P) (ltb-true P Q) (ltb-false P Q) (ltb-false Q P)
  where
    back : neg_ℤ (pos a) +ℤ pos b ≡ pos b +ℤ neg_ℤ (pos a)
    back = +ℤ_comm (neg_ℤ (pos a)) (pos b)

    none : (u : Bool) (n : ℕ) → n ≡ 0 → signed u n ≡ neg_ℤ (pos n)
    none false n e = ap pos e ∙ ap (λ (m : ℕ). neg_ℤ (pos m)) (sym e)
    none true n e = refl

    level : a ≤ b → b ≤ a → a - b ≡ 0
    level h k = omega arith

    go : (u v : Bool) → (u ≡ true → P < Q) → (u ≡ false → Q ≤ P) → (v ≡ false → P ≤ Q) → Rounds (cond u (round binary64 false (Q - P) E) (round binary64 v (P - Q) E)) (neg_ℤ (pos a) +ℤ pos b) c
    go true v f g h = record { sign = false; size = b - a; is = rounded P Q a b c E C D p q false (Q - P) (b - a) (minus Q P b a c E C D q p); value = less_pos b a (order P Q a b c E C D p q (le_of_lt (f refl))) ∙ sym back }
    go false true f g h = record { sign = true; size = a - b; is = rounded P Q a b c E C D p q true (P - Q) (a - b) (minus P Q a b c E C D p q); value = less_neg b a (order Q P b a c E C D q p (g refl)) ∙ sym back }
    go false false f g h =
        let l : b ≤ a = order Q P b a c E C D q p (g refl) in
        let k : a ≤ b = order P Q a b c E C D p q (h refl) in
        record { sign = false; size = a - b; is = rounded P Q a b c E C D p q false (P - Q) (a - b) (minus P Q a b c E C D p q); value = none false (a - b) (level k l) ∙ less_neg b a l ∙ sym back }

add_rounds : (x y : Float) (s t : Bool) (a b c : ℕ) → 0 < c → HasValue x s a c → HasValue y t b c → Rounds (x ⊕ y) (signed s a +ℤ signed t b) c
unfolding add
add_rounds nan y s t a b c C h k = absurd h
add_rounds (inf u) y s t a b c C h k = absurd h
add_rounds (fin u m e) nan s t a b c C h k = absurd k
add_rounds (fin u m e) (inf v) s t a b c C h k = absurd k
add_rounds (fin u m e) (fin v n d) s t a b c C h k =
    let r = sum_rounds u v (m * up e * down d) (n * up d * down e) a b c (down e * down d) C (mul-pos (down_pos e) (down_pos d)) (across (m * up e) (down e) (down d) a c h.1) (along (n * up d) (down e) (down d) b c k.1) in
    subst (λ (z : ℤ). Rounds (sum binary64 u (m * up e * down d) v (n * up d * down e) (down e * down d)) z c) (ap₂ (λ (p q : Bool). signed p a +ℤ signed q b) h.0 k.0) r
  where
    across : (x p q a c : ℕ) → x * c ≡ a * p → x * q * c ≡ a * (p * q)
    across x p q a c e = mul_right_comm x q c ∙ ap (λ (n : ℕ). n * q) e ∙ mul_assoc a p q

    along : (y p q b c : ℕ) → y * c ≡ b * q → y * p * c ≡ b * (p * q)
    along y p q b c e = across y q p b c e ∙ ap (λ (n : ℕ). b * n) (mul_comm q p)

-- ---- sums and halves keep the order

le_diff : (z w : ℤ) → le_z z w ≡ true → (n : ℕ) × (w ≡ z +ℤ pos n)
le_diff (pos a) (pos b) h = let l : a ≤ b = leb→le a b (yes h) in (b - a, ap pos (up_to a b l))
  where
    up_to : (a b : ℕ) → a ≤ b → b ≡ a + (b - a)
    up_to a b l = omega arith
le_diff (pos a) (negsuc b) h = absurd (false≢true h)
le_diff (negsuc a) (pos b) h = (b + suc a, sym (+ℤ_comm (negsuc a) (pos (b + suc a)) ∙ +ℤ-neg_ℤ_cancel (pos b) (pos (suc a))))
le_diff (negsuc a) (negsuc b) h = let l : b ≤ a = leb→le b a (yes h) in (a - b, ap (λ (n : ℕ). neg_ℤ (pos n)) (down_to a b l) ∙ less_neg (a - b) (suc a) (fewer a b) ∙ +ℤ_comm (pos (a - b)) (negsuc a))
  where
    down_to : (a b : ℕ) → b ≤ a → suc b ≡ suc a - (a - b)
    down_to a b l = omega arith

    fewer : (a b : ℕ) → a - b ≤ suc a
    fewer a b = omega arith

-- the same number added
le_add : (v z w : ℤ) → le_z z w ≡ true → le_z (v +ℤ z) (v +ℤ w) ≡ true
le_add v z w h = let (n, e) = le_diff z w h in ap (le_z (v +ℤ z)) (ap (v +ℤ◌) e ∙ sym (+ℤ_assoc v z (pos n))) ∙ le_more (v +ℤ z) n

own : (s : Bool) (m : ℕ) (e : ℤ) (k : ℕ) → HasValue (fin s m e) s (m * up e * k) (down e * k)
own s m e k = (refl, over (m * up e) (down e) k)
  where
    over : (x p k : ℕ) → x * (p * k) ≡ x * k * p
    over x p k = omega arith

-- a + a, a + b and b + b in order
module _ (s t : Bool) (m n : ℕ) (e d : ℤ) (h : le (fin s m e) (fin t n d) ≡ true) where
  D : 0 < down e * down d
  D = mul-pos (down_pos e) (down_pos d)

  a_has : HasValue (fin s m e) s (m * up e * down d) (down e * down d)
  a_has = own s m e (down d)

  b_has : HasValue (fin t n d) t (n * up d * down e) (down e * down d)
  b_has = (refl, sym (mul_assoc (n * up d) (down e) (down d)))

  in_order : le_z (signed s (m * up e * down d)) (signed t (n * up d * down e)) ≡ true
  in_order = sym (le_fin s t m n e d) ∙ h

  pub above-twice : le (fin s m e ⊕ fin s m e) (fin s m e ⊕ fin t n d) ≡ true
  above-twice =
      let A = m * up e * down d in
      let B = n * up d * down e in
      le_rounds D (add_rounds (fin s m e) (fin s m e) s s A A (down e * down d) D a_has a_has) (add_rounds (fin s m e) (fin t n d) s t A B (down e * down d) D a_has b_has) (le_add (signed s A) (signed s A) (signed t B) in_order)

  pub below-twice : le (fin s m e ⊕ fin t n d) (fin t n d ⊕ fin t n d) ≡ true
  below-twice =
      let A = m * up e * down d in
      let B = n * up d * down e in
      le_rounds D (add_rounds (fin s m e) (fin t n d) s t A B (down e * down d) D a_has b_has) (add_rounds (fin t n d) (fin t n d) t t B B (down e * down d) D b_has b_has) (ap (λ (z : ℤ). le_z z (signed t B +ℤ signed t B)) (+ℤ_comm (signed s A) (signed t B)) ∙ le_add (signed t B) (signed s A) (signed t B) in_order)

-- the half of a finite one
pub half_is : (s : Bool) (m : ℕ) (e : ℤ) → fin s m e ⊘ 2· ≡ round binary64 s (m * up e * 1) (1 * 2 * down e)
unfolding div of_bits
half_is true m e = refl
half_is false m e = refl

pub half_pos : (e : ℤ) → 0 < 1 * 2 * down e
half_pos e = mul-pos (zero-lt-suc 1) (down_pos e)

pub half_mono : (x y : Float) → T (finite x) → T (finite y) → le x y ≡ true → le (x ⊘ 2·) (y ⊘ 2·) ≡ true
unfolding finite
half_mono nan y f g h = absurd f
half_mono (inf s) y f g h = absurd f
half_mono (fin s m e) nan f g h = absurd g
half_mono (fin s m e) (inf t) f g h = absurd g
half_mono (fin s m e) (fin t n d) f g h =
    ap₂ le (half_is s m e) (half_is t n d)
    ∙ le_round s t (m * up e * 1) (1 * 2 * down e) (n * up d * 1) (1 * 2 * down d) (half_pos e) (half_pos d)
    (ap₂ (λ (p q : ℕ). le_z (signed s p) (signed t q)) (doubled (m * up e) (down d)) (doubled (n * up d) (down e))
    ∙ le_z_scale s t (m * up e * down d) (n * up d * down e) 2 (zero-lt-suc 1)
    ∙ sym (le_fin s t m n e d) ∙ h)
  where
    doubled : (x p : ℕ) → x * 1 * (1 * 2 * p) ≡ x * p * 2
    doubled x p = omega arith
