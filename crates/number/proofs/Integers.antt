-- Floats that are whole numbers: sums, differences, halves and the order are those of the integers. Assumes nothing.
use Rattle.std.proofs.Common.{◌≡◌, ℕ, zero, suc, ◌+◌, ◌-◌, ◌*◌, ◌^◌, ◌<◌, ◌≤◌, Bool, true, false, cond, not, ◌&&◌, T, ltb, ℤ, pos, negsuc, ◌+ℤ◌, ◌-ℤ◌, nat_abs, sym, refl, ap, ◌∙◌, subst, ap₂, true≢false, le_trans, le_of_eq, zero-lt-suc, mul_assoc, mul_comm, add-mul, mul-pos, mul-one, arith, lit≤, le→leb, ltb→lt, lt→ltb, leb→le, nltb→le, pow_mono, pow-add}
use mathlib.Core.Bool.{beq, false≢true}
use native.Mathlib.Nat.{mul-sub}
use lib.IntN.{sub_ℕ, +ℤ_idr}
use lib.Signed.{lt_z, le_z}
use lib.Dec.{leb-suc-zero}
use lib.Ieee.{Float, nan, inf, fin, binary64, up, down, round, of_int, in_float, of_bits, add, sub, sum, div, neg, lt, le}
use lib.Ieee.Fits.{down_pos}
use lib.Ieee.Exact.{HasValue}
use lib.Ieee.Scale.{round_same}
use lib.Ieee.Back.{round_whole}
use Rattle.rules.specs.Number.{◌⊕◌, ◌⊖◌, ◌⊘◌, 1·, 2·, float}
use Rattle.rules.proofs.CellFloat.{ltb_scale}
use Rattle.rules.proofs.Signs.{size-add}
use Rattle.number.proofs.Order.{signed, lt_at, le_at}

-- ---- x is the integer z

abbrev pub negative : ℤ → Bool
negative (pos n) = false
negative (negsuc n) = true

abbrev pub HasInt : Float → ℤ → Type 0
HasInt x z = HasValue x (negative z) (nat_abs z) 1

pub signed_is : (z : ℤ) → signed (negative z) (nat_abs z) ≡ z
signed_is (pos n) = refl
signed_is (negsuc n) = refl

-- ---- integers of at most 2 ^ k in size

pub record Within (k : ℕ) (z : ℤ) : Type 0 where
  pub within : nat_abs z ≤ 2 ^ k

within_in : (k : ℕ) (z : ℤ) → k ≤ 53 → Within k z → T (in_float binary64 z)
unfolding in_float
within_in k (pos n) h w = le→leb n (2 ^ 53) (le_trans w.within (pow_mono h))
within_in k (negsuc n) h w = lt→ltb n (2 ^ 53) (le_trans w.within (pow_mono h))

of_int_is : (z : ℤ) → T (in_float binary64 z) → HasInt (of_int binary64 z) z
unfolding in_float of_int
of_int_is (pos n) t = round_whole binary64 false n (leb→le n (2 ^ 53) t)
of_int_is (negsuc n) t = round_whole binary64 true (suc n) (ltb→lt n (2 ^ 53) t)

-- an integer of at most 2 ^ 53 in size has its float
pub of_int_has : (k : ℕ) (z : ℤ) → k ≤ 53 → Within k z → HasInt (of_int binary64 z) z
of_int_has k z h w = of_int_is z (within_in k z h w)

-- the one that a first cell's ends differ by
pub one-is : 1· ≡ float 1
unfolding of_bits of_int round
one-is = refl

pub within-add : (k : ℕ) (a b : ℤ) → Within k a → Within k b → Within (k + 1) (a +ℤ b)
within-add k a b h l = record { within = le_trans (size-add a b) (le_trans (go (nat_abs a) (nat_abs b) (2 ^ k) h.within l.within) (le_of_eq (sym (pow-add 2 k 1)))) }
  where
    go : (a b p : ℕ) → a ≤ p → b ≤ p → a + b ≤ p * 2
    go a b p h l = omega arith

-- ---- the order of two whole floats is that of the integers

module _ (x y : Float) (a b : ℤ) (h : HasInt x a) (k : HasInt y b) where
  pub lt_int : lt x y ≡ lt_z a b
  lt_int = lt_at 1 x y (negative a) (negative b) (nat_abs a) (nat_abs b) (zero-lt-suc 0) h k ∙ ap₂ lt_z (signed_is a) (signed_is b)

  pub le_int : le x y ≡ le_z a b
  le_int = le_at 1 x y (negative a) (negative b) (nat_abs a) (nat_abs b) (zero-lt-suc 0) h k ∙ ap₂ le_z (signed_is a) (signed_is b)

-- ---- a sum

module _ (s t : Bool) (a b c : ℕ) (C : 0 < c) where
  one_pos : 0 < 1
  one_pos = zero-lt-suc 0

  sub_scale : (x y : ℕ) → (x * c - y * c) * 1 ≡ (x - y) * c
  sub_scale x y = mul-one (x * c - y * c) ∙ ap₂ (λ (p q : ℕ). p - q) (mul_comm x c) (mul_comm y c) ∙ sym (mul-sub c x y) ∙ mul_comm c (x - y)

  -- over a common denominator c
  sum_scale : sum binary64 s (a * c) t (b * c) c ≡ sum binary64 s a t b 1
  unfolding sum
  sum_scale =
      ap (λ (x : Float). cond (beq s t) x (cond (ltb (a * c) (b * c)) (round binary64 t (b * c - a * c) c) (round binary64 (s && ltb (b * c) (a * c)) (a * c - b * c) c)))
      (round_same binary64 s (a * c + b * c) c (a + b) 1 C one_pos (mul-one (a * c + b * c) ∙ sym (add-mul a b c)))
      ∙ ap (λ (x : Float). cond (beq s t) (round binary64 s (a + b) 1) (cond (ltb (a * c) (b * c)) x (round binary64 (s && ltb (b * c) (a * c)) (a * c - b * c) c)))
      (round_same binary64 t (b * c - a * c) c (b - a) 1 C one_pos (sub_scale b a))
      ∙ ap (λ (x : Float). cond (beq s t) (round binary64 s (a + b) 1) (cond (ltb (a * c) (b * c)) (round binary64 t (b - a) 1) x))
      (round_same binary64 (s && ltb (b * c) (a * c)) (a * c - b * c) c (a - b) 1 C one_pos (sub_scale a b))
      ∙ ap (λ (x : Bool). cond (beq s t) (round binary64 s (a + b) 1) (cond x (round binary64 t (b - a) 1) (round binary64 (s && ltb (b * c) (a * c)) (a - b) 1))) (ltb_scale a b c C)
      ∙ ap (λ (x : Bool). cond (beq s t) (round binary64 s (a + b) 1) (cond (ltb a b) (round binary64 t (b - a) 1) (round binary64 (s && x) (a - b) 1))) (ltb_scale b a c C)

-- m / e is the whole number a: over e * d it is a * (e * d)
over : (m e d a : ℕ) → m * 1 ≡ a * e → m * d ≡ a * (e * d)
over m e d a h = ap (λ (x : ℕ). x * d) (sym (mul-one m) ∙ h) ∙ mul_assoc a e d

over' : (n e d b : ℕ) → n * 1 ≡ b * d → n * e ≡ b * (e * d)
over' n e d b h = over n d e b h ∙ ap (λ (x : ℕ). b * x) (mul_comm d e)

add_at : (x y : Float) (s t : Bool) (a b : ℕ) → HasValue x s a 1 → HasValue y t b 1 → x ⊕ y ≡ sum binary64 s a t b 1
unfolding add
add_at nan y s t a b h k = absurd h
add_at (inf u) y s t a b h k = absurd h
add_at (fin u m e) nan s t a b h k = absurd k
add_at (fin u m e) (inf v) s t a b h k = absurd k
add_at (fin u m e) (fin v n d) s t a b h k =
    ap₂ (λ (x y : Bool). sum binary64 x (m * up e * down d) y (n * up d * down e) (down e * down d)) h.0 k.0
    ∙ ap₂ (λ (x y : ℕ). sum binary64 s x t y (down e * down d)) (over (m * up e) (down e) (down d) a h.1) (over' (n * up d) (down e) (down d) b k.1)
    ∙ sum_scale s t a b (down e * down d) (mul-pos (down_pos e) (down_pos d))

-- a - b by the signs, as `sum` has it
sum_subℕ : (a b : ℕ) → cond (ltb a (suc b)) (round binary64 true (suc b - a) 1) (round binary64 false (a - suc b) 1) ≡ of_int binary64 (sub_ℕ a (suc b))
unfolding of_int
sum_subℕ a b = go (ltb a (suc b)) (ltb→lt a (suc b))
  where
    less : (a b : ℕ) → a < suc b → suc b - a ≡ suc (suc b - suc a)
    less a b h = omega arith

    go : (t : Bool) → (T t → a < suc b) → cond t (round binary64 true (suc b - a) 1) (round binary64 false (a - suc b) 1) ≡ of_int binary64 (cond t (negsuc (suc b - suc a)) (pos (a - suc b)))
    go true h = ap (λ (x : ℕ). round binary64 true x 1) (less a b (h tt))
    go false h = refl

sum_subℕ' : (a b : ℕ) → cond (ltb (suc a) b) (round binary64 false (b - suc a) 1) (round binary64 (ltb b (suc a)) (suc a - b) 1) ≡ of_int binary64 (sub_ℕ b (suc a))
unfolding of_int
sum_subℕ' a b = go (ltb (suc a) b) (ltb b (suc a)) (ltb→lt (suc a) b) (nltb→le (suc a) b) (ltb→lt b (suc a)) (nltb→le b (suc a))
  where
    clash : (a b : ℕ) → suc a < b → b < suc a → ⊥
    clash a b h k = omega arith

    less : (a b : ℕ) → b < suc a → suc a - b ≡ suc (suc a - suc b)
    less a b h = omega arith

    level' : (a b : ℕ) → b ≤ suc a → suc a ≤ b → suc a - b ≡ b - suc a
    level' a b h k = omega arith

    go : (t u : Bool) → (T t → suc a < b) → (T (not t) → b ≤ suc a) → (T u → b < suc a) → (T (not u) → suc a ≤ b)
        → cond t (round binary64 false (b - suc a) 1) (round binary64 u (suc a - b) 1) ≡ of_int binary64 (cond u (negsuc (suc a - suc b)) (pos (b - suc a)))
    go true true h h' k k' = absurd (clash a b (h tt) (k tt))
    go true false h h' k k' = refl
    go false true h h' k k' = ap (λ (x : ℕ). round binary64 true x 1) (less a b (k tt))
    go false false h h' k k' = ap (λ (x : ℕ). round binary64 false x 1) (level' a b (h' tt) (k' tt))

-- the sum of two whole floats is the float of the sum
pub add_int : (x y : Float) (a b : ℤ) → HasInt x a → HasInt y b → x ⊕ y ≡ of_int binary64 (a +ℤ b)
unfolding sum of_int
add_int x y (pos a) (pos b) h k = add_at x y false false a b h k
add_int x y (pos a) (negsuc b) h k = add_at x y false true a (suc b) h k ∙ sum_subℕ a b
add_int x y (negsuc a) (pos b) h k = add_at x y true false (suc a) b h k ∙ sum_subℕ' a b
add_int x y (negsuc a) (negsuc b) h k = add_at x y true true (suc a) (suc b) h k ∙ ap (λ (n : ℕ). round binary64 true n 1) (both a b)
  where
    both : (a b : ℕ) → suc a + suc b ≡ suc (suc (a + b))
    both a b = omega arith

-- ---- a difference

neg_at : (x : Float) (s : Bool) (a : ℕ) → HasValue x s a 1 → HasValue (neg x) (not s) a 1
unfolding neg
neg_at nan s a h = h
neg_at (inf u) s a h = h
neg_at (fin u m e) s a h = (ap not h.0, h.1)

less_none : (a : ℕ) → cond (ltb a 0) (round binary64 true (0 - a) 1) (round binary64 false (a - 0) 1) ≡ round binary64 false (a + 0) 1
less_none a = ap (λ (t : Bool). cond t (round binary64 true (0 - a) 1) (round binary64 false (a - 0) 1)) (leb-suc-zero a) ∙ ap (λ (n : ℕ). round binary64 false n 1) (same a)
  where
    same : (a : ℕ) → a - 0 ≡ a + 0
    same a = omega arith

-- The difference of two whole floats is the float of the difference. Where y is 0, -y is -0 and no integer's float.
pub sub_int : (x y : Float) (a b : ℤ) → HasInt x a → HasInt y b → x ⊖ y ≡ of_int binary64 (a -ℤ b)
unfolding sub sum of_int
sub_int x y (pos a) (pos zero) h k = add_at x (neg y) false true a 0 h (neg_at y false 0 k) ∙ less_none a
sub_int x y (pos a) (pos (suc b)) h k = add_int x (neg y) (pos a) (negsuc b) h (neg_at y false (suc b) k)
sub_int x y (pos a) (negsuc b) h k = add_int x (neg y) (pos a) (pos (suc b)) h (neg_at y true (suc b) k)
sub_int x y (negsuc a) (pos zero) h k = add_at x (neg y) true true (suc a) 0 h (neg_at y false 0 k) ∙ ap (λ (n : ℕ). round binary64 true n 1) (plain a) ∙ sym (ap (of_int binary64) (+ℤ_idr (negsuc a)))
  where
    plain : (a : ℕ) → suc a + 0 ≡ suc a
    plain a = omega arith
sub_int x y (negsuc a) (pos (suc b)) h k = add_int x (neg y) (negsuc a) (negsuc b) h (neg_at y false (suc b) k)
sub_int x y (negsuc a) (negsuc b) h k = add_int x (neg y) (negsuc a) (pos (suc b)) h (neg_at y true (suc b) k)

-- ---- a half of an even one

halved : (m d c : ℕ) → m * 1 ≡ (c + c) * d → m * 1 * 1 ≡ c * (1 * 2 * d)
halved m d c h = omega arith

half_at : (x : Float) (s : Bool) (c : ℕ) → HasValue x s (c + c) 1 → x ⊘ 2· ≡ round binary64 s c 1
unfolding div of_bits
half_at nan s c h = absurd h
half_at (inf u) s c h = absurd h
half_at (fin true m e) true c h = round_same binary64 true (m * up e * 1) (1 * 2 * down e) c 1 (mul-pos (zero-lt-suc 1) (down_pos e)) (zero-lt-suc 0) (halved (m * up e) (down e) c h.1)
half_at (fin false m e) false c h = round_same binary64 false (m * up e * 1) (1 * 2 * down e) c 1 (mul-pos (zero-lt-suc 1) (down_pos e)) (zero-lt-suc 0) (halved (m * up e) (down e) c h.1)
half_at (fin true m e) false c h = absurd (true≢false h.0)
half_at (fin false m e) true c h = absurd (false≢true h.0)

pub half_int : (x : Float) (c : ℤ) → HasInt x (c +ℤ c) → x ⊘ 2· ≡ of_int binary64 c
unfolding of_int
half_int x (pos c) h = half_at x false c h
half_int x (negsuc c) h = half_at x true (suc c) (subst (λ (n : ℕ). HasValue x true n 1) (twice c) h)
  where
    twice : (a : ℕ) → suc (suc (a + a)) ≡ suc a + suc a
    twice a = omega arith

-- the middle of a cell whose two ends are integers with an even sum
pub middle_int : (a b c : ℤ) → Within 44 a → Within 44 b → a +ℤ b ≡ c +ℤ c → (of_int binary64 a ⊕ of_int binary64 b) ⊘ 2· ≡ of_int binary64 c
middle_int a b c h l e =
    let sum_is : of_int binary64 a ⊕ of_int binary64 b ≡ of_int binary64 (a +ℤ b) = add_int (of_int binary64 a) (of_int binary64 b) a b (of_int_has 44 a (lit≤ tt) h) (of_int_has 44 b (lit≤ tt) l) in
    ap (λ (x : Float). x ⊘ 2·) (sum_is ∙ ap (of_int binary64) e)
    ∙ half_int (of_int binary64 (c +ℤ c)) c (of_int_has 45 (c +ℤ c) (lit≤ tt) (subst (Within 45) e (within-add 44 a b h l)))
