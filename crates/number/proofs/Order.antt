-- The order of finite f64 is that of integers, over any common denominator. Assumes nothing.
use Rattle.std.proofs.Common.{◌≡◌, ℕ, zero, suc, ◌+◌, ◌-◌, ◌*◌, ◌/◌, ◌%◌, ◌^◌, ◌<◌, ◌≤◌, Bool, true, false, not, ◌&&◌, ◌||◌, T, eqb, ltb, leb, ℤ, pos, negsuc, neg_ℤ, sym, refl, ap, ◌∙◌, ap₂, le_of_eq, lt_of_lt_of_le, le_of_lt, lt_irrefl, mul_assoc, mul_comm, le_antisymm, mul-pos, one-mul, zero-add, mul-one, mul_right_comm, mul-div_cancel, arith, le→leb, eqb→eq, ltb→lt, lt→ltb, leb→le, nltb→le, pow_pos, pow-add}
use native.Mathlib.Nat.{pow-succ'}
use lib.Signed.{lt_z, le_z}
use lib.Dec.{nleb→lt, not_T, leb-suc-suc, leb-suc-zero, leb-zero, eqb-zero-suc, eqb-suc-zero, eqb-suc-suc}
use lib.Pow.{pow-lt}
use lib.Ieee.{Float, nan, inf, fin, binary64, up, down, fits, lt, le, eq, below, level}
use lib.Ieee.Digits.{back}
use lib.Ieee.Fits.{down_pos, eq→eqb, and_l, and_r}
use lib.Ieee.Exact.{HasValue}
use lib.Ieee.Bits.{is_true}
use Rattle.rules.specs.Plain.{eq_z}
use Rattle.rules.specs.Number.{finite}
use Rattle.rules.proofs.CellFloat.{below_scale, level_scale}

pub same_test : (a b : Bool) → (T a → T b) → (T b → T a) → a ≡ b
same_test true true p q = refl
same_test true false p q = absurd (p tt)
same_test false true p q = absurd (q tt)
same_test false false p q = refl

-- ---- sign and magnitude as an integer, -0 being 0

abbrev pub signed : Bool → ℕ → ℤ
signed false a = pos a
signed true a = neg_ℤ (pos a)

below_z : (s : Bool) (a : ℕ) (t : Bool) (b : ℕ) → below s a t b ≡ lt_z (signed s a) (signed t b)
below_z false a false b = refl
below_z false a true zero = sym (leb-suc-zero a)
below_z false a true (suc b) = refl
below_z true zero false b = ap (λ (n : ℕ). ltb 0 n) (zero-add b)
below_z true (suc a) false b = is_true (ltb 0 (suc a + b)) (lt→ltb 0 (suc a + b) (some a b))
  where
    some : (a b : ℕ) → 0 < suc a + b
    some a b = omega arith
below_z true zero true zero = refl
below_z true zero true (suc b) = leb-suc-zero (suc b)
below_z true (suc a) true zero = leb-suc-suc 0 a ∙ leb-zero a
below_z true (suc a) true (suc b) = leb-suc-suc (suc b) a

and-true : (p : Bool) → (p && true) ≡ p
and-true true = refl
and-true false = refl

and_same : (p : Bool) → (p && p) ≡ p
and_same true = refl
and_same false = refl

and_false : (p : Bool) → (p && false) ≡ false
and_false true = refl
and_false false = refl

level_z : (s : Bool) (a : ℕ) (t : Bool) (b : ℕ) → level s a t b ≡ eq_z (signed s a) (signed t b)
level_z false a false b = and-true (eqb a b)
level_z false a true zero = and_same (eqb a 0)
level_z false zero true (suc b) = ap (λ (p : Bool). p && true) (eqb-zero-suc b)
level_z false (suc a) true (suc b) = ap (λ (p : Bool). eqb (suc a) (suc b) && p) (eqb-suc-zero a) ∙ and_false (eqb (suc a) (suc b))
level_z true zero false b = and-true (eqb 0 b)
level_z true (suc a) false b = ap (λ (p : Bool). eqb (suc a) b && p) (eqb-suc-zero a) ∙ and_false (eqb (suc a) b)
level_z true zero true zero = refl
level_z true zero true (suc b) = ap (λ (p : Bool). p && true) (eqb-zero-suc b)
level_z true (suc a) true zero = ap (λ (p : Bool). p && true) (eqb-suc-zero a)
level_z true (suc a) true (suc b) = and-true (eqb (suc a) (suc b)) ∙ eqb-suc-suc a b

lt_or_eq : (a b : ℕ) → (ltb a b || eqb a b) ≡ leb a b
lt_or_eq a b = same_test (ltb a b || eqb a b) (leb a b) (λ t. le→leb a b (go (ltb a b) (eqb a b) (ltb→lt a b) (eqb→eq a b) t)) (λ t. back' (ltb a b) (eqb a b) (nltb→le a b) (λ e. eq→eqb e) (leb→le a b t))
  where
    go : (p q : Bool) → (T p → a < b) → (T q → a ≡ b) → T (p || q) → a ≤ b
    go true q h k t = le_of_lt (h tt)
    go false true h k t = le_of_eq (k tt)
    go false false h k t = absurd t

    back' : (p q : Bool) → (T (not p) → b ≤ a) → (a ≡ b → T q) → a ≤ b → T (p || q)
    back' true q h k t = tt
    back' false q h k t = k (le_antisymm t (h tt))

le_z_is : (a b : ℤ) → (lt_z a b || eq_z a b) ≡ le_z a b
le_z_is (pos a) (pos b) = lt_or_eq a b
le_z_is (pos a) (negsuc b) = refl
le_z_is (negsuc a) (pos b) = refl
le_z_is (negsuc a) (negsuc b) = ap (λ (q : Bool). ltb b a || q) (swap a b) ∙ lt_or_eq b a
  where
    swap : (a b : ℕ) → eqb a b ≡ eqb b a
    swap a b = same_test (eqb a b) (eqb b a) (λ t. eq→eqb (sym (eqb→eq a b t))) (λ t. eq→eqb (sym (eqb→eq b a t)))

clash : (a b : ℕ) → a < b → b ≤ a → ⊥
clash a b h k = omega arith

-- one test is the other one's failure
pub flip_nat : (a b : ℕ) → ltb a b ≡ not (leb b a)
flip_nat a b = same_test (ltb a b) (not (leb b a)) (λ t. not_T (leb b a) (λ u. clash a b (ltb→lt a b t) (leb→le b a u))) (λ t. lt→ltb a b (nleb→lt b a t))

pub flip : (z w : ℤ) → lt_z z w ≡ not (le_z w z)
flip (pos a) (pos b) = flip_nat a b
flip (pos a) (negsuc b) = refl
flip (negsuc a) (pos b) = refl
flip (negsuc a) (negsuc b) = flip_nat b a

-- ---- two values a / c and b / c

-- m / e is a / c: over e * d * c both are a * (e * d)
module _ (m e d a c : ℕ) (h : m * c ≡ a * e) where
  cross : m * d * c ≡ a * (e * d)
  cross = mul_right_comm m d c ∙ ap (λ (x : ℕ). x * d) h ∙ mul_assoc a e d

  cross' : m * d * c ≡ a * (d * e)
  cross' = cross ∙ ap (λ (x : ℕ). a * x) (mul_comm e d)

lt_signs : (c : ℕ) (x y : Float) (s t : Bool) (a b : ℕ) → 0 < c → HasValue x s a c → HasValue y t b c → lt x y ≡ below s a t b
unfolding lt
lt_signs c nan y s t a b C h k = absurd h
lt_signs c (inf u) y s t a b C h k = absurd h
lt_signs c (fin u m e) nan s t a b C h k = absurd k
lt_signs c (fin u m e) (inf v) s t a b C h k = absurd k
lt_signs c (fin u m e) (fin v n d) s t a b C h k =
    ap₂ (λ (x y : Bool). below x (m * up e * down d) y (n * up d * down e)) h.0 k.0
    ∙ sym (below_scale s (m * up e * down d) t (n * up d * down e) c C)
    ∙ ap₂ (λ (x y : ℕ). below s x t y) (cross (m * up e) (down e) (down d) a c h.1) (cross' (n * up d) (down d) (down e) b c k.1)
    ∙ below_scale s a t b (down e * down d) (mul-pos (down_pos e) (down_pos d))

eq_signs : (c : ℕ) (x y : Float) (s t : Bool) (a b : ℕ) → 0 < c → HasValue x s a c → HasValue y t b c → eq x y ≡ level s a t b
unfolding eq
eq_signs c nan y s t a b C h k = absurd h
eq_signs c (inf u) y s t a b C h k = absurd h
eq_signs c (fin u m e) nan s t a b C h k = absurd k
eq_signs c (fin u m e) (inf v) s t a b C h k = absurd k
eq_signs c (fin u m e) (fin v n d) s t a b C h k =
    ap₂ (λ (x y : Bool). level x (m * up e * down d) y (n * up d * down e)) h.0 k.0
    ∙ sym (level_scale s (m * up e * down d) t (n * up d * down e) c C)
    ∙ ap₂ (λ (x y : ℕ). level s x t y) (cross (m * up e) (down e) (down d) a c h.1) (cross' (n * up d) (down d) (down e) b c k.1)
    ∙ level_scale s a t b (down e * down d) (mul-pos (down_pos e) (down_pos d))

module _ (c : ℕ) (x y : Float) (s t : Bool) (a b : ℕ) (C : 0 < c) (h : HasValue x s a c) (k : HasValue y t b c) where
  pub lt_at : lt x y ≡ lt_z (signed s a) (signed t b)
  lt_at = lt_signs c x y s t a b C h k ∙ below_z s a t b

  pub eq_at : eq x y ≡ eq_z (signed s a) (signed t b)
  eq_at = eq_signs c x y s t a b C h k ∙ level_z s a t b

  pub le_at : le x y ≡ le_z (signed s a) (signed t b)
  unfolding le
  le_at = ap₂ (λ (p q : Bool). p || q) lt_at eq_at ∙ le_z_is (signed s a) (signed t b)

-- ---- every finite f64 is a whole number of units of 2 ^ -1074

abbrev pub units_z : Float → ℤ
units_z nan = pos 0
units_z (inf s) = pos 0
units_z (fin s m e) = signed s (m * up e * 2 ^ 1074 / down e)

pub record Finite64 (x : Float) : Type 0 where
  pub finite : T (finite x)
  pub held : T (fits binary64 x)

-- twice a number is not 1
pub two_up : (p : ℕ) → 0 < p → 2 * p ≡ 1 → ⊥
two_up p h e = omega arith

pub pow_le_back : (i p : ℕ) → 2 ^ i ≤ 2 ^ p → i ≤ p
pow_le_back i p h = go (ltb p i) (ltb→lt p i) (nltb→le p i)
  where
    go : (t : Bool) → (T t → p < i) → (T (not t) → i ≤ p) → i ≤ p
    go true l g = absurd (lt_irrefl (2 ^ p) (lt_of_lt_of_le (pow-lt (l tt)) h))
    go false l g = g tt

-- 2 ^ 1074 is a multiple of the denominator
multiple : (e : ℤ) → down e ≤ 2 ^ 1074 → (k : ℕ) × (2 ^ 1074 ≡ k * down e)
multiple (pos a) h = (2 ^ 1074, sym (mul-one (2 ^ 1074)))
multiple (negsuc a) h = (2 ^ (1074 - suc a), ap (λ (n : ℕ). 2 ^ n) (sym (back 1074 (suc a) (pow_le_back (suc a) 1074 h))) ∙ pow-add 2 (1074 - suc a) (suc a))

down_le : (s : Bool) (m : ℕ) (e : ℤ) → T (fits binary64 (fin s m e)) → down e ≤ 2 ^ 1074
unfolding fits
down_le s zero (pos a) t = pow_pos 1074
down_le s zero (negsuc a) t = absurd (two_up (2 ^ a) (pow_pos a) (sym (pow-succ' 2 a) ∙ sym (one-mul (2 ^ suc a)) ∙ eqb→eq (1 * 2 ^ suc a) 1 t))
down_le s (suc m) e t =
    leb→le (down e) (2 ^ 1074)
    (and_r (eqb (suc m % 2) 1 && ltb (suc m) (2 ^ 53)) (leb (down e) (2 ^ 1074)) (and_l (eqb (suc m % 2) 1 && ltb (suc m) (2 ^ 53) && leb (down e) (2 ^ 1074)) (ltb (suc m * up e) (2 ^ 1024 * down e)) t))

units-has : (s : Bool) (m : ℕ) (e : ℤ) → T (fits binary64 (fin s m e)) → HasValue (fin s m e) s (m * up e * 2 ^ 1074 / down e) (2 ^ 1074)
units-has s m e t =
    let k = multiple e (down_le s m e t) in
    let is : m * up e * 2 ^ 1074 ≡ m * up e * k.0 * down e = ap (λ (x : ℕ). m * up e * x) k.1 ∙ sym (mul_assoc (m * up e) k.0 (down e)) in
    (refl, is ∙ ap (λ (x : ℕ). x * down e) (sym (ap (λ (x : ℕ). x / down e) is ∙ mul-div_cancel (m * up e * k.0) (down_pos e))))

-- a finite f64 has a sign and a number of units
record Units (x : Float) : Type 0 where
  sign : Bool
  size : ℕ
  is : signed sign size ≡ units_z x
  has : HasValue x sign size (2 ^ 1074)

in_units : (x : Float) → Finite64 x → Units x
unfolding finite
in_units nan F = absurd F.finite
in_units (inf s) F = absurd F.finite
in_units (fin s m e) F = record { sign = s; size = m * up e * 2 ^ 1074 / down e; is = refl; has = units-has s m e F.held }

module _ (x y : Float) (F : Finite64 x) (G : Finite64 y) where
  X : Units x
  X = in_units x F

  Y : Units y
  Y = in_units y G

  pub lt_order : lt x y ≡ lt_z (units_z x) (units_z y)
  lt_order = lt_at (2 ^ 1074) x y X.sign Y.sign X.size Y.size (pow_pos 1074) X.has Y.has ∙ ap₂ lt_z X.is Y.is

  pub le_order : le x y ≡ le_z (units_z x) (units_z y)
  le_order = le_at (2 ^ 1074) x y X.sign Y.sign X.size Y.size (pow_pos 1074) X.has Y.has ∙ ap₂ le_z X.is Y.is
