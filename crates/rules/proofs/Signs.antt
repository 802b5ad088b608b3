-- Whole numbers as differences of naturals, so that `omega` proves what is linear in them: z is `above z` less `under z`, of which one is 0. Assumes nothing.
use mathlib.Core.Path.{◌≡◌, refl, sym, ap, ◌∙◌}
use mathlib.Core.Bool.{Bool, true, false, not, cond}
use Prim.Native.Nat.{ℕ, zero, suc, ◌+◌, ◌-◌, ◌*◌, ◌≤◌, ◌<◌}
use native.Mathlib.Nat.{zero-mul}
use native.Mathlib.Omega.{arith}
use borrow.Author.Tests.{eqb-true, eq-eqb}
use lib.Dec.{T, ltb, ltb→lt, nltb→le, lt→ltb, leb→le, le→leb}
use lib.IntN.{ℤ, pos, negsuc, neg_ℤ, nat_abs, sub_ℕ, ◌+ℤ◌, ◌-ℤ◌, ◌*ℤ◌}
use lib.Signed.{◌≤ℤ◌, ◌<ℤ◌}
use Rattle.rules.specs.Plain.{eq_z}

-- how far above 0, and how far under it
abbrev pub above : ℤ → ℕ
above (pos n) = n
above (negsuc n) = 0

abbrev pub under : ℤ → ℕ
under (pos n) = 0
under (negsuc n) = suc n

-- ---- equality and order

pub same : (a b : ℤ) → above a + under b ≡ under a + above b → a ≡ b
same (pos a) (pos b) h = ap pos (omega arith)
same (pos a) (negsuc b) h = absurd (omega arith)
same (negsuc a) (pos b) h = absurd (omega arith)
same (negsuc a) (negsuc b) h = ap negsuc (omega arith)

pub le_parts : (a b : ℤ) → a ≤ℤ b → above a + under b ≤ under a + above b
le_parts (pos a) (pos b) h = let k : a ≤ b = leb→le a b h.le in omega arith
le_parts (pos a) (negsuc b) h = absurd h.le
le_parts (negsuc a) (pos b) h = omega arith
le_parts (negsuc a) (negsuc b) h = let k : b ≤ a = leb→le b a h.le in omega arith

pub parts_le : (a b : ℤ) → above a + under b ≤ under a + above b → a ≤ℤ b
parts_le (pos a) (pos b) h = record { le = le→leb a b (omega arith) }
parts_le (pos a) (negsuc b) h = absurd (omega arith)
parts_le (negsuc a) (pos b) h = record { le = tt }
parts_le (negsuc a) (negsuc b) h = record { le = le→leb b a (omega arith) }

pub lt_parts : (a b : ℤ) → a <ℤ b → above a + under b < under a + above b
lt_parts (pos a) (pos b) h = let k : a < b = ltb→lt a b h.lt in omega arith
lt_parts (pos a) (negsuc b) h = absurd h.lt
lt_parts (negsuc a) (pos b) h = omega arith
lt_parts (negsuc a) (negsuc b) h = let k : b < a = ltb→lt b a h.lt in omega arith

pub parts_lt : (a b : ℤ) → above a + under b < under a + above b → a <ℤ b
parts_lt (pos a) (pos b) h = record { lt = lt→ltb a b (omega arith) }
parts_lt (pos a) (negsuc b) h = absurd (omega arith)
parts_lt (negsuc a) (pos b) h = record { lt = tt }
parts_lt (negsuc a) (negsuc b) h = record { lt = lt→ltb b a (omega arith) }

-- ---- sums, differences, multiples

sub_parts : (a b : ℕ) → above (sub_ℕ a b) + b ≡ under (sub_ℕ a b) + a
sub_parts a b = go (ltb a b) (ltb→lt a b) (nltb→le a b)
  where
    go : (t : Bool) → (T t → a < b) → (T (not t) → b ≤ a) → above (cond t (negsuc (b - suc a)) (pos (a - b))) + b ≡ under (cond t (negsuc (b - suc a)) (pos (a - b))) + a
    go true h k = let l = h tt in omega arith
    go false h k = let l = k tt in omega arith

pub sum-parts : (a b : ℤ) → above (a +ℤ b) + (under a + under b) ≡ under (a +ℤ b) + (above a + above b)
sum-parts (pos a) (pos b) = omega arith
sum-parts (pos a) (negsuc b) = omega (arith, sub_parts a (suc b))
sum-parts (negsuc a) (pos b) = omega (arith, sub_parts b (suc a))
sum-parts (negsuc a) (negsuc b) = omega arith

pub neg_above : (a : ℤ) → above (neg_ℤ a) ≡ under a
neg_above (pos zero) = refl
neg_above (pos (suc n)) = refl
neg_above (negsuc n) = refl

pub neg_under : (a : ℤ) → under (neg_ℤ a) ≡ above a
neg_under (pos zero) = refl
neg_under (pos (suc n)) = refl
neg_under (negsuc n) = refl

pub difference_parts : (a b : ℤ) → above (a -ℤ b) + (under a + above b) ≡ under (a -ℤ b) + (above a + under b)
difference_parts a b = omega (arith, sum-parts a (neg_ℤ b), neg_above b, neg_under b)

pub multiple-parts : (a : ℤ) (k : ℕ) → (above (a *ℤ pos k) ≡ above a * k) × (under (a *ℤ pos k) ≡ under a * k)
multiple-parts (pos a) k = (refl, sym (zero-mul k))
multiple-parts (negsuc a) k = (neg_above (pos (suc a * k)) ∙ sym (zero-mul k), neg_under (pos (suc a * k)))

-- ---- sizes

pub size-parts : (z : ℤ) → nat_abs z ≡ above z + under z
size-parts (pos n) = omega arith
size-parts (negsuc n) = omega arith

pub size-add : (a b : ℤ) → nat_abs (a +ℤ b) ≤ nat_abs a + nat_abs b
size-add a b = go (a +ℤ b) (sum-parts a b)
  where
    go : (z : ℤ) → above z + (under a + under b) ≡ under z + (above a + above b) → nat_abs z ≤ nat_abs a + nat_abs b
    go (pos n) h = omega (arith, size-parts a, size-parts b)
    go (negsuc n) h = omega (arith, size-parts a, size-parts b)

pub size_neg : (a : ℤ) → nat_abs (neg_ℤ a) ≡ nat_abs a
size_neg (pos zero) = refl
size_neg (pos (suc n)) = refl
size_neg (negsuc n) = refl

-- ---- the test of equality

pub eq_z_true : (a b : ℤ) → eq_z a b ≡ true → a ≡ b
eq_z_true (pos a) (pos b) h = ap pos (eqb-true a b h)
eq_z_true (pos a) (negsuc b) h = absurd (let z : ◌≡◌ {A = ℕ} 0 1 = ap (λ (t : Bool). cond t 1 0) h in omega arith)
eq_z_true (negsuc a) (pos b) h = absurd (let z : ◌≡◌ {A = ℕ} 0 1 = ap (λ (t : Bool). cond t 1 0) h in omega arith)
eq_z_true (negsuc a) (negsuc b) h = ap negsuc (eqb-true a b h)

pub eq_z_refl : (a : ℤ) → eq_z a a ≡ true
eq_z_refl (pos a) = eq-eqb a a refl
eq_z_refl (negsuc a) = eq-eqb a a refl
