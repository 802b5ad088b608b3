-- Alpha on its way to 0 stays a number from 0 on: what is taken off it, rounded, is no more than it is. Assumes nothing.
use mathlib.Core.Path.{◌≡◌, refl, sym, ap, ◌∙◌, subst}
use mathlib.Core.Bool.{Bool, true, false, cond, ◌&&◌, ◌||◌, true≢false}
use Prim.Native.Nat.{ℕ, zero, suc, ◌+◌, ◌-◌, ◌*◌, ◌^◌, ◌≤◌, ◌<◌}
use native.Mathlib.Nat.{le_of_lt, le_of_eq, le_trans, mul_assoc, mul_comm, mul-le-mul_right, mul-le-mul_left, mul-pos, mul-one, sub-le}
use native.Mathlib.Omega.{arith}
use borrow.Author.Tests.{ltb-true, eqb-true, lt-ltb, le-ltb}
use lib.Dec.{T, ltb, eqb, lit≤}
use lib.IntN.{ℤ, pos, negsuc}
use lib.Ieee.{Float, nan, inf, fin, binary64, up, down, round, neg, sum, add, sub, mul, lt, le, fits, of_bits}
use lib.Ieee.Bits.{of_bits-fits}
use lib.Ieee.Fits.{up_pos, down_pos, add-fits}
use lib.Ieee.Exact.{HasValue}
use lib.Ieee.Order.{round_mono}
use lib.Ieee.Positive.{through}
use lib.Ieee.Scale.{round_same}
use Rattle.rules.specs.Number.{◌⊕◌, ◌⊖◌, ◌⊗◌, 0·, 1·, float_of}
use Rattle.rules.specs.Tick.{next_alpha}
use Rattle.rules.specs.Recenter.{recenter_settings, recenter_alpha_min}
use Rattle.tree_cells.proofs.CoverRounding.{HasSign, round_sign, round_neg}
use Rattle.tree_cells.proofs.CoverMiddles.{Small, exact}

-- ---- finite, from 0 on

-- m * 2 ^ e ≤ n * 2 ^ d
abbrev AtMost : ℕ → ℤ → ℕ → ℤ → Type 0
AtMost m e n d = m * up e * down d ≤ n * up d * down e

-- finite, and at most n * 2 ^ d
record Under (x : Float) (n : ℕ) (d : ℤ) : Type 0 where
  m : ℕ
  e : ℤ
  is : x ≡ fin false m e
  less : AtMost m e n d

-- as floats are compared
le_at_most : (m : ℕ) (e : ℤ) (n : ℕ) (d : ℤ) → T (le (fin false m e) (fin false n d)) → AtMost m e n d
unfolding le
le_at_most m e n d t = go (m * up e * down d) (n * up d * down e) t
  where
    by : (a b : ℕ) (x y : Bool) → ltb a b ≡ x → eqb a b ≡ y → T (x || (y && true)) → a ≤ b
    by a b true y p q t = le_of_lt (ltb-true a b p)
    by a b false true p q t = le_of_eq (eqb-true a b q)
    by a b false false p q t = absurd t

    go : (a b : ℕ) → T (ltb a b || (eqb a b && true)) → a ≤ b
    go a b t = by a b (ltb a b) (eqb a b) refl refl t

under : (x : Float) (n : ℕ) (d : ℤ) → HasSign false x → T (le x (fin false n d)) → Under x n d
unfolding le
under nan n d h t = absurd h
under (inf true) n d h t = absurd (true≢false h)
under (inf false) n d h t = absurd t
under (fin true m e) n d h t = absurd (true≢false h)
under (fin false m e) n d h t = record { m = m; e = e; is = refl; less = le_at_most m e n d t }

-- an f64 from 0 to 2 ^ 44
pub record Mild (x : Float) : Type 0 where
  pub m : ℕ
  pub e : ℤ
  pub is : x ≡ fin false m e
  pub small : Small m e
  pub fit : T (fits binary64 x)

-- ---- differences

sum_less : (a b c : ℕ) → b ≤ a → sum binary64 false a true b c ≡ round binary64 false (a - b) c
unfolding sum
sum_less a b c h = ap (λ (t : Bool). cond t (round binary64 true (b - a) c) (round binary64 false (a - b) c)) (le-ltb a b h)

sum_more : (a b c : ℕ) → a < b → sum binary64 false a true b c ≡ round binary64 true (b - a) c
unfolding sum
sum_more a b c h = ap (λ (t : Bool). cond t (round binary64 true (b - a) c) (round binary64 false (a - b) c)) (lt-ltb a b h)

-- from a towards 0, by the decay d
abbrev next : Float → Float → Float
next d a = a ⊕ (0· ⊖ a) ⊗ d

-- 0 less a number above it: the number, rounded, with the other sign
from_zero : (m : ℕ) (e : ℤ) → 0· ⊖ (fin false (suc m) e) ≡ neg (round binary64 false (suc m * up e) (down e))
unfolding sub add neg of_bits
from_zero m e =
    sum_more (0 * 1 * down e) (suc m * up e * 1) (1 * down e) (some (up e) (down e) (up_pos e))
    ∙ round_neg binary64 (suc m * up e * 1 - 0 * 1 * down e) (1 * down e)
    ∙ ap neg (round_same binary64 false (suc m * up e * 1 - 0 * 1 * down e) (1 * down e) (suc m * up e) (down e) (mul-pos (omega arith) (down_pos e)) (down_pos e) (plain (suc m * up e) (down e)))
  where
    some : (u v : ℕ) → 0 < u → 0 * 1 * v < suc m * u * 1
    some u v h = let p : 0 < suc m * u = mul-pos {m = suc m} {n = u} (omega arith) h in omega (arith, p)

    plain : (x v : ℕ) → (x * 1 - 0 * 1 * v) * v ≡ x * (1 * v)
    plain x v = let z : 0 * 1 * v ≡ 0 = omega arith in let w : x * 1 - 0 * 1 * v ≡ x = omega (arith, z) in ap (λ (k : ℕ). k * v) w ∙ omega arith

-- nothing, rounded
none : (a c : ℕ) → a ≡ 0 → 0 < c → round binary64 false a c ≡ fin false 0 (pos 0)
unfolding round
none a c z h = round_same binary64 false a c 0 1 h (omega arith) (omega (arith, z))

-- ---- a step by a decay of n * 2 ^ k, which is at most 1

module _ (n : ℕ) (k : ℤ) (few : n * up k ≤ down k) where
  -- from 0
  cools-zero : (e : ℤ) → next (fin false n k) (fin false 0 e) ≡ fin false 0 (pos 0)
  unfolding sub add mul neg of_bits
  cools-zero e =
      ap (λ (x : Float). add binary64 (fin false 0 e) (mul binary64 x (fin false n k))) (sum_less (0 * 1 * down e) (0 * up e * 1) (1 * down e) (omega arith) ∙ none (0 * 1 * down e - 0 * up e * 1) (1 * down e) (omega arith) (omega (arith, down_pos e)))
      ∙ ap (λ (x : Float). add binary64 (fin false 0 e) x) (none (0 * 1 * (n * up k)) (1 * down k) (omega arith) (omega (arith, down_pos k)))
      ∙ unfold sum in none (0 * up e * 1 + 0 * 1 * down e) (down e * 1) (omega arith) (omega (arith, down_pos e))

  -- from a number above 0
  module _ (m : ℕ) (e : ℤ) (t : T (fits binary64 (fin false (suc m) e))) (small : Small (suc m) e) where
    abbrev a : Float
    a = fin false (suc m) e

    -- it rounds to m0 * 2 ^ e0, which has its value
    module _ (m0 : ℕ) (e0 : ℤ) (is : round binary64 false (suc m * up e) (down e) ≡ fin false m0 e0) (v : m0 * up e0 * down e ≡ suc m * up e * down e0) where
      same : round binary64 false (m0 * up e0) (down e0) ≡ fin false m0 e0
      same = round_same binary64 false (m0 * up e0) (down e0) (suc m * up e) (down e) (down_pos e0) (down_pos e) v ∙ is

      -- what is taken off it
      abbrev off : Float
      off = round binary64 false (m0 * up e0 * (n * up k)) (down e0 * down k)

      taken : (0· ⊖ a) ⊗ fin false n k ≡ neg off
      taken = ap (λ (x : Float). mul binary64 x (fin false n k)) (from_zero m e ∙ ap neg is) ∙ product ∙ round_neg binary64 (m0 * up e0 * (n * up k)) (down e0 * down k)
        where
          product : mul binary64 (neg (fin false m0 e0)) (fin false n k) ≡ round binary64 true (m0 * up e0 * (n * up k)) (down e0 * down k)
          product = unfold mul neg in refl

      off-under : Under off m0 e0
      off-under =
          under off m0 e0 (round_sign binary64 false (m0 * up e0 * (n * up k)) (down e0 * down k))
          (subst (λ (x : Float). T (le off x)) same
          (round_mono binary64 (m0 * up e0 * (n * up k)) (down e0 * down k) (m0 * up e0) (down e0) (mul-pos (down_pos e0) (down_pos k)) (down_pos e0) (less (m0 * up e0) (n * up k) (down e0) (down k) few)))
        where
          less : (x y q p : ℕ) → y ≤ p → x * y * q ≤ x * (q * p)
          less x y q p h = le_trans (le_of_eq (mul_assoc x y q)) (mul-le-mul_left x (le_trans (mul-le-mul_right q h) (le_of_eq (mul_comm p q))))

      -- what is left
      module _ (m1 : ℕ) (e1 : ℤ) (off-is : off ≡ fin false m1 e1) (l : AtMost m1 e1 m0 e0) where
        enough : AtMost m1 e1 (suc m) e
        enough = through (m1 * up e1) (m0 * up e0) (suc m * up e) (down e1) (down e0) (down e) (down_pos e0) l (le_of_eq v)

        abbrev left : Float
        left = round binary64 false (suc m * up e * down e1 - m1 * up e1 * down e) (down e * down e1)

        next-is : next (fin false n k) a ≡ left
        next-is = ap (λ (x : Float). add binary64 a x) (taken ∙ ap neg off-is) ∙ added ∙ sum_less (suc m * up e * down e1) (m1 * up e1 * down e) (down e * down e1) enough
          where
            added : add binary64 a (neg (fin false m1 e1)) ≡ sum binary64 false (suc m * up e * down e1) true (m1 * up e1 * down e) (down e * down e1)
            added = unfold add neg in refl

        left-under : Under left m0 e0
        left-under =
            under left m0 e0 (round_sign binary64 false (suc m * up e * down e1 - m1 * up e1 * down e) (down e * down e1))
            (subst (λ (x : Float). T (le left x)) is
            (round_mono binary64 (suc m * up e * down e1 - m1 * up e1 * down e) (down e * down e1) (suc m * up e) (down e) (mul-pos (down_pos e) (down_pos e1)) (down_pos e) (less (suc m * up e) (m1 * up e1 * down e) (down e1) (down e))))
          where
            less : (x y p q : ℕ) → (x * p - y) * q ≤ x * (q * p)
            less x y p q = le_trans (mul-le-mul_right q (sub-le (x * p) y)) (le_of_eq (mul_assoc x p q ∙ ap (λ (w : ℕ). x * w) (mul_comm p q)))

        -- m0 * 2 ^ e0 is small too, and so is what is left
        left-mild : Mild (next (fin false n k) a)
        left-mild =
            let u = left-under in
            let z : m0 * up e0 * 1 ≤ 2 ^ 44 * down e0 = through (m0 * up e0) (suc m * up e) (2 ^ 44) (down e0) (down e) 1 (down_pos e) (le_of_eq v) (le_trans (le_of_eq (mul-one (suc m * up e))) small) in
            record {
              m = u.m;
              e = u.e;
              is = next-is ∙ u.is;
              small = le_trans (le_of_eq (sym (mul-one (u.m * up u.e)))) (through (u.m * up u.e) (m0 * up e0) (2 ^ 44) (down u.e) (down e0) 1 (down_pos e0) u.less z);
              fit = add-fits binary64 a ((0· ⊖ a) ⊗ fin false n k);
            }

    cools-above : Mild (next (fin false n k) a)
    cools-above = at (round binary64 false (suc m * up e) (down e)) refl (rw mul-one at (exact false (suc m) e t small 0 (omega arith)))
      where
        at : (r : Float) → round binary64 false (suc m * up e) (down e) ≡ r → HasValue r false (suc m * up e) (down e) → Mild (next (fin false n k) a)
        at nan is v = absurd v
        at (inf s) is v = absurd v
        at (fin true m0 e0) is v = absurd (true≢false v.0)
        at (fin false m0 e0) is v = let o = off-under m0 e0 is v.1 in left-mild m0 e0 is v.1 o.m o.e o.is o.less

  -- a step from a mild number leads to one
  cools : (x : Float) → Mild x → Mild (next (fin false n k) x)
  cools x h = subst (λ (y : Float). Mild (next (fin false n k) y)) (sym h.is) (go h.m h.e (subst (λ (y : Float). T (fits binary64 y)) h.is h.fit) h.small)
    where
      go : (m : ℕ) (e : ℤ) → T (fits binary64 (fin false m e)) → Small m e → Mild (next (fin false n k) (fin false m e))
      go zero e t s = record { m = 0; e = pos 0; is = cools-zero e; small = omega arith; fit = add-fits binary64 (fin false 0 e) ((0· ⊖ fin false 0 e) ⊗ fin false n k) }
      go (suc m) e t s = cools-above m e t s

-- ---- alpha

-- the decay, which is at most 1
decay_is : float_of 0x3f97_58e2_1965_2bd4 ≡ fin false 1642913144064757 (negsuc 55)
unfolding of_bits
decay_is = refl

pub mild_next : (a : Float) → Mild a → Mild (next_alpha recenter_settings a)
unfolding next_alpha
mild_next a h = subst (λ (d : Float). Mild (next d a)) (sym decay_is) (cools 1642913144064757 (negsuc 55) (lit≤ tt) a h)

pub mild_one : Mild 1·
unfolding of_bits
mild_one = record { m = 1; e = pos 0; is = refl; small = lit≤ tt; fit = of_bits-fits binary64 0x3ff0_0000_0000_0000 }

-- alpha_min lies below
pub mild_above : (a : Float) → Mild a → lt recenter_alpha_min a ≡ true
unfolding lt of_bits
mild_above a h = ap (lt (fin true 1 (pos 0))) h.is ∙ lt-ltb 0 (1 * 1 * down h.e + h.m * up h.e * 1) (omega (arith, down_pos h.e))
