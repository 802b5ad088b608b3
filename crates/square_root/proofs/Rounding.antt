-- From an integer root with its remainder to the nearest pattern. No tie can be: (2 q + 1) ² is odd and 4 n is even. Assumes nothing.
use mathlib.Core.Path.{◌≡◌, sym, ap, ◌∙◌}
use Prim.Native.Nat.{ℕ, ◌+◌, ◌-◌, ◌*◌, ◌/◌, ◌^◌, ◌≤◌, ◌<◌}
use native.Mathlib.Nat.{le_trans, le_of_eq, le_of_lt, lt_of_lt_of_le, lt_of_le_of_lt, mul_assoc, mul-pos, mul-mul-mul_comm, mul-le-mul_right, mul-lt-mul_of_pos_right, add-mul}
use native.Mathlib.Omega.{arith}
use lib.Pow.{pow_pos}
use Rattle.rules.specs.Root.{infinity, units, fourfold}
use Rattle.rules.proofs.Units.{units-at, units_lt, units_le}
use Rattle.rules.proofs.Nearest.{Nearer, square_le, square_lt}
use Rattle.square_root.specs.Steps.{Unpacked, Radicand, Rooted}

-- ---- with p for 2 ^ h

squared : (c p s : ℕ) → c * p ≤ s → c * c * (p * p) ≤ s * s
squared c p s h = le_trans (le_of_eq (sym (mul-mul-mul_comm c p c p))) (square_le (c * p) s h)

squared-to : (c p s : ℕ) → s ≤ c * p → s * s ≤ c * c * (p * p)
squared-to c p s h = le_trans (square_le s (c * p) h) (le_of_eq (mul-mul-mul_comm c p c p))

squared-to_lt : (c p s : ℕ) → s < c * p → s * s < c * c * (p * p)
squared-to_lt c p s h = lt_of_lt_of_le (square_lt s (c * p) h) (le_of_eq (mul-mul-mul_comm c p c p))

-- the root is √n * 2 ^ h units, for n = q * q + rem, whose whole part is q
module _ (b h q rem : ℕ) (val : units b * 2 ^ 1074 ≡ (q * q + rem) * (2 ^ h * 2 ^ h)) (small : rem ≤ 2 * q) (lo : 2 ^ 52 ≤ q) (hi : q < 2 ^ 53) (room : h ≤ 2000) where
  abbrev p : ℕ
  p = 2 ^ h

  abbrev n : ℕ
  n = q * q + rem

  four_is : fourfold b ≡ 4 * n * (p * p)
  four_is = ap (λ (x : ℕ). 4 * x) val ∙ sym (mul_assoc 4 n (p * p))

  over : (c s : ℕ) → 4 * n < c * c → c * p ≤ s → fourfold b < s * s
  over c s l g = lt_of_le_of_lt (le_of_eq four_is) (lt_of_lt_of_le (mul-lt-mul_of_pos_right l (mul-pos (pow_pos h) (pow_pos h))) (squared c p s g))

  under : (c s : ℕ) → c * c < 4 * n → s ≤ c * p → s * s < fourfold b
  under c s l g = lt_of_le_of_lt (squared-to c p s g) (lt_of_lt_of_le (mul-lt-mul_of_pos_right l (mul-pos (pow_pos h) (pow_pos h))) (le_of_eq (sym four_is)))

  under_lt : (c s : ℕ) → c * c ≤ 4 * n → s < c * p → s * s < fourfold b
  under_lt c s l g = lt_of_lt_of_le (squared-to_lt c p s g) (le_trans (mul-le-mul_right (p * p) l) (le_of_eq (sym four_is)))

  at_q : units (h * 2 ^ 52 + q) ≡ q * p
  at_q = units-at h q lo (le_of_lt hi)

  at_next : units (h * 2 ^ 52 + (q + 1)) ≡ (q + 1) * p
  at_next = units-at h (q + 1) (more q lo) (more' q hi)
    where
      more : (q : ℕ) → 2 ^ 52 ≤ q → 2 ^ 52 ≤ q + 1
      more q l = omega arith

      more' : (q : ℕ) → q < 2 ^ 53 → q + 1 ≤ 2 ^ 53
      more' q l = omega arith

  finite_q : (q : ℕ) → q ≤ 2 ^ 53 → h * 2 ^ 52 + q < infinity
  finite_q q l = omega arith

  sum2 : (a b x y : ℕ) → a ≡ x * p → y * p ≤ b → (x + y) * p ≤ a + b
  sum2 a b x y e l = le_trans (le_of_eq (add-mul x y p)) (go (x * p) (y * p) a b e l)
    where
      go : (x y a b : ℕ) → a ≡ x → y ≤ b → x + y ≤ a + b
      go x y a b e l = omega arith

  nearer-down : rem ≤ q → Nearer b (h * 2 ^ 52 + q)
  nearer-down l = record {
    finite = finite_q q (le_of_lt hi);
    above = (λ y g. over (q + (q + 1)) _ (odd-above q rem l) (sum2 _ _ q (q + 1) at_q (le_trans (le_of_eq (sym at_next)) (units_le (h * 2 ^ 52 + (q + 1)) y (bump (h * 2 ^ 52) q y g)))));
    below = (λ y g. under_lt (q + q) _ (even-below q rem) (lower y (units_lt y (h * 2 ^ 52 + q) g)));
  }
    where
      odd-above : (q rem : ℕ) → rem ≤ q → 4 * (q * q + rem) < (q + (q + 1)) * (q + (q + 1))
      odd-above q rem l = omega arith

      even-below : (q rem : ℕ) → (q + q) * (q + q) ≤ 4 * (q * q + rem)
      even-below q rem = omega arith

      bump : (a q y : ℕ) → a + q < y → a + (q + 1) ≤ y
      bump a q y l = omega arith

      lower : (y : ℕ) → units y < units (h * 2 ^ 52 + q) → units (h * 2 ^ 52 + q) + units y < (q + q) * p
      lower y l = lt_of_lt_of_le (go (units (h * 2 ^ 52 + q)) (units y) (q * p) at_q l) (le_of_eq (sym (add-mul q q p)))
        where
          go : (a b x : ℕ) → a ≡ x → b < a → a + b < x + x
          go a b x e l = omega arith

  nearer-up : q < rem → Nearer b (h * 2 ^ 52 + (q + 1))
  nearer-up l = record {
    finite = finite_q (q + 1) (more q hi);
    above = (λ y g. over ((q + 1) + (q + 1)) _ (even-above q rem small) (sum2 _ _ (q + 1) (q + 1) at_next (le_trans (le_of_eq (sym at_next)) (units_le (h * 2 ^ 52 + (q + 1)) y (le_of_lt g)))));
    below = (λ y g. under ((q + 1) + q) _ (odd-below q rem l) (upper y (units_le y (h * 2 ^ 52 + q) (drop (h * 2 ^ 52) q y g))));
  }
    where
      more : (q : ℕ) → q < 2 ^ 53 → q + 1 ≤ 2 ^ 53
      more q l = omega arith

      even-above : (q rem : ℕ) → rem ≤ 2 * q → 4 * (q * q + rem) < ((q + 1) + (q + 1)) * ((q + 1) + (q + 1))
      even-above q rem l = omega arith

      odd-below : (q rem : ℕ) → q < rem → ((q + 1) + q) * ((q + 1) + q) < 4 * (q * q + rem)
      odd-below q rem l = omega arith

      drop : (a q y : ℕ) → y < a + (q + 1) → y ≤ a + q
      drop a q y l = omega arith

      upper : (y : ℕ) → units y ≤ units (h * 2 ^ 52 + q) → units (h * 2 ^ 52 + (q + 1)) + units y ≤ ((q + 1) + q) * p
      upper y l = le_trans (go (units (h * 2 ^ 52 + (q + 1))) (units y) ((q + 1) * p) (q * p) at_next (le_trans l (le_of_eq at_q))) (le_of_eq (sym (add-mul (q + 1) q p)))
        where
          go : (a b x y : ℕ) → a ≡ x → b ≤ y → a + b ≤ x + y
          go a b x y e l = omega arith

-- from what the steps to a root promise
module _ (b m k a q rem : ℕ) (U : Unpacked b m k) (R : Radicand m k a) (S : Rooted a q rem) where
  abbrev h : ℕ
  h = (k - 52) / 2

  value : units b * 2 ^ 1074 ≡ (q * q + rem) * (2 ^ h * 2 ^ h)
  value = U.value ∙ R.value ∙ ap (λ (x : ℕ). x * (2 ^ h * 2 ^ h)) (sym S.value)

  room : h ≤ 2000
  room = half k U.most
    where
      half : (k : ℕ) → k ≤ 3119 → (k - 52) / 2 ≤ 2000
      half k l = omega arith

  pub down : rem ≤ q → Nearer b (h * 2 ^ 52 + q)
  down l = nearer-down b h q rem value S.small S.lo S.hi room l

  pub up : q < rem → Nearer b (h * 2 ^ 52 + (q + 1))
  up l = nearer-up b h q rem value S.small S.lo S.hi room l
