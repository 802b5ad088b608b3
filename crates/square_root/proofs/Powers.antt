-- What the proofs of the steps to a root cite: powers of two. Assumes nothing.
use mathlib.Core.Path.{◌≡◌, sym, ap, ◌∙◌, subst}
use Prim.Native.Nat.{ℕ, suc, ◌+◌, ◌-◌, ◌*◌, ◌/◌, ◌%◌, ◌^◌, ◌≤◌, ◌<◌}
use native.Mathlib.Nat.{le_refl, le_trans, le_of_eq, lt_of_lt_of_le, lt_of_le_of_lt, lt_of_not-le, lt_irrefl, mul_assoc, mul_comm, add_comm, mul-le-mul_right}
use native.Mathlib.Omega.{arith}
use lib.Arith.{digits_div}
use lib.Count.{count_leading_zeros, leading_top}
use lib.Pow.{pow-add, pow_pos, pow_mono, shl_exact, shl_lt}
use Rattle.rules.specs.Root.{infinity}
use Rattle.rules.proofs.Units.{units_small, units-large}
use Rattle.rules.proofs.Nearest.{square_le}
use Rattle.square_root.specs.Steps.{Unpacked, Radicand, BetweenSteps, Stepped, Rooted, radicand_of}

-- ---- the radicand

exp_even : (k : ℕ) → 52 ≤ k → k % 2 ≡ 0 → 52 + ((k - 52) / 2 + (k - 52) / 2) ≡ k
exp_even k l e = omega arith

exp_odd : (k : ℕ) → 52 ≤ k → (k % 2 ≡ 0 → ⊥) → 52 + ((k - 52) / 2 + (k - 52) / 2) + 1 ≡ k
exp_odd k l e = let h : k % 2 ≡ 1 = one k e in omega arith
  where
    one : (k : ℕ) → (k % 2 ≡ 0 → ⊥) → k % 2 ≡ 1
    one k e = omega arith

spread : (m h : ℕ) → m * 2 ^ (52 + (h + h)) ≡ m * 2 ^ 52 * (2 ^ h * 2 ^ h)
spread m h = ap (λ (x : ℕ). m * x) (pow-add 2 52 (h + h) ∙ ap (λ (x : ℕ). 2 ^ 52 * x) (pow-add 2 h h)) ∙ sym (mul_assoc m (2 ^ 52) (2 ^ h * 2 ^ h))

pub radicand_even : (m k : ℕ) → 52 ≤ k → k % 2 ≡ 0 → Radicand m k m
radicand_even m k l e = record {
  lo = le_refl m;
  hi = omega arith;
  value = ap (λ (x : ℕ). m * 2 ^ x) (sym (exp_even k l e)) ∙ spread m ((k - 52) / 2);
}

pub radicand_odd : (m k : ℕ) → 52 ≤ k → (k % 2 ≡ 0 → ⊥) → Radicand m k (m * 2)
radicand_odd m k l e =
    let h = (k - 52) / 2 in record {
      lo = omega arith;
      hi = omega arith;
      value =
          ap (λ (x : ℕ). m * 2 ^ x) (sym (exp_odd k l e) ∙ add_comm (52 + (h + h)) 1)
          ∙ ap (λ (x : ℕ). m * x) (pow-add 2 1 (52 + (h + h)))
          ∙ sym (mul_assoc m 2 (2 ^ (52 + (h + h))))
          ∙ spread (m * 2) h;
    }

-- ---- the loop

-- after i of the 53 steps
pub record Inv (a q rem rest i : ℕ) : Type 0 where
  pub ready : BetweenSteps q rem rest
  pub most : i ≤ 53
  pub short : q < 2 ^ i
  pub all : radicand_of q rem rest ≡ a * 4 ^ i

pub inv_start : (a : ℕ) → a < 2 ^ 54 → Inv a 0 0 a 0
inv_start a h = record { ready = record { rem_le = omega arith; rest_lt = h }; most = omega arith; short = omega arith; all = omega arith }

below_52 : (q i : ℕ) → q < 2 ^ i → i < 53 → q < 2 ^ 52
below_52 q i h l = lt_of_lt_of_le h (pow_mono {i = i} {j = 52} (omega arith))

pub inv_q : (a q rem rest i : ℕ) → Inv a q rem rest i → i < 53 → q < 2 ^ 52
inv_q a q rem rest i I l = below_52 q i I.short l

pub inv_step : (a q rem rest i q' rem' rest' : ℕ) → Inv a q rem rest i → i < 53 → Stepped q rem rest q' rem' rest' → Inv a q' rem' rest' (i + 1)
inv_step a q rem rest i q' rem' rest' I l S = record {
  ready = S.ready;
  most = omega arith;
  short = lt_of_lt_of_le (double q q' (2 ^ i) S.q_le I.short) (le_of_eq (sym (pow-add 2 i 1)));
  all = S.same ∙ ap (λ (x : ℕ). 4 * x) I.all ∙ mul_comm 4 (a * 4 ^ i) ∙ mul_assoc a (4 ^ i) 4 ∙ ap (λ (x : ℕ). a * x) (sym (pow-add 4 i 1));
}
  where
    double : (q q' p : ℕ) → q' ≤ 2 * q + 1 → q < p → q' < p * 2
    double q q' p h k = omega arith

take-off : (x rest y : ℕ) → rest < 2 ^ 54 → x * 2 ^ 54 + rest ≡ y * 2 ^ 54 + 0 → x ≡ y
take-off x rest y l e = sym (digits_div x l) ∙ ap (λ (z : ℕ). z / 2 ^ 54) e ∙ digits_div y (pow_pos 54)

regroup : (a : ℕ) → a * 4 ^ 53 ≡ a * 2 ^ 52 * 2 ^ 54 + 0
regroup a = omega arith

pub at_least : (q rem a : ℕ) → q * q + rem ≡ a * 2 ^ 52 → rem ≤ 2 * q → 2 ^ 52 ≤ a → q < 2 ^ 52 → ⊥
at_least q rem a e l g h =
    let s : (q + 1) * (q + 1) ≤ 2 ^ 52 * 2 ^ 52 = square_le (q + 1) (2 ^ 52) (omega arith) in
    let t : 2 ^ 52 * 2 ^ 52 ≤ a * 2 ^ 52 = mul-le-mul_right (2 ^ 52) g in
    omega arith

pub least : (q : ℕ) → (q < 2 ^ 52 → ⊥) → 2 ^ 52 ≤ q
least q f = omega arith

pub inv_end : (a q rem rest i : ℕ) → Inv a q rem rest i → 53 ≤ i → 2 ^ 52 ≤ a → Rooted a q rem
inv_end a q rem rest i I l g =
    let is : i ≡ 53 = omega arith in
    let e : q * q + rem ≡ a * 2 ^ 52 = take-off (q * q + rem) rest (a * 2 ^ 52) I.ready.rest_lt (I.all ∙ ap (λ (x : ℕ). a * 4 ^ x) is ∙ regroup a) in record {
      lo = least q (at_least q rem a e I.ready.rem_le g);
      hi = subst (λ (x : ℕ). q < 2 ^ x) is I.short;
      small = I.ready.rem_le;
      value = e;
    }

-- ---- the parts of a pattern

pow_lt_back : (i p : ℕ) → 2 ^ i < 2 ^ p → i < p
pow_lt_back i p h = lt_of_not-le (λ (g : p ≤ i). lt_irrefl (2 ^ i) (lt_of_lt_of_le h (pow_mono g)))

-- a subnormal pattern, whose leading digit is that of 2 ^ j
pub record Small (b z : ℕ) : Type 0 where
  pub z_ge : 11 < z
  pub z_le : z ≤ 63
  pub shift : Unpacked b ((b * 2 ^ (z - 11)) % 2 ^ 64) (1074 - (z - 11))

pub small : (b : ℕ) → 0 < b → b < 2 ^ 52 → Small b (count_leading_zeros 64 b)
small b p h =
    let t = leading_top 64 b p (lt_of_lt_of_le h (pow_mono {i = 52} {j = 64} (omega arith))) in
    let z = count_leading_zeros 64 b in
    let j = t.0 in
    let j-lt : j < 52 = pow_lt_back j 52 (lt_of_le_of_lt t.2 h) in
    let z-is : z + suc j ≡ 64 = t.1 in
    let s = z - 11 in
    let exact : (b * 2 ^ s) % 2 ^ 64 ≡ b * 2 ^ s = shl_exact (suc j) s 64 t.3 (room z j z-is) in
    record {
      z_ge = ge z j z-is j-lt;
      z_le = le z j z-is;
      shift = subst (λ (m : ℕ). Unpacked b m (1074 - s)) (sym exact) (record {
        lo = le_trans (le_of_eq (ap (λ (x : ℕ). 2 ^ x) (sym (join z j z-is j-lt)) ∙ pow-add 2 j s)) (mul-le-mul_right (2 ^ s) t.2);
        hi = lt_of_lt_of_le (shl_lt (suc j) s t.3) (le_of_eq (ap (λ (x : ℕ). 2 ^ x) (join' z j z-is j-lt)));
        least = k-ge z j z-is;
        most = k-le z;
        value =
            ap (λ (x : ℕ). x * 2 ^ 1074) (units_small b h)
            ∙ ap (λ (x : ℕ). b * 2 ^ x) (sym (parted z j z-is))
            ∙ ap (λ (x : ℕ). b * x) (pow-add 2 s (1074 - s))
            ∙ sym (mul_assoc b (2 ^ s) (2 ^ (1074 - s)));
      });
    }
  where
    ge : (z j : ℕ) → z + suc j ≡ 64 → j < 52 → 11 < z
    ge z j e l = omega arith

    le : (z j : ℕ) → z + suc j ≡ 64 → z ≤ 63
    le z j e = omega arith

    room : (z j : ℕ) → z + suc j ≡ 64 → suc j + (z - 11) ≤ 64
    room z j e = omega arith

    join : (z j : ℕ) → z + suc j ≡ 64 → j < 52 → j + (z - 11) ≡ 52
    join z j e l = omega arith

    join' : (z j : ℕ) → z + suc j ≡ 64 → j < 52 → suc j + (z - 11) ≡ 53
    join' z j e l = omega arith

    k-ge : (z j : ℕ) → z + suc j ≡ 64 → 1022 ≤ 1074 - (z - 11)
    k-ge z j e = omega arith

    k-le : (z : ℕ) → 1074 - (z - 11) ≤ 3119
    k-le z = omega arith

    parted : (z j : ℕ) → z + suc j ≡ 64 → (z - 11) + (1074 - (z - 11)) ≡ 1074
    parted z j e = omega arith

pub normal : (b : ℕ) → 2 ^ 52 ≤ b → b < infinity → Unpacked b (b % 2 ^ 52 + 2 ^ 52) (b / 2 ^ 52 + 1073)
normal b h l = record {
  lo = omega arith;
  hi = omega arith;
  least = omega arith;
  most = omega arith;
  value =
      ap (λ (x : ℕ). x * 2 ^ 1074) (units-large b h)
      ∙ mul_assoc (2 ^ 52 + b % 2 ^ 52) (2 ^ (b / 2 ^ 52 - 1)) (2 ^ 1074)
      ∙ ap (λ (x : ℕ). (2 ^ 52 + b % 2 ^ 52) * x) (sym (pow-add 2 (b / 2 ^ 52 - 1) 1074) ∙ ap (λ (x : ℕ). 2 ^ x) (field b h))
      ∙ ap (λ (x : ℕ). x * 2 ^ (b / 2 ^ 52 + 1073)) (add_comm (2 ^ 52) (b % 2 ^ 52));
}
  where
    field : (b : ℕ) → 2 ^ 52 ≤ b → b / 2 ^ 52 - 1 + 1074 ≡ b / 2 ^ 52 + 1073
    field b h = omega arith
