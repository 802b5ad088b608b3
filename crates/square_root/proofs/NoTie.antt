-- No root ever lies in the middle of two neighbouring values, so "ties to even" never decides. Assumes nothing.
use mathlib.Core.Path.{◌≡◌, refl, subst}
use mathlib.Core.Logic.{◌≢◌}
use mathlib.Core.Bool.{Bool, true, false, not}
use Prim.Native.Nat.{ℕ, zero, suc, ◌+◌, ◌-◌, ◌*◌, ◌/◌, ◌%◌, ◌^◌, ◌≤◌, ◌<◌}
use native.Mathlib.Nat.{le_trans}
use native.Mathlib.Omega.{arith}
use lib.Count.{count_leading_zeros}
use lib.Dec.{T, ltb, eqb, ltb→lt, nltb→le, eqb→eq}
use lib.Ieee.Fits.{eq→eqb}
use Rattle.rules.specs.Root.{infinity, units, fourfold, squared, Nearest}
use Rattle.rules.proofs.Nearest.{Nearer, nearest, square_le}
use Rattle.rules.proofs.Nearest as Near
use Rattle.square_root.specs.Steps.{Unpacked, Radicand, Rooted}
use Rattle.square_root.proofs.Powers.{small, normal, radicand_even, radicand_odd, at_least, least}
use Rattle.square_root.proofs.Rounding.{down, up}

-- ---- every number has a whole root and a remainder

record WholeRoot (n : ℕ) : Type 0 where
  q : ℕ
  rem : ℕ
  small : rem ≤ 2 * q
  value : q * q + rem ≡ n

next : (n : ℕ) → WholeRoot n → WholeRoot (suc n)
next n R = go (ltb R.rem (2 * R.q)) (ltb→lt R.rem (2 * R.q)) (nltb→le R.rem (2 * R.q))
  where
    more : (q rem n : ℕ) → q * q + rem ≡ n → q * q + suc rem ≡ suc n
    more q rem n e = omega arith

    full : (q rem n : ℕ) → q * q + rem ≡ n → rem ≤ 2 * q → 2 * q ≤ rem → suc q * suc q + 0 ≡ suc n
    full q rem n e h k = omega arith

    none : (q : ℕ) → 0 ≤ 2 * suc q
    none q = omega arith

    go : (t : Bool) → (T t → R.rem < 2 * R.q) → (T (not t) → 2 * R.q ≤ R.rem) → WholeRoot (suc n)
    go true l g = record { q = R.q; rem = suc R.rem; small = l tt; value = more R.q R.rem n R.value }
    go false l g = record { q = suc R.q; rem = 0; small = none R.q; value = full R.q R.rem n R.value R.small (g tt) }

whole-root : (n : ℕ) → WholeRoot n
whole-root zero = record { q = 0; rem = 0; small = omega arith; value = refl }
whole-root (suc n) = next n (whole-root n)

rooted : (a : ℕ) → 2 ^ 52 ≤ a → a < 2 ^ 54 → (R : WholeRoot (a * 2 ^ 52)) → Rooted a R.q R.rem
rooted a h l R = record {
  lo = least R.q (at_least R.q R.rem a R.value R.small h);
  hi = most R.q (λ g. over R.q R.rem a R.value l (square_le (2 ^ 53) R.q g));
  small = R.small;
  value = R.value;
}
  where
    most : (q : ℕ) → (2 ^ 53 ≤ q → ⊥) → q < 2 ^ 53
    most q f = omega arith

    over : (q rem a : ℕ) → q * q + rem ≡ a * 2 ^ 52 → a < 2 ^ 54 → 2 ^ 53 * 2 ^ 53 ≤ q * q → ⊥
    over q rem a e l g = omega arith

-- ---- so for every value there is one that is nearer than every other

record Found (b : ℕ) : Type 0 where
  r : ℕ
  nearer : Nearer b r

from_radicand : (b m k a : ℕ) → Unpacked b m k → Radicand m k a → Found b
from_radicand b m k a U R = go (ltb W.q W.rem) (ltb→lt W.q W.rem) (nltb→le W.q W.rem)
  where
    W : WholeRoot (a * 2 ^ 52)
    W = whole-root (a * 2 ^ 52)

    hi : (a m : ℕ) → a ≤ 2 * m → m < 2 ^ 53 → a < 2 ^ 54
    hi a m h l = omega arith

    S : Rooted a W.q W.rem
    S = rooted a (le_trans U.lo R.lo) (hi a m R.hi U.hi) W

    go : (t : Bool) → (T t → W.q < W.rem) → (T (not t) → W.rem ≤ W.q) → Found b
    go true l g = record { r = (k - 52) / 2 * 2 ^ 52 + (W.q + 1); nearer = up b m k a W.q W.rem U R S (l tt) }
    go false l g = record { r = (k - 52) / 2 * 2 ^ 52 + W.q; nearer = down b m k a W.q W.rem U R S (g tt) }

from_parts : (b m k : ℕ) → Unpacked b m k → Found b
from_parts b m k U = go (eqb (k % 2) 0) (eqb→eq (k % 2) 0) (λ e. eq→eqb e)
  where
    room : (k : ℕ) → 1022 ≤ k → 52 ≤ k
    room k h = omega arith

    go : (t : Bool) → (T t → k % 2 ≡ 0) → (k % 2 ≡ 0 → T t) → Found b
    go true l g = from_radicand b m k m U (radicand_even m k (room k U.least) (l tt))
    go false l g = from_radicand b m k (m * 2) U (radicand_odd m k (room k U.least) g)

found : (b : ℕ) → 0 < b → b < infinity → Found b
found b p h = go (ltb b (2 ^ 52)) (ltb→lt b (2 ^ 52)) (nltb→le b (2 ^ 52))
  where
    go : (t : Bool) → (T t → b < 2 ^ 52) → (T (not t) → 2 ^ 52 ≤ b) → Found b
    go true l g = from_parts b ((b * 2 ^ (count_leading_zeros 64 b - 11)) % 2 ^ 64) (1074 - (count_leading_zeros 64 b - 11)) (small b p (l tt)).shift
    go false l g = from_parts b (b % 2 ^ 52 + 2 ^ 52) (b / 2 ^ 52 + 1073) (normal b (g tt) h)

-- Of a finite value above zero, the root is never as near to another value as to its nearest one.
pub no_tie : (b r y : ℕ) → 0 < b → b < infinity → Nearest b r → y ≢ r → squared (units r + units y) ≢ fourfold b
no_tie b r y p h N ne =
    let F = found b p h in
    let e : F.r ≡ r = Near.unique b F.r r (nearest b F.r F.nearer) N in
    Near.no_tie b r (subst (Nearer b) e F.nearer) y ne
