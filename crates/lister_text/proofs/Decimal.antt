-- Decimal digits: those that the io library spells are the rules', and how many there are. Assumes nothing.
use mathlib.Core.Path.{◌≡◌, sym, ap, ◌∙◌}
use mathlib.Core.List.{List, [], ◌∷◌, ◌++◌, append-nil}
use Prim.Native.Nat.{ℕ, zero, suc, ◌+◌, ◌-◌, ◌*◌, ◌/◌, ◌%◌, ◌^◌, ◌≤◌, ◌<◌}
use native.Mathlib.Nat.{pow-suc}
use native.Mathlib.Decide.{dec_lt}
use native.Mathlib.Omega.{arith}
use borrow.Author.Tests.{lt-ltb, le-ltb}
use lib.ListN.{length}
use lib.Seq.{append_snoc}
use Rattle.io.specs.Digits as Io
use Rattle.rules.specs.Listing.{digits, decimal}

-- the last digit of n
abbrev digit : ℕ → ℕ
digit n = 48 + n % 10

one-digit-or-more : {P : Type 0} (n : ℕ) → (n < 10 → P) → (10 ≤ n → P) → P
one-digit-or-more n f g = elim (dec_lt n 10) [ yes h ↦ f h | no h ↦ g (omega arith) ]

digits-small : (k n : ℕ) (after : List ℕ) → n < 10 → digits (suc k) n after ≡ (48 + n) ∷ after
digits-small k n after h = rw (lt-ltb n 10 h)

digits-large : (k n : ℕ) (after : List ℕ) → 10 ≤ n → digits (suc k) n after ≡ digits k (n / 10) (digit n ∷ after)
digits-large k n after h = rw (le-ltb n 10 h)

-- a tenth of n has a digit less
tenth : (k n : ℕ) → n < 10 ^ suc k → n / 10 < 10 ^ k
tenth k n h = let e : 10 ^ suc k ≡ 10 ^ k * 10 = pow-suc 10 k in omega arith

-- ---- the io library's digits

pow-some : (k : ℕ) → 1 ≤ 10 ^ k
pow-some zero = omega arith
pow-some (suc k) = let e : 10 ^ suc k ≡ 10 ^ k * 10 = pow-suc 10 k in omega (arith, pow-some k)

glyph_is : (n : ℕ) → Io.hex_digit_ascii (n % 10) ≡ digit n
glyph_is n = rw (lt-ltb (n % 10) 10 (omega arith))

spelt-from : (k j n : ℕ) (after : List ℕ) → n < 10 ^ suc j → Io.IsDigitCount 10 1 n (suc k) → Io.last_digits 10 (suc k) n ++ after ≡ digits (suc j) n after
spelt-from zero j n after h f =
    let small : n < 10 = f.1 in
    let e : n % 10 ≡ n = omega arith in
    ap (λ (d : ℕ). d ∷ after) (glyph_is n ∙ ap (λ (d : ℕ). 48 + d) e) ∙ sym (digits-small j n after small)
spelt-from (suc k) zero n after h f =
    let one : suc (suc k) - 1 ≡ suc k = omega arith in
    let least : 10 ^ suc k ≤ n = rw one at (f.2 (omega arith)) in
    let e : 10 ^ suc k ≡ 10 ^ k * 10 = pow-suc 10 k in
    absurd (omega (arith, pow-some k))
spelt-from (suc k) (suc j) n after h f =
    let one : suc (suc k) - 1 ≡ suc k = omega arith in
    let least : 10 ^ suc k ≤ n = rw one at (f.2 (omega arith)) in
    let e : 10 ^ suc k ≡ 10 ^ k * 10 = pow-suc 10 k in
    let large : 10 ≤ n = omega (arith, pow-some k) in
    let fewer : Io.IsDigitCount 10 1 (n / 10) (suc k) = (omega arith, tenth (suc k) n f.1, λ _. let z : suc k - 1 ≡ k = omega arith in rw z (omega arith)) in
    append_snoc (Io.last_digits 10 (suc k) (n / 10)) (Io.hex_digit_ascii (n % 10)) after
    ∙ ap (λ (d : ℕ). Io.last_digits 10 (suc k) (n / 10) ++ (d ∷ after)) (glyph_is n)
    ∙ spelt-from k j (n / 10) (digit n ∷ after) (tenth (suc j) n h) fewer
    ∙ sym (digits-large (suc j) n after large)

pub spelt : (n k : ℕ) → n < 10 ^ 14 → Io.IsDigitCount 10 1 n k → Io.last_digits 10 k n ≡ decimal n
spelt n zero h f = absurd (omega (arith, f.0))
spelt n (suc k) h f = sym (append-nil (Io.last_digits 10 (suc k) n)) ∙ spelt-from k 13 n [] h f

-- ---- how many there are

digits-length : (j k n : ℕ) (after : List ℕ) → n < 10 ^ suc j → length (digits k n after) ≤ suc j + length after
digits-length j zero n after h = omega arith
digits-length zero (suc k) n after h = let e : length (digits (suc k) n after) ≡ suc (length after) = ap length (digits-small k n after h) in omega arith
digits-length (suc j) (suc k) n after h =
    one-digit-or-more n
    (λ small. let e : length (digits (suc k) n after) ≡ suc (length after) = ap length (digits-small k n after small) in omega arith)
    (λ large.
    let e : length (digits (suc k) n after) ≡ length (digits k (n / 10) (digit n ∷ after)) = ap length (digits-large k n after large) in
    let f : length (digits k (n / 10) (digit n ∷ after)) ≤ suc j + suc (length after) = digits-length j k (n / 10) (digit n ∷ after) (tenth (suc j) n h) in
    omega arith)

-- a number below 10 ^ k has at most k digits
pub decimal-length : (k n : ℕ) → n < 10 ^ suc k → length (decimal n) ≤ suc k
decimal-length k n h = let e : length (digits 14 n []) ≤ suc k + 0 = digits-length k 14 n [] h in omega arith

digits_most : (k n : ℕ) (after : List ℕ) → length (digits k n after) ≤ k + length after
digits_most zero n after = omega arith
digits_most (suc k) n after =
    one-digit-or-more n
    (λ small. let e : length (digits (suc k) n after) ≡ suc (length after) = ap length (digits-small k n after small) in omega arith)
    (λ large.
    let e : length (digits (suc k) n after) ≡ length (digits k (n / 10) (digit n ∷ after)) = ap length (digits-large k n after large) in
    let f : length (digits k (n / 10) (digit n ∷ after)) ≤ k + suc (length after) = digits_most k (n / 10) (digit n ∷ after) in
    omega arith)

-- there are never more than 14 digits
pub decimal_most : (n : ℕ) → length (decimal n) ≤ 14
decimal_most n = digits_most 14 n []
