-- What one turn of each loop over a sheet does, and what is left at its end.
use mathlib.Core.Path.{◌≡◌, sym, ap, ◌∙◌}
use mathlib.Core.List.{List, ◌∷◌, ◌++◌, append-nil}
use Prim.Native.Nat.{ℕ, suc, ◌+◌, ◌-◌, ◌*◌, ◌/◌, ◌≤◌, ◌<◌}
use native.Mathlib.Nat.{mul-le-mul_right}
use native.Mathlib.Numerals.{add-one, add-two, add-one-le}
use native.Mathlib.Omega.{arith}
use lib.ListN.{length, get_or, take, drop, set, length-set, drop_of_length-le}
use lib.Seq.{drop-cons, take-suc-set, take_all, append_snoc}
use lib.Ieee.{Float, nan}
use Rattle.rules.specs.declared.Particle.{Particle}
use Rattle.rules.specs.Plain.{overwritten}
use Rattle.rules.specs.Number.{bits_of}
use Rattle.rules.specs.declared.Refusal.{Refusal}
use Rattle.rules.specs.Outcome.{fine, ◌>>=◌, result_of, check_from}
use Rattle.rules.proofs.OutcomeLaws.{err_stays, ok_goes_on}
use Rattle.std.proofs.Common.{Result, Ok, Err}
use Rattle.rules.specs.Sheet.{record_size, bytes_of, word_at, float_at, float_bytes, record_at, record_bytes, records_from, record_check, pairs_from}
use Rattle.sheet.specs.Columns.{PairsFit, put_pairs, flags_of}
use Rattle.sheet.proofs.Lists.{overwritten-next}

-- ---- filling a list from the front

module _ {A : Type 0} where
  -- one element more
  pub one_more : (l : List A) (i : ℕ) (x : A) (q : List A) → i < length l → take (i + 1) (set l i x) ++ q ≡ take i l ++ (x ∷ q)
  one_more l i x q h = rw (add-one i, take-suc-set l i x h) (append_snoc (take i l) x q)

  -- a pair more
  pub two-more : (l : List A) (i : ℕ) (x y : A) (q : List A) → i + 1 < length l → take (i + 2) (set (set l i x) (i + 1) y) ++ q ≡ take i l ++ (x ∷ y ∷ q)
  two-more l i x y q h =
      ap (λ (k : ℕ). take k (set (set l i x) (i + 1) y) ++ q) e
      ∙ one_more (set l i x) (i + 1) y q (rw length-set h)
      ∙ one_more l i x (y ∷ q) (omega arith)
    where
      e : i + 2 ≡ i + 1 + 1
      e = omega arith

  -- the next pair
  pub two-off : (l : List A) (i : ℕ) (z : A) → i + 1 < length l → drop i l ≡ get_or l i z ∷ get_or l (i + 1) z ∷ drop (i + 2) l
  two-off l i z h = drop-cons l i z (omega arith) ∙ rw (add-one i, add-two i, drop-cons l (suc i) z (rw add-one at h))

-- ---- where pairs lie

-- each pair lies in the bytes
pub reaches : (s : List ℕ) (stride offset n j : ℕ) → PairsFit s stride offset n → j < n / 2 → offset + j * stride + 16 ≤ length s
reaches s stride offset n j r h = omega (arith, mul-le-mul_right stride (add-one-le h), r.reach)

-- ---- reading pairs: what is filled, and what is left to read

module _ (stride : ℕ) (s : List ℕ) (offset : ℕ) where
  pairs-at : (j n : ℕ) → j < n
      → pairs_from stride s (offset + j * stride) (n - j)
      ≡ float_at s (offset + j * stride) ∷ float_at s (offset + j * stride + 8) ∷ pairs_from stride s (offset + (j + 1) * stride) (n - (j + 1))
  pairs-at j n h = rw (e, f)
    where
      e : n - j ≡ suc (n - (j + 1))
      e = omega arith

      f : offset + (j + 1) * stride ≡ offset + j * stride + stride
      f = omega arith

  pub read-turn : (out : List Float) (j n : ℕ) → j < n → n * 2 ≤ length out
      → take ((j + 1) * 2) (set (set out (j * 2) (float_at s (offset + j * stride))) (j * 2 + 1) (float_at s (offset + j * stride + 8)))
      ++ pairs_from stride s (offset + (j + 1) * stride) (n - (j + 1))
      ≡ take (j * 2) out ++ pairs_from stride s (offset + j * stride) (n - j)
  read-turn out j n h r =
      rw (pairs-at j n h, e) (two-more out (j * 2) _ _ _ (omega arith))
    where
      e : (j + 1) * 2 ≡ j * 2 + 2
      e = omega arith

  pub read_end : (out : List Float) (j n : ℕ) → n ≤ j → length out ≡ n * 2
      → take (j * 2) out ++ pairs_from stride s (offset + j * stride) (n - j) ≡ out
  read_end out j n h r = rw (e, take_all (j * 2) out (omega arith)) (append-nil out)
    where
      e : n - j ≡ 0
      e = omega arith

-- ---- writing pairs: what is left to write

-- two words written one after the other are a pair
pub pair_put : (s s1 s2 : List ℕ) (at a b : ℕ) (x y : Float) → s1 ≡ overwritten s at (bytes_of 8 a) → a ≡ bits_of x → s2 ≡ overwritten s1 (at + 8) (bytes_of 8 b) → b ≡ bits_of y
    → at + 16 ≤ length s
    → s2 ≡ overwritten s at (float_bytes x ++ float_bytes y)
pair_put s s1 s2 at a b x y e1 ea e2 eb h =
    e2
    ∙ ap (λ (l : List ℕ). overwritten l (at + 8) (bytes_of 8 b)) (e1 ∙ ap (λ (n : ℕ). overwritten s at (bytes_of 8 n)) ea)
    ∙ ap (λ (n : ℕ). overwritten (overwritten s at (float_bytes x)) (at + 8) (bytes_of 8 n)) eb
    ∙ overwritten-next s at (float_bytes x) (float_bytes y) (omega arith)

-- two pairs and a word written one after the other are a record
pub record_put : (s s1 s2 s3 : List ℕ) (at : ℕ) (p : Particle)
    → s1 ≡ overwritten s at (float_bytes p.x ++ float_bytes p.y) → s2 ≡ overwritten s1 (at + 16) (float_bytes p.vx ++ float_bytes p.vy) → s3 ≡ overwritten s2 (at + 32) (bytes_of 8 p.flags)
    → at + record_size ≤ length s
    → s3 ≡ overwritten s at (record_bytes p)
unfolding record_bytes
record_put s s1 s2 s3 at p e1 e2 e3 h =
    let place = float_bytes p.x ++ float_bytes p.y in
    let speed = float_bytes p.vx ++ float_bytes p.vy in
    e3
    ∙ ap (λ (l : List ℕ). overwritten l (at + 32) (bytes_of 8 p.flags)) (e2 ∙ ap (λ (l : List ℕ). overwritten l (at + 16) speed) e1 ∙ overwritten-next s at place speed (omega arith))
    ∙ overwritten-next s at (place ++ speed) (bytes_of 8 p.flags) (omega arith)

module _ (stride offset : ℕ) (xs : List Float) where
  pub write_turn : (s : List ℕ) (j : ℕ) → j * 2 + 1 < length xs
      → put_pairs stride s (offset + j * stride) (drop (j * 2) xs)
      ≡ put_pairs stride (overwritten s (offset + j * stride) (float_bytes (get_or xs (j * 2) nan) ++ float_bytes (get_or xs (j * 2 + 1) nan)))
      (offset + (j + 1) * stride) (drop ((j + 1) * 2) xs)
  write_turn s j h = rw (two-off xs (j * 2) nan h, e, f)
    where
      e : (j + 1) * 2 ≡ j * 2 + 2
      e = omega arith

      f : offset + (j + 1) * stride ≡ offset + j * stride + stride
      f = omega arith

  pub write_end : (s : List ℕ) (j : ℕ) → length xs ≤ j * 2 → put_pairs stride s (offset + j * stride) (drop (j * 2) xs) ≡ s
  write_end s j h = rw (drop_of_length-le xs {i = j * 2} h)

-- ---- reading flags

flags_at : (s : List ℕ) (i n : ℕ) → i < n
    → flags_of (records_from s (i * record_size) (n - i)) ≡ word_at s (i * record_size + 32) ∷ flags_of (records_from s ((i + 1) * record_size) (n - (i + 1)))
unfolding record_at
flags_at s i n h = rw (e, f)
  where
    e : n - i ≡ suc (n - (i + 1))
    e = omega arith

    f : (i + 1) * record_size ≡ i * record_size + record_size
    f = omega arith

pub flags_turn : (s out : List ℕ) (i n : ℕ) → i < n → n ≤ length out
    → take (i + 1) (set out i (word_at s (i * record_size + 32))) ++ flags_of (records_from s ((i + 1) * record_size) (n - (i + 1)))
    ≡ take i out ++ flags_of (records_from s (i * record_size) (n - i))
flags_turn s out i n h r = rw (flags_at s i n h) (one_more out i _ _ (omega arith))

pub flags_end : (s out : List ℕ) (i n : ℕ) → n ≤ i → length out ≡ n → take i out ++ flags_of (records_from s (i * record_size) (n - i)) ≡ out
flags_end s out i n h r = rw (e, take_all i out (omega arith)) (append-nil out)
  where
    e : n - i ≡ 0
    e = omega arith

-- ---- the loop over the records: what the first n - i of them from number i on say

check-at : (s : List ℕ) (i n : ℕ) → i < n
    → check_from record_check i (records_from s (i * record_size) (n - i))
    ≡ record_check i (record_at s (i * record_size)) >>= λ _. check_from record_check (i + 1) (records_from s ((i + 1) * record_size) (n - (i + 1)))
check-at s i n h = rw (e, f)
  where
    e : n - i ≡ suc (n - (i + 1))
    e = omega arith

    f : (i + 1) * record_size ≡ i * record_size + record_size
    f = omega arith

pub check_bad : (s : List ℕ) (i n : ℕ) {p : Particle} {a : Result (Unit {0}) Refusal} {r : Refusal} → i < n → p ≡ record_at s (i * record_size) → a ≡ result_of (record_check i p) → a ≡ Err r
    → Err r ≡ result_of (check_from record_check i (records_from s (i * record_size) (n - i)))
check_bad s i n h same answered e = sym (rw (check-at s i n h) (err_stays (record_check i (record_at s (i * record_size))) _ _ (ap (λ (q : Particle). result_of (record_check i q)) (sym same) ∙ sym answered ∙ e)))

pub check_on : (s : List ℕ) (i n : ℕ) {p : Particle} {a : Result (Unit {0}) Refusal} {t : Unit {0}} → i < n → p ≡ record_at s (i * record_size) → a ≡ result_of (record_check i p) → a ≡ Ok t
    → check_from record_check (i + 1) (records_from s ((i + 1) * record_size) (n - (i + 1))) ≡ check_from record_check i (records_from s (i * record_size) (n - i))
check_on s i n h same answered e = sym (check-at s i n h ∙ ok_goes_on (record_check i (record_at s (i * record_size))) _ _ (ap (λ (q : Particle). result_of (record_check i q)) (sym same) ∙ sym answered ∙ e))

pub check_none : (s : List ℕ) (i n : ℕ) → n ≤ i → check_from record_check i (records_from s (i * record_size) (n - i)) ≡ fine
check_none s i n h = rw e
  where
    e : n - i ≡ 0
    e = omega arith
