-- Scans for the first that refuses: what is left to look at from a number on.
use mathlib.Core.Path.{◌≡◌, refl, sym, ap, ◌∙◌}
use mathlib.Core.Bool.{Bool, true, false, ◌&&◌, not}
use mathlib.Core.List.{List, [], ◌∷◌}
use Prim.Native.Nat.{ℕ, suc, ◌+◌, ◌-◌, ◌*◌, ◌/◌, ◌≤◌, ◌<◌}
use native.Mathlib.Nat.{sub-zero}
use native.Mathlib.Numerals.{add-one}
use native.Mathlib.Omega.{arith}
use lib.ListN.{length, get_or, drop}
use lib.Seq.{drop-cons}
use Rattle.std.proofs.Common.{Result, Ok, Err, nat_eq}
use Rattle.std.proofs.Math.Dec.{eqb-suc-suc, eqb-zero-suc}
use Rattle.rules.specs.declared.Refusal.{Refusal}
use Rattle.std.specs.List.{list_all, prefix_len}
use Rattle.rules.specs.Plain.{all, count_from}
use Rattle.rules.specs.Outcome.{done, refused, refusal, Check, fine, require, require_all, refusal_of, result_of, check_from}
use Rattle.rules.proofs.RefusalLaws.{Refuses}
use Rattle.rules.proofs.RefusalNumbers.{Early}
use Rattle.rules.proofs.Places.{early_numbered}
use borrow.Author.Tests.{not-true, not-false}
use Rattle.rules.specs.Link.{Ends}
use Rattle.rules.specs.Force.{ends_from, ends_of}
use Rattle.rules.proofs.OutcomeLaws.{err_stays, ok_goes_on}
use Rattle.list_checks.specs.Checks.{ends_at}
use Rattle.sheet.proofs.PairLists.{pair-off}

-- ---- a scan, `left i` being what is left from number i on, and `answer` what was answered for number i

module _ {A : Type 0} (f : ℕ → A → Check) (left : ℕ → List A) (i : ℕ) (a : A) (e : left i ≡ a ∷ left (i + 1)) {answer : Result (Unit {0}) Refusal} (is : answer ≡ result_of (f i a)) where
  -- an Err ends it
  pub scan_ends : {r : Refusal} → answer ≡ Err r → Err r ≡ result_of (check_from f i (left i))
  scan_ends {r} h = sym (rw e (err_stays (f i a) (λ _. check_from f (i + 1) (left (i + 1))) r (sym is ∙ h)))

  -- after an Ok it goes on with the next
  pub scan_goes_on : {t : Unit {0}} → answer ≡ Ok t → check_from f (i + 1) (left (i + 1)) ≡ check_from f i (left i)
  scan_goes_on {t} h = sym (rw e (ok_goes_on (f i a) (λ _. check_from f (i + 1) (left (i + 1))) t (sym is ∙ h)))

-- ---- one check and the refusal that was answered for it

-- number 0 is a check that is fine
pub passes : (c : Check) → Refuses Early c → (refusal_of c).number ≡ 0 → c ≡ fine
passes (done t) h e = refl
passes (refused r) h e = absurd (early_numbered r (h.by r refl) e)

-- any other is a check that refuses
pub stops : (c : Check) → ((refusal_of c).number ≡ 0 → ⊥) → c ≡ refused (refusal_of c)
stops (done t) h = absurd (h refl)
stops (refused r) h = refl

-- ---- a scan whose answers are refusals, with number 0 for none

module _ {A : Type 0} (f : ℕ → A → Check) (left : ℕ → List A) (i : ℕ) (a : A) (e : left i ≡ a ∷ left (i + 1)) where
  scan_stop : (r : Refusal) → f i a ≡ refused r → r ≡ refusal_of (check_from f i (left i))
  scan_stop r h = rw (e, h)

  scan_on : f i a ≡ fine → check_from f i (left i) ≡ check_from f (i + 1) (left (i + 1))
  scan_on h = rw (e, h)

  -- the same where r was answered for number i
  pub answer_stop : (r : Refusal) → r ≡ refusal_of (f i a) → (r.number ≡ 0 → ⊥) → r ≡ refusal_of (check_from f i (left i))
  answer_stop r is h = is ∙ scan_stop (refusal_of (f i a)) (stops (f i a) (λ z. h (ap (λ (r : Refusal). r.number) is ∙ z)))

  pub answer_on : (r : Refusal) → r ≡ refusal_of (f i a) → Refuses Early (f i a) → r.number ≡ 0 → check_from f i (left i) ≡ check_from f (i + 1) (left (i + 1))
  answer_on r is early z = scan_on (passes (f i a) early (sym (ap (λ (r : Refusal). r.number) is) ∙ z))

-- the same where the code tests ok, and b is what it found
module _ {A : Type 0} (ok : A → Bool) (number : ℕ) (left : ℕ → List A) (i : ℕ) (a : A) (e : left i ≡ a ∷ left (i + 1)) (b : Bool) (is : b ≡ ok a) where
  pub test_stop : not b ≡ true → refusal number i ≡ refusal_of (check_from (λ i a. require (ok a) number i) i (left i))
  test_stop h = scan_stop (λ i a. require (ok a) number i) left i a e (refusal number i) (rw (← is, not-true b h))

  pub test_on : not b ≡ false → check_from (λ i a. require (ok a) number i) i (left i) ≡ check_from (λ i a. require (ok a) number i) (i + 1) (left (i + 1))
  test_on h = scan_on (λ i a. require (ok a) number i) left i a e (rw (← is, not-false b h))

-- ---- what is left: of a list, of numbers, of links

pub list_left : {A : Type 0} (l : List A) (i : ℕ) (d : A) → i < length l → drop i l ≡ get_or l i d ∷ drop (i + 1) l
list_left l i d h = rw (add-one i) (drop-cons l i d h)

pub count_left : (n i : ℕ) → i < n → count_from i (n - i) ≡ i ∷ count_from (i + 1) (n - (i + 1))
count_left n i h = rw e
  where
    e : n - i ≡ suc (n - (i + 1))
    e = omega arith

pub count_none : (n i : ℕ) → n ≤ i → count_from i (n - i) ≡ []
count_none n i h = rw e
  where
    e : n - i ≡ 0
    e = omega arith

-- the links from number k on
abbrev pub ends_left : List ℕ → ℕ → List Ends
ends_left links k = ends_from (drop (k * 2) links) (length links / 2 - k)

pub ends-left : (links : List ℕ) (k : ℕ) → k < length links / 2 → ends_left links k ≡ ends_at links k ∷ ends_left links (k + 1)
ends-left links k h = rw (e, pair-off links k 0 h)
  where
    e : length links / 2 - k ≡ suc (length links / 2 - (k + 1))
    e = omega arith

pub ends-first : (links : List ℕ) → ends_of links ≡ ends_left links 0
ends-first links = rw sub-zero

-- nothing is left
pub ends-none : (links : List ℕ) (k : ℕ) → length links / 2 ≤ k → ends_left links k ≡ []
ends-none links k h = rw e
  where
    e : length links / 2 - k ≡ 0
    e = omega arith

-- ---- a test of every element, as the library says it and as the rules do

pub all_listed : {A : Type 0} (ok : A → Bool) (l : List A) → list_all ok l ≡ all ok l
all_listed ok [] = refl
all_listed ok (a ∷ l) = ap (λ (b : Bool). ok a && b) (all_listed ok l)

-- ---- how many elements pass a test, before the first that fails

-- all of them do, or the check of all refuses at the one after
prefix_from : {A : Type 0} (ok : A → Bool) (number i : ℕ) (l : List A) → check_from (λ i a. require (ok a) number i) i l ≡ require (nat_eq (prefix_len ok l) (length l)) number (i + prefix_len ok l)
prefix_from ok number i [] = refl
prefix_from ok number i (a ∷ l) = here (ok a) refl (prefix_from ok number (i + 1) l)
  where
    here : (b : Bool) → ok a ≡ b → check_from (λ i a. require (ok a) number i) (i + 1) l ≡ require (nat_eq (prefix_len ok l) (length l)) number (i + 1 + prefix_len ok l) → check_from (λ i a. require (ok a) number i) i (a ∷ l) ≡ require (nat_eq (prefix_len ok (a ∷ l)) (length (a ∷ l))) number (i + prefix_len ok (a ∷ l))
    here true e rest =
        let one : 1 + prefix_len ok l ≡ suc (prefix_len ok l) = omega arith in
        let place : i + suc (prefix_len ok l) ≡ i + 1 + prefix_len ok l = omega arith in
        rw (e, one, eqb-suc-suc (prefix_len ok l) (length l), place) rest
    here false e rest =
        let place : i + 0 ≡ i = omega arith in
        rw (e, eqb-zero-suc (length l), place)

pub prefix_decides : {A : Type 0} (ok : A → Bool) (number : ℕ) (l : List A) → require_all ok number l ≡ require (nat_eq (prefix_len ok l) (length l)) number (prefix_len ok l)
prefix_decides ok number l = prefix_from ok number 0 l ∙ ap (require (nat_eq (prefix_len ok l) (length l)) number) (omega arith)
