-- Words of edits: the edits that are left from one on, how many there are, and what the checks of the words say.
use mathlib.Core.Path.{◌≡◌, refl, sym, ap, ◌∙◌}
use mathlib.Core.Bool.{true, false≢true, and-eq-true_iff}
use mathlib.Core.List.{List, [], ◌∷◌}
use Prim.Native.Nat.{ℕ, zero, suc, ◌+◌, ◌*◌, ◌/◌, ◌≤◌, ◌<◌}
use native.Mathlib.Omega.{arith}
use lib.ListN.{length, get_or, drop}
use Rattle.std.proofs.lemmas.List.{drop_more}
use Rattle.rules.specs.Plain.{all}
use Rattle.rules.specs.Number.{within, place_range, x_at, y_at}
use Rattle.rules.specs.Outcome.{fine, require, check_from, check_each}
use Rattle.rules.specs.Refusal.{place_check}
use Rattle.rules.specs.Edits.{Edit, insertion, removal, unknown, edit_of, edits_of, points_of, insertions, point_check, known, edit_words}
use Rattle.rules.proofs.OutcomeLaws.{place_both}
use Rattle.sheet.proofs.Checked.{all_ranged}
use Rattle.list_checks.proofs.Checks.{bind_both, require_true}

-- ---- what is left from edit k on

three-off : (w : List ℕ) (k : ℕ) → k * edit_words + edit_words ≤ length w
    → drop (k * edit_words) w ≡ get_or w (k * edit_words) 0 ∷ get_or w (k * edit_words + 1) 0 ∷ get_or w (k * edit_words + 2) 0 ∷ drop ((k + 1) * edit_words) w
three-off w k h =
    let n = k * edit_words in
    let two : n + 1 + 1 ≡ n + 2 = omega arith in
    let all : n + 2 + 1 ≡ (k + 1) * edit_words = omega arith in
    cc (drop_more w n 0 (omega arith), rw two at (drop_more w (n + 1) 0 (omega arith)), rw all at (drop_more w (n + 2) 0 (omega arith)))

-- edit k, by its three words, and the edits behind it
pub edits-next : (w : List ℕ) (k : ℕ) → k * edit_words + edit_words ≤ length w
    → edits_of (drop (k * edit_words) w) ≡ edit_of (get_or w (k * edit_words) 0) (get_or w (k * edit_words + 1) 0) (get_or w (k * edit_words + 2) 0) ∷ edits_of (drop ((k + 1) * edit_words) w)
edits-next w k h = ap edits_of (three-off w k h)

-- ---- how many there are

pub edits-length : (w : List ℕ) → length (edits_of w) ≡ length w / edit_words
edits-length [] = refl
edits-length (a ∷ []) = refl
edits-length (a ∷ b ∷ []) = refl
edits-length (a ∷ b ∷ c ∷ w) = omega (arith, edits-length w)

pub points-length : (es : List Edit) → length (points_of es) ≡ insertions es * 2
points-length [] = refl
points-length (insertion x y ∷ es) = omega (arith, points-length es)
points-length (removal i ∷ es) = points-length es
points-length (unknown ∷ es) = points-length es

pub insertions-few : (es : List Edit) → insertions es ≤ length es
insertions-few [] = omega arith
insertions-few (insertion x y ∷ es) = omega (arith, insertions-few es)
insertions-few (removal i ∷ es) = omega (arith, insertions-few es)
insertions-few (unknown ∷ es) = omega (arith, insertions-few es)

-- ---- what passes the checks

-- from edit k on
points-within : (k : ℕ) (es : List Edit) → check_from point_check k es ≡ fine → all within (points_of es) ≡ true
points-within k [] h = refl
points-within k (insertion x y ∷ es) h =
    let b = bind_both (place_check k x y) (check_from point_check (k + 1) es) h in
    let r = (and-eq-true_iff (within x) (within y)).0 (require_true (place_range x y) 4 k (sym (place_both k x y) ∙ b.0)) in
    rw (r.0, r.1) (points-within (k + 1) es b.1)
points-within k (removal i ∷ es) h = points-within (k + 1) es h
points-within k (unknown ∷ es) h = points-within (k + 1) es h

-- points that pass are in range
pub points_ranged : (es : List Edit) → check_each point_check es ≡ fine → (i : ℕ) → i < insertions es
    → (within (x_at (points_of es) i) ≡ true) × (within (y_at (points_of es) i) ≡ true)
points_ranged es h i l = all_ranged (points_of es) (points-within 0 es h) i (omega (arith, points-length es))

known-kind : (kind x y : ℕ) → known (edit_of kind x y) ≡ true → kind < 2
known-kind zero x y h = omega arith
known-kind (suc zero) x y h = omega arith
known-kind (suc (suc k)) x y h = absurd (false≢true h)

kinds_from : (i : ℕ) (w : List ℕ) → check_from (λ k e. require (known e) 5 k) i (edits_of w) ≡ fine → (k : ℕ) → k * edit_words + edit_words ≤ length w → get_or w (k * edit_words) 0 < 2
kinds_from i [] h k l = absurd (omega arith)
kinds_from i (a ∷ []) h k l = absurd (omega arith)
kinds_from i (a ∷ b ∷ []) h k l = absurd (omega arith)
kinds_from i (a ∷ b ∷ c ∷ w) h zero l =
    known-kind a b c (require_true (known (edit_of a b c)) 5 i (bind_both (require (known (edit_of a b c)) 5 i) (check_from (λ k e. require (known e) 5 k) (i + 1) (edits_of w)) h).0)
kinds_from i (a ∷ b ∷ c ∷ w) h (suc k) l =
    let e : suc k * edit_words ≡ suc (suc (suc (k * edit_words))) = omega arith in
    rw e (kinds_from (i + 1) w (bind_both (require (known (edit_of a b c)) 5 i) (check_from (λ k e. require (known e) 5 k) (i + 1) (edits_of w)) h).1 k (omega arith))

-- edits that pass are of a known kind
pub kinds_known : (w : List ℕ) → check_each (λ k e. require (known e) 5 k) (edits_of w) ≡ fine → (k : ℕ) → k * edit_words + edit_words ≤ length w → get_or w (k * edit_words) 0 < 2
kinds_known w h = kinds_from 0 w h
