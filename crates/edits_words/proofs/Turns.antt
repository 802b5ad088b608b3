-- What an edit that is taken off the words adds to the insertions and to their points, by its kind, and how one of a known kind is passed.
use mathlib.Core.Path.{◌≡◌, refl, sym, ◌∙◌}
use mathlib.Core.List.{List, [], ◌∷◌, ◌++◌}
use Prim.Native.Nat.{ℕ, zero, suc, ◌+◌}
use native.Mathlib.Omega.{arith}
use lib.ListN.{length, get_or}
use lib.Dec.{leb}
use borrow.Author.Tests.{lt-leb}
use Rattle.std.proofs.Common.{Result, Ok}
use Rattle.rules.specs.declared.Refusal.{Refusal}
use Rattle.rules.specs.Outcome.{require, result_of, check_from, ◌>>=◌}
use Rattle.rules.proofs.OutcomeLaws.{ok_goes_on}
use Rattle.rules.specs.Number.{float_of}
use Rattle.rules.specs.Edits.{Edit, edit_of, edits_of, points_of, insertions, known, edit_words}

-- an edit by its kind
adds_point : (kind x y : ℕ) (es : List Edit) → kind ≡ 0 → points_of (edit_of kind x y ∷ es) ≡ float_of x ∷ float_of y ∷ points_of es
adds_point zero x y es h = refl
adds_point (suc k) x y es h = absurd (omega arith)

adds_one : (kind x y : ℕ) (es : List Edit) → kind ≡ 0 → insertions (edit_of kind x y ∷ es) ≡ insertions es + 1
adds_one zero x y es h = omega arith
adds_one (suc k) x y es h = absurd (omega arith)

adds_nothing : (kind x y : ℕ) (es : List Edit) → (kind ≡ 0 → ⊥) → (points_of (edit_of kind x y ∷ es) ≡ points_of es) × (insertions (edit_of kind x y ∷ es) ≡ insertions es)
adds_nothing zero x y es h = absurd (h refl)
adds_nothing (suc zero) x y es h = (refl, refl)
adds_nothing (suc (suc k)) x y es h = (refl, refl)

-- the edit's words, and the words that are left
pub inserted : (edit left : List ℕ) → length edit ≡ edit_words → get_or edit 0 0 ≡ 0
    → (points_of (edits_of (edit ++ left)) ≡ float_of (get_or edit 1 0) ∷ float_of (get_or edit 2 0) ∷ points_of (edits_of left))
    × (insertions (edits_of (edit ++ left)) ≡ insertions (edits_of left) + 1)
inserted [] left n h = absurd (omega arith)
inserted (a ∷ []) left n h = absurd (omega arith)
inserted (a ∷ b ∷ []) left n h = absurd (omega arith)
inserted (a ∷ b ∷ c ∷ []) left n h = (adds_point a b c (edits_of left) h, adds_one a b c (edits_of left) h)
inserted (a ∷ b ∷ c ∷ d ∷ l) left n h = absurd (omega arith)

pub passed_over : (edit left : List ℕ) → length edit ≡ edit_words → (get_or edit 0 0 ≡ 0 → ⊥)
    → (points_of (edits_of (edit ++ left)) ≡ points_of (edits_of left)) × (insertions (edits_of (edit ++ left)) ≡ insertions (edits_of left))
passed_over [] left n h = absurd (omega arith)
passed_over (a ∷ []) left n h = absurd (omega arith)
passed_over (a ∷ b ∷ []) left n h = absurd (omega arith)
passed_over (a ∷ b ∷ c ∷ []) left n h = adds_nothing a b c (edits_of left) h
passed_over (a ∷ b ∷ c ∷ d ∷ l) left n h = absurd (omega arith)

-- an edit of a known kind is passed
known_words : (edit left : List ℕ) (k : ℕ) → length edit ≡ edit_words
    → check_from (λ k e. require (known e) 5 k) k (edits_of (edit ++ left)) ≡ require (leb (get_or edit 0 0) 1) 5 k >>= λ _. check_from (λ k e. require (known e) 5 k) (k + 1) (edits_of left)
known_words [] left k n = absurd (omega arith)
known_words (a ∷ []) left k n = absurd (omega arith)
known_words (a ∷ b ∷ []) left k n = absurd (omega arith)
known_words (zero ∷ b ∷ c ∷ []) left k n = refl
known_words (suc zero ∷ b ∷ c ∷ []) left k n = refl
known_words (suc (suc a) ∷ b ∷ c ∷ []) left k n = rw (lt-leb (suc (suc a)) 1 (omega arith))
known_words (a ∷ b ∷ c ∷ d ∷ l) left k n = absurd (omega arith)

pub known_on : (rest edit left : List ℕ) (k : ℕ) {r : Result (Unit {0}) Refusal} {t : Unit {0}} → rest ≡ edit ++ left → length edit ≡ edit_words
    → r ≡ result_of (require (leb (get_or edit 0 0) 1) 5 k) → r ≡ Ok t
    → check_from (λ k e. require (known e) 5 k) (k + 1) (edits_of left) ≡ check_from (λ k e. require (known e) 5 k) k (edits_of rest)
known_on rest edit left k {r} {t} e n is ok =
    rw (e, known_words edit left k n) (sym (ok_goes_on (require (leb (get_or edit 0 0) 1) 5 k) (λ _. check_from (λ k e. require (known e) 5 k) (k + 1) (edits_of left)) t (sym is ∙ ok)))
