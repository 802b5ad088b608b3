-- How the call ends: what has passed its checks, which refusal is answered, and what is then written.
use mathlib.Core.Path.{◌≡◌, refl, ◌∙◌}
use mathlib.Core.Bool.{Bool, true, false, ◌&&◌}
use mathlib.Core.List.{List, [], ◌∷◌}
use Prim.Native.Nat.{ℕ, ◌+◌, ◌≤◌}
use borrow.Author.Tests.{leb-true}
use lib.Dec.{leb}
use lib.IntN.{ℤ}
use lib.ListN.{length}
use Rattle.rules.specs.declared.Refusal.{Refusal}
use Rattle.rules.specs.Plain.{all, overwritten}
use Rattle.std.specs.Prelude.{Result, Err}
use Rattle.rules.specs.Outcome.{Check, done, refused, fine, require, require_all, ◌then◌, ◌>>=◌, check_from, no_refusal, refusal_in, result_of, if_done}
use Rattle.rules.specs.Refusal.{most_corners, count_check, lengths_check}
use Rattle.rules.specs.Outline.{longitude_range, outline, closes, outline_check, OutlineInput, outline_result, outline_answer, unwrapped_after}
use Rattle.list_checks.proofs.Checks.{then_both, require_true}
use Rattle.outline.specs.Unwrap.{Unwrapped, Ended, LaidClosed, Sound}

-- ---- what has passed

-- what is asked of each element holds of all
all_right : {A : Type 0} (ok : A → Bool) (number i : ℕ) (l : List A) → check_from (λ i a. require (ok a) number i) i l ≡ fine → all ok l ≡ true
all_right ok number i [] h = refl
all_right ok number i (a ∷ l) h = go (ok a) (all_right ok number (i + 1) l) h
  where
    go : (b : Bool) → (check_from (λ i a. require (ok a) number i) (i + 1) l ≡ fine → all ok l ≡ true) → (require b number i >>= λ _. check_from (λ i a. require (ok a) number i) (i + 1) l) ≡ fine → b && all ok l ≡ true
    go true rest k = rest k
    go false rest k = cc

pub sound : (l : List ℤ) (c : ℤ) (room : ℕ) → outline_check l c room ≡ fine → Sound l c × (length l ≤ room)
unfolding outline_check
sound l c room h =
    let count = count_check most_corners (length l) in
    let lengths = lengths_check (leb (length l) room) in
    let a = then_both (count then lengths then require_all longitude_range 5 l) (require (longitude_range c) 5 0) h in
    let b = then_both (count then lengths) (require_all longitude_range 5 l) a.0 in
    let d = then_both count lengths b.0 in (
      record { few = leb-true (length l) most_corners (require_true (leb (length l) most_corners) 1 0 d.0); ranged = all_right longitude_range 5 0 l b.1; centred = require_true (longitude_range c) 5 0 a.1 },
      leb-true (length l) room (require_true (leb (length l) room) 2 0 d.1),
    )

-- ---- the answer

module _ (l : OutlineInput) where
  pub refused_so : (r : Refusal) → outline_check l.corners l.centre (length l.unwrapped) ≡ refused r → Ended l (Err r)
  unfolding outline_result
  refused_so r e = rw e

  pub ended-early : (r : Refusal) → outline_check l.corners l.centre (length l.unwrapped) ≡ refused r → Unwrapped l r l.unwrapped
  unfolding outline_answer outline_result unwrapped_after
  ended-early r e = record { answer = rw e; written = rw e }

  module _ (fits : outline_check l.corners l.centre (length l.unwrapped) ≡ fine) where
    pub unclosed : (r : Refusal) → require (closes l.centre l.corners) 16 0 ≡ refused r → Unwrapped l r l.unwrapped
    unfolding outline_answer outline_result unwrapped_after
    unclosed r e = record { answer = rw (fits, e); written = rw (fits, e) }

    pub closed : (after : List ℤ) → require (closes l.centre l.corners) 16 0 ≡ fine → after ≡ overwritten l.unwrapped 0 (outline l.centre l.corners) → Unwrapped l no_refusal after
    unfolding outline_answer outline_result unwrapped_after
    closed after e w = record { answer = rw (fits, e); written = w ∙ rw (fits, e) }

    module _ {r : Result (Unit {0}) Refusal} {after : List ℤ} (laid : LaidClosed l r after) where
      pub laid_so : Ended l r
      unfolding outline_result
      laid_so = rw fits (laid.0 ∙ go (require (closes l.centre l.corners) 16 0))
        where
          go : (c : Check) → result_of c ≡ result_of (c >>= (λ _. done (outline l.centre l.corners)) >>= λ _. fine)
          go (done t) = refl
          go (refused q) = refl

      pub told : Unwrapped l (refusal_in r) after
      told = go (require (closes l.centre l.corners) 16 0) refl laid.0 laid.1
        where
          go : (c : Check) → require (closes l.centre l.corners) 16 0 ≡ c → r ≡ result_of c → after ≡ if_done c (λ _. overwritten l.unwrapped 0 (outline l.centre l.corners)) l.unwrapped → Unwrapped l (refusal_in r) after
          go (done t) e a w = rw a (closed after e w)
          go (refused q) e a w = rw (a, w) (unclosed q e)
