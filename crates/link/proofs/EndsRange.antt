-- The ends that 3 lets pass: each is a particle. Assumes nothing.
use mathlib.Core.Path.{◌≡◌, refl, sym, ap, subst⁻¹, ◌∙◌}
use mathlib.Core.List.{List}
use mathlib.Core.Bool.{and-eq-true_iff}
use Prim.Native.Nat.{ℕ, zero, suc, ◌+◌, ◌*◌, ◌/◌, ◌%◌, ◌≤◌, ◌<◌}
use native.Mathlib.Numerals.{add-one}
use native.Mathlib.Omega.{arith}
use borrow.Author.Tests.{ltb-true}
use lib.Dec.{ltb}
use lib.ListN.{length, get_or}
use Rattle.rules.specs.Outcome.{Check, fine, require, require_all, check_from}
use Rattle.rules.specs.Link.{Ends}
use Rattle.rules.specs.Force.{ends_of, ends_range}
use Rattle.list_checks.specs.Checks.{ends_at}
use Rattle.list_checks.proofs.Scans.{ends_left, ends-first, ends-left}
use Rattle.list_checks.proofs.Checks.{bind_both, require_true}
use Rattle.link.proofs.Tallies.{ends-length}

pub ends-count : (links : List ℕ) → length (ends_of links) ≡ length links / 2
ends-count links = ends-length links (length links / 2) (omega arith)

module _ (n : ℕ) (links : List ℕ) where
  abbrev end_test : ℕ → Ends → Check
  end_test i e = require (ends_range n e) 3 i

  one_end : (k : ℕ) → k < length links / 2 → check_from end_test k (ends_left links k) ≡ fine
      → (end_test k (ends_at links k) ≡ fine) × (check_from end_test (k + 1) (ends_left links (k + 1)) ≡ fine)
  one_end k h e = bind_both (end_test k (ends_at links k)) (check_from end_test (k + 1) (ends_left links (k + 1))) (rw (ends-left links k h) at e)

  all-ends : require_all (ends_range n) 3 (ends_of links) ≡ fine → (k : ℕ) → k ≤ length links / 2 → check_from end_test k (ends_left links k) ≡ fine
  all-ends e zero h = ap (λ (l : List Ends). check_from end_test 0 l) (sym (ends-first links)) ∙ e
  all-ends e (suc k) h = rw (← add-one k) (one_end k (omega arith) (all-ends e k (omega arith))).1

  -- both ends of a link
  in_range : require_all (ends_range n) 3 (ends_of links) ≡ fine → (k : ℕ) → k < length links / 2
      → (get_or links (k * 2) 0 < n) × (get_or links (k * 2 + 1) 0 < n)
  in_range e k h =
      let b = (and-eq-true_iff (ltb (get_or links (k * 2) 0) n) (ltb (get_or links (k * 2 + 1) 0) n)).0 (require_true (ends_range n (ends_at links k)) 3 k (one_end k h (all-ends e k (omega arith))).0) in
      (ltb-true (get_or links (k * 2) 0) n b.0, ltb-true (get_or links (k * 2 + 1) 0) n b.1)

  -- every end
  pub ends_range_lem : require_all (ends_range n) 3 (ends_of links) ≡ fine → length links % 2 ≡ 0 → (j : ℕ) → j < length links → get_or links j 0 < n
  ends_range_lem e w j h = go (j % 2) refl
    where
      b : (get_or links (j / 2 * 2) 0 < n) × (get_or links (j / 2 * 2 + 1) 0 < n)
      b = in_range e (j / 2) (omega arith)

      go : (r : ℕ) → j % 2 ≡ r → get_or links j 0 < n
      go zero f = let q : j ≡ j / 2 * 2 = omega arith in subst⁻¹ (λ (i : ℕ). get_or links i 0 < n) q b.0
      go (suc r) f = let q : j ≡ j / 2 * 2 + 1 = omega arith in subst⁻¹ (λ (i : ℕ). get_or links i 0 < n) q b.1
