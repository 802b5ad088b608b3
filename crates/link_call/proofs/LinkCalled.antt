-- Link called alone: what its checks let pass, and how they are answered.
use mathlib.Core.Path.{◌≡◌, ◌∙◌}
use mathlib.Core.Bool.{and-eq-true_iff}
use mathlib.Core.List.{List}
use Prim.Native.Nat.{ℕ, ◌/◌, ◌%◌}
use native.Mathlib.Omega.{arith}
use borrow.Author.Tests.{eqb-true, leb-true}
use lib.Dec.{eqb}
use lib.ListN.{length}
use lib.Ieee.{Float}
use Rattle.rules.specs.Refusal.{most_links, most_iterations, count_check}
use Rattle.rules.specs.Force.{link, ends_of, strengths_agree}
use Rattle.rules.specs.Calls.{ForceInput, count}
use Rattle.link.specs.Links.{EndsLent, NumbersLent}
use Rattle.link.proofs.EndsRange.{ends-count, ends_range_lem}
use Rattle.force_call.proofs.Called.{Lent}
use Rattle.list_checks.proofs.Checks.{then_both, require_true, as_many}

-- ---- what 1, 2 and 3 let pass

module _ (l : ForceInput) (links : List ℕ) (ss ds : List Float) (iterations : ℕ) (h : Lent l (link (ends_of links) ss ds iterations) (eqb (length links % 2) 0)) where
  whole-ends : length links % 2 ≡ 0
  whole-ends = eqb-true (length links % 2) 0 h.whole

  pub ends-lent : EndsLent (count l) links
  ends-lent =
      record {
        whole = whole-ends;
        few =
            let c = then_both (count_check most_links (length (ends_of links))) (count_check most_iterations iterations) h.counts in
            omega (arith, leb-true (length (ends_of links)) most_links (require_true _ 1 0 c.0), ends-count links, whole-ends);
        range = ends_range_lem (count l) links h.ends whole-ends;
      }

  pub lists-lent : NumbersLent links ss ds
  lists-lent =
      let b = (and-eq-true_iff (eqb (length ds) (length (ends_of links))) (strengths_agree (length (ends_of links)) (length ss))).0 h.lengths in
      record {
        strength_each = λ some. as_many (length ss) (length (ends_of links)) some b.1 ∙ ends-count links;
        distance_each = eqb-true (length ds) (length (ends_of links)) b.0 ∙ ends-count links;
      }

-- ---- how many there are

pub ends_counted : (links : List ℕ) → length (ends_of links) ≡ length links / 2
ends_counted links = ends-count links
