-- What the checks of the tree call let pass, and what the call then comes to.
use mathlib.Core.Path.{◌≡◌, ap}
use mathlib.Core.Bool.{and-eq-true_iff}
use Prim.Native.Nat.{ℕ, ◌*◌, ◌≤◌}
use native.Mathlib.Omega.{arith}
use borrow.Author.Tests.{leb-true, eqb-true}
use lib.Dec.{leb, eqb}
use lib.ListN.{length}
use Rattle.rules.specs.declared.Refusal.{Refusal}
use Rattle.rules.specs.Outcome.{refused, Check, fine, ◌then◌, ◌>>=◌}
use Rattle.rules.specs.Refusal.{most_particles, count_check}
use Rattle.rules.specs.Sheet.{count_of, particles_of, whole_records, records_check}
use Rattle.rules.specs.Tree.{row_numbers}
use Rattle.rules.specs.Calls.{slots_of, input_check, TreeInput, tree_lengths, tree_result, tree_of_sheet}
use Rattle.list_checks.proofs.Checks.{then_both, require_true}
use Rattle.tree_call.specs.Tree.{Passed, built}

module _ (most : ℕ) (l : TreeInput) where
  abbrev checks : Check
  checks = input_check most (tree_lengths l) l.sheet

  pub stops_at : (r : Refusal) → checks ≡ refused r → tree_result most l ≡ refused r
  unfolding tree_result tree_of_sheet
  stops_at r e = ap (λ (c : Check). c >>= λ _. built l) e

  module _ (e : checks ≡ fine) where
    -- the tree is built
    pub goes_on : tree_result most l ≡ built l
    unfolding tree_result tree_of_sheet
    goes_on = ap (λ (c : Check). c >>= λ _. built l) e

    pub passed : most ≤ most_particles → Passed l
    passed m =
        let a = then_both (whole_records l.sheet then count_check most (count_of l.sheet) then tree_lengths l) (records_check (particles_of l.sheet)) e in
        let b = then_both (whole_records l.sheet then count_check most (count_of l.sheet)) (tree_lengths l) a.0 in
        let few = require_true (leb (count_of l.sheet) most) 1 0 (then_both (whole_records l.sheet) (count_check most (count_of l.sheet)) b.0).1 in
        let rows = eqb (length l.rows) (slots_of l.work * row_numbers) in
        let chains = eqb (length l.chains) (count_of l.sheet) in
        let h = (and-eq-true_iff rows chains).0 (require_true _ 2 0 b.1) in
        record { few = omega (arith, leb-true (count_of l.sheet) most few); rows = eqb-true _ _ h.0; chains = eqb-true _ _ h.1; sound = a.1 }
