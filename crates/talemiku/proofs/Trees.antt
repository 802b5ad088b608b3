-- The tree call's outcome, taken apart: what it is that it accepts, and what it refuses. Assumes nothing.
use mathlib.Core.Path.{◌≡◌, refl, sym, ap, ◌∙◌}
use mathlib.Core.Bool.{and-eq-true_iff}
use mathlib.Core.List.{List, append-nil}
use Prim.Native.Nat.{ℕ, ◌+◌, ◌-◌, ◌*◌, ◌≤◌}
use native.Mathlib.Omega.{arith}
use borrow.Author.Tests.{eqb-true}
use lib.Dec.{eqb}
use lib.ListN.{length}
use Rattle.rules.specs.declared.Extent.{Extent}
use Rattle.rules.specs.declared.Refusal.{Refusal}
use Rattle.rules.specs.declared.TreeAnswer.{TreeAnswer}
use Rattle.rules.specs.Plain.{padded, up_to}
use Rattle.rules.specs.Outcome.{done, refused, refusal, Check, ◌then◌, ◌>>=◌, refusal_of, fine}
use Rattle.rules.specs.Refusal.{most_particles, count_check}
use Rattle.rules.specs.Sheet.{whole_records, count_of, particles_of, records_check}
use Rattle.rules.specs.Cover.{cover_first, extent_of}
use Rattle.rules.specs.Tree.{Tree, greatest_level, depth, nodes, tree_check, rows_of, flat, chains_of}
use Rattle.rules.specs.Calls.{slots_of, tree_of_sheet, TreeInput, tree_lengths, input_check, tree_result, tree_answer, rows_after, chains_after}
use Rattle.rules.proofs.RefusalLaws.{done_of}
use Rattle.rules.proofs.Places.{tree_refuses, early_numbered, late_numbered}
use Rattle.rules.proofs.CellCount.{length-up_to}
use Rattle.rules.proofs.CellRule.{chains-length}
use Rattle.list_checks.proofs.Checks.{then_both, require_true}
use Rattle.sheet.proofs.Checked.{places_ranged}
use Rattle.sheet.proofs.Sheets.{particles-count}
use Rattle.tree_cells.proofs.Prefix.{InRange, check-fits}
use Rattle.tree_cells.proofs.WholeTree.{whole-tree, Building, building}
use Rattle.tree_call.specs.Tree.{AfterTree}
use Rattle.talemiku.specs.Told.{places_lent, particles_lent, rule_tree, InputFine}

module _ (l : TreeInput) where
  -- ---- an input that is fine

  pub record Fine : Type 0 where
    pub ranged : InRange (places_lent l) (particles_lent l)
    pub chains : length l.chains ≡ particles_lent l

  pub input_fine : InputFine l → Fine
  input_fine h =
      let lengths = tree_lengths l in
      let a = then_both (whole_records l.sheet then count_check most_particles (count_of l.sheet) then lengths) (records_check (particles_of l.sheet)) h in
      let b = then_both (whole_records l.sheet then count_check most_particles (count_of l.sheet)) lengths a.0 in
      let c = (and-eq-true_iff (eqb (length l.rows) (slots_of l.work * 4)) (eqb (length l.chains) (count_of l.sheet))).0 (require_true _ 2 0 b.1) in
      record {
        ranged = λ i k. places_ranged (particles_of l.sheet) a.1 i (omega (arith, particles-count l.sheet));
        chains = eqb-true (length l.chains) (count_of l.sheet) c.1;
      }

  -- ---- what is accepted

  pub record Accepted : Type 0 where
    pub result : tree_result most_particles l ≡ done (rule_tree l)
    pub input : InputFine l
    pub fits : (depth (rule_tree l) ≤ greatest_level + 1) × (nodes (rule_tree l) ≤ slots_of l.work)

  tree_done : (t : Tree Extent) → tree_result most_particles l ≡ done t → Accepted
  unfolding tree_result tree_of_sheet
  tree_done t e = go (input_check most_particles (tree_lengths l) l.sheet) (tree_check (places_lent l) (particles_lent l) (slots_of l.work)) refl refl e
    where
      go : (a b : Check) → input_check most_particles (tree_lengths l) l.sheet ≡ a → tree_check (places_lent l) (particles_lent l) (slots_of l.work) ≡ b
          → (a >>= λ _. b >>= λ _. done (rule_tree l)) ≡ done t → Accepted
      go (done u) (done v) p q e = record { result = rw (p, q); input = p; fits = check-fits (places_lent l) (particles_lent l) (slots_of l.work) q }
      go (done u) (refused r) p q e = absurd (let z : ◌≡◌ {A = ℕ} 0 1 = cc in omega arith)
      go (refused r) b p q e = absurd (let z : ◌≡◌ {A = ℕ} 0 1 = cc in omega arith)

  chains-whole : Accepted → padded (length l.chains) 0 (chains_of (rule_tree l)) ≡ chains_of (rule_tree l)
  chains-whole a =
      let k : length (chains_of (rule_tree l)) ≡ particles_lent l =
      chains-length (places_lent l) (rule_tree l) (extent_of (cover_first (places_lent l) (particles_lent l))) (up_to (particles_lent l)) (whole-tree (places_lent l) (particles_lent l) a.fits.0) ∙ length-up_to (particles_lent l) in
      let z : length l.chains - length (chains_of (rule_tree l)) ≡ 0 = omega (arith, (input_fine a.input).chains) in
      rw z (append-nil (chains_of (rule_tree l)))

  -- ---- what is refused

  -- a check of the input, and that alone
  pub input_refused : (q : Refusal) → input_check most_particles (tree_lengths l) l.sheet ≡ refused q → tree_result most_particles l ≡ refused q
  unfolding tree_result tree_of_sheet
  input_refused q e = rw e

  -- once the input is fine, what building refuses
  pub built_refused : InputFine l → (q : Refusal) → tree_check (places_lent l) (particles_lent l) (slots_of l.work) ≡ refused q → tree_result most_particles l ≡ refused q
  unfolding tree_result tree_of_sheet
  built_refused h q e = rw (h, e)

  pub built-fine : InputFine l → tree_check (places_lent l) (particles_lent l) (slots_of l.work) ≡ fine → tree_result most_particles l ≡ done (rule_tree l)
  unfolding tree_result tree_of_sheet
  built-fine h e = rw (h, e)

-- ---- the call

module _ {l : TreeInput} {r : TreeAnswer} {rows chains work : List ℕ} (a : AfterTree l (tree_result most_particles l) r rows chains work) where
  pub refusal_is : r.refusal ≡ refusal_of (tree_result most_particles l)
  unfolding tree_answer
  refusal_is = ap (λ (r : TreeAnswer). r.refusal) a.answer

  -- past the checks of its input: as building says
  pub builds : InputFine l → Building (places_lent l) (particles_lent l) (slots_of l.work) r.refusal
  builds h =
      building (places_lent l) (particles_lent l) (slots_of l.work) (input_fine l h).ranged r.refusal (λ q e. refusal_is ∙ ap refusal_of (built_refused l h q e))
      (λ e. rw (refusal_is, built-fine l h e) (omega arith))

  -- answered 0
  pub accepts : r.refusal.number ≡ 0 → Accepted l
  accepts z = let (t, e) = done_of (tree_result most_particles l) (tree_refuses early_numbered late_numbered most_particles l) (ap (λ (q : Refusal). q.number) (sym refusal_is) ∙ z) in tree_done l t e

  module _ (h : Accepted l) where
    pub answer_is : r ≡ record { refusal = refusal 0 0; nodes = nodes (rule_tree l); extent = extent_of (cover_first (places_lent l) (particles_lent l)) }
    unfolding tree_answer
    answer_is = a.answer ∙ rw h.result

    pub rows_are : rows ≡ padded (length l.rows) 0 (flat (rows_of (rule_tree l)))
    unfolding rows_after
    rows_are = a.listed ∙ rw h.result

    pub chains_are : chains ≡ chains_of (rule_tree l)
    unfolding chains_after
    chains_are = a.chained ∙ rw h.result (chains-whole l h)
