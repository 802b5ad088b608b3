-- The outcome of the call on edits, taken apart: what it is that it accepts, and what it refuses. Assumes nothing.
use mathlib.Core.Path.{◌≡◌, refl, sym, ap, ◌∙◌, subst}
use mathlib.Core.Logic.{◌⊎◌, inl, inr, ⊎_elim}
use mathlib.Core.Bool.{◌&&◌, and-eq-true_iff}
use mathlib.Core.List.{List, []}
use Prim.Native.Nat.{ℕ, ◌*◌, ◌≤◌, ◌<◌}
use native.Mathlib.Omega.{arith}
use native.Mathlib.Decide.{ℕ_discrete}
use borrow.Author.Tests.{eqb-true, eq-eqb, ne_eqb, leb-true}
use lib.Dec.{leb, eqb}
use lib.ListN.{length}
use lib.Seq.{take-length}
use Rattle.rules.specs.declared.Extent.{Extent}
use Rattle.rules.specs.declared.Refusal.{Refusal}
use Rattle.rules.specs.declared.TreeAnswer.{TreeAnswer}
use Rattle.rules.specs.Plain.{padded}
use Rattle.rules.specs.Outcome.{done, refused, refusal, Check, fine, require, ◌then◌, ◌>>=◌, check_each, refusal_of}
use Rattle.rules.specs.Number.{within, x_at, y_at}
use Rattle.rules.specs.Refusal.{most_edits, count_check, lengths_check}
use Rattle.rules.specs.Tree.{Tree, nodes, rows_of, flat, chains_of}
use Rattle.rules.specs.Calls.{slots_of}
use Rattle.rules.specs.Edits.{Edit, edit_words, insertions, present, edits_from, point_check, known, EditsInput, edit_list, edit_lengths, edit_input_check, edits_result, edits_answer, edit_rows_after, edit_chains_after}
use Rattle.rules.specs.Terms.{Ruled, present_at, extent_at, tree_at, CanBeMade, EarliestEdit}
use Rattle.rules.proofs.RefusalLaws.{done_of, weaker}
use Rattle.rules.proofs.Places.{edits-placed, edits_numbered}
use Rattle.list_checks.proofs.Checks.{then_both, require_true}
use Rattle.tree_cells.proofs.Prefix.{InRange}
use Rattle.edits_words.proofs.Words.{points_ranged}
use Rattle.edits_call.specs.Call.{AfterEdits}
use Rattle.talemiku.specs.Told.{points_made, present_last, extent_last, tree_last, EditsFine, edits_made}
use Rattle.talemiku.proofs.EditSteps.{each_makes, makes_each, first_edit, earliest_only, none-unmade, fits-at, ruled-at}

module _ (l : EditsInput) where
  abbrev es : List Edit
  es = edit_list l

  -- ---- an input that is fine

  pub record Fine : Type 0 where
    pub few : length (edit_list l) ≤ most_edits
    pub rows : length l.rows ≡ slots_of l.work * 4
    pub chains : length l.chains ≡ insertions (edit_list l)
    pub points : check_each point_check (edit_list l) ≡ fine
    pub kinds : check_each (λ k e. require (known e) 5 k) (edit_list l) ≡ fine
    pub ranged : InRange (points_made l) (insertions (edit_list l))

  pub input_fine : EditsFine l → Fine
  unfolding edit_input_check
  input_fine h =
      let n = length es in
      let count = count_check most_edits n in
      let lengths = lengths_check (edit_lengths l) in
      let kinds = check_each (λ k e. require (known e) 5 k) es in
      let a = then_both (count then lengths then check_each point_check es) kinds h in
      let b = then_both (count then lengths) (check_each point_check es) a.0 in
      let c = then_both count lengths b.0 in
      let w = eqb (length l.edits) (n * edit_words) in
      let v = eqb (length l.rows) (slots_of l.work * 4) in
      let u = eqb (length l.chains) (insertions es) in
      let d = (and-eq-true_iff (w && v) u).0 (require_true (w && v && u) 2 0 c.1) in
      let e = (and-eq-true_iff w v).0 d.0 in
      record {
        few = leb-true n most_edits (require_true (leb n most_edits) 1 0 c.0);
        rows = eqb-true (length l.rows) (slots_of l.work * 4) e.1;
        chains = eqb-true (length l.chains) (insertions es) d.1;
        points = b.1;
        kinds = a.1;
        ranged = λ i k. let p = points_ranged es b.1 i k in (and-eq-true_iff (within (x_at (points_made l) i)) (within (y_at (points_made l) i))).1 p;
      }

  -- ---- what is accepted

  pub record Accepted : Type 0 where
    pub result : edits_result l ≡ done (tree_last l)
    pub input : EditsFine l
    pub each : (k : ℕ) → k < length (edit_list l) → CanBeMade (edit_list l) (slots_of l.work) k

  abbrev made : Check
  made = edits_from (points_made l) (slots_of l.work) 0 (present 0 []) es

  edits_done : (t : Tree Extent) → edits_result l ≡ done t → Accepted
  unfolding edits_result
  edits_done t e = go (edit_input_check l) made refl refl e
    where
      go : (a b : Check) → edit_input_check l ≡ a → made ≡ b → (a >>= λ _. b >>= λ _. done (tree_last l)) ≡ done t → Accepted
      go (done u) (done v) p q e = record { result = rw (p, q); input = p; each = each_makes es (slots_of l.work) q }
      go (done u) (refused r) p q e = absurd (let z : ◌≡◌ {A = ℕ} 0 1 = cc in omega arith)
      go (refused r) b p q e = absurd (let z : ◌≡◌ {A = ℕ} 0 1 = cc in omega arith)

  pub edits-fine : EditsFine l → ((k : ℕ) → k < length es → CanBeMade es (slots_of l.work) k) → edits_result l ≡ done (tree_last l)
  unfolding edits_result
  edits-fine h m = rw (h, makes_each es (slots_of l.work) m)

  -- ---- what is refused

  pub input_refused : (q : Refusal) → edit_input_check l ≡ refused q → edits_result l ≡ refused q
  unfolding edits_result
  input_refused q e = rw e

  -- past the checks: all is made, or the first that can't be
  edits_end : EditsFine l → ((q : Refusal) × (edits_result l ≡ refused q) × EarliestEdit es (slots_of l.work) q) ⊎ Accepted
  unfolding edits_result
  edits_end h = go made refl
    where
      go : (c : Check) → made ≡ c → ((q : Refusal) × ((edit_input_check l >>= λ _. made >>= λ _. done (tree_last l)) ≡ refused q) × EarliestEdit es (slots_of l.work) q) ⊎ Accepted
      go (done t) e = inr (record { result = rw (h, e); input = h; each = each_makes es (slots_of l.work) e })
      go (refused q) e = inl (q, rw (h, e), first_edit es (slots_of l.work) q e)

  -- ---- the tree after edits that can be made

  pub ruled_each : EditsFine l → (n : ℕ) → ((k : ℕ) → k < n → CanBeMade es (slots_of l.work) k) → (k : ℕ) → k ≤ n → Ruled (points_made l) (extent_at es k) (tree_at es k) (present_at es k).left (slots_of l.work)
  ruled_each h n made k m = ruled-at es (slots_of l.work) (input_fine h).ranged k (fits-at es (slots_of l.work) n made k m)

  pub ruled_last : Accepted → Ruled (points_made l) (extent_last l) (tree_last l) (present_last l).left (slots_of l.work)
  ruled_last ok = rw (take-length es) at (ruled_each ok.input (length es) ok.each (length es) (omega arith))

module _ {l : EditsInput} {r : TreeAnswer} {rows chains work : List ℕ} (a : AfterEdits l r rows chains work) where
  pub refusal_is : r.refusal ≡ refusal_of (edits_result l)
  unfolding edits_answer
  refusal_is = ap (λ (r : TreeAnswer). r.refusal) a.answer

  -- answered 0
  pub accepts : r.refusal.number ≡ 0 → Accepted l
  accepts z =
      let (t, e) = done_of (edits_result l) (weaker (edits_numbered (length (edit_list l))) (edits-placed l)) (ap (λ (q : Refusal). q.number) (sym refusal_is) ∙ z) in
      edits_done l t e

  module _ (h : Accepted l) where
    pub answer_is : r ≡ record { refusal = refusal 0 0; nodes = nodes (tree_last l); extent = extent_last l }
    unfolding edits_answer
    answer_is = a.answer ∙ rw h.result

    pub rows_are : rows ≡ padded (length l.rows) 0 (flat (rows_of (tree_last l)))
    unfolding edit_rows_after
    rows_are = a.listed ∙ rw h.result

    pub chains_are : chains ≡ padded (length l.chains) 0 (chains_of (tree_last l))
    unfolding edit_chains_after
    chains_are = a.chained ∙ rw h.result

  -- past the checks, and refused
  pub earliest_is : EditsFine l → (r.refusal.number ≡ 0 → ⊥) → EarliestEdit (edit_list l) (slots_of l.work) r.refusal
  earliest_is h n =
      ⊎_elim (λ (q, e, w). subst (EarliestEdit (edit_list l) (slots_of l.work)) (sym (refusal_is ∙ ap refusal_of e)) w) (λ ok. absurd (n (ap (λ (q : Refusal). q.number) (refusal_is ∙ ap refusal_of ok.result))))
      (edits_end l h)

  -- and by nothing else
  pub earliest_answer : EditsFine l → (q : Refusal) → EarliestEdit (edit_list l) (slots_of l.work) q → r.refusal ≡ q
  earliest_answer h q w =
      elim (ℕ_discrete r.refusal.number 0) [
        | yes z ↦ absurd (none-unmade (edit_list l) (slots_of l.work) q w (accepts z).each)
        | no n ↦ earliest_only (edit_list l) (slots_of l.work) r.refusal q (earliest_is h n) w
      ]

  -- ---- which edits were made

  made_all : r.refusal.number ≡ 0 → edits_made l r ≡ length (edit_list l)
  made_all z = rw (eq-eqb r.refusal.number 0 z)

  made_some : (r.refusal.number ≡ 0 → ⊥) → edits_made l r ≡ r.refusal.place
  made_some n = rw (ne_eqb r.refusal.number 0 n)

  pub made_few : EditsFine l → edits_made l r ≤ length (edit_list l)
  made_few h = elim (ℕ_discrete r.refusal.number 0) [ yes z ↦ omega (arith, made_all z) | no n ↦ omega (arith, made_some n, (earliest_is h n).among) ]

  pub made_each : EditsFine l → (k : ℕ) → k < edits_made l r → CanBeMade (edit_list l) (slots_of l.work) k
  made_each h k m = elim (ℕ_discrete r.refusal.number 0) [ yes z ↦ (accepts z).each k (omega (arith, made_all z)) | no n ↦ (earliest_is h n).before k (omega (arith, made_some n)) ]
