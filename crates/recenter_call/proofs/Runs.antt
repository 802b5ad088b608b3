-- Recentering from what a step answers: its refusal and its sheet. Assumes nothing.
use mathlib.Core.Path.{◌≡◌, refl, sym, ap, ◌∙◌}
use mathlib.Core.Bool.{Bool, true, false, cond, true≢false, false≢true}
use mathlib.Core.List.{List, []}
use Prim.Native.Nat.{ℕ}
use borrow.Author.Tests.{eqb-true, eq-eqb, ne_eqb}
use lib.Dec.{eqb}
use lib.Ieee.{Float, neg, of_bits}
use Rattle.std.specs.Prelude.{Result, Ok, Err}
use Rattle.std.specs.Result.{is_err}
use Rattle.rules.specs.declared.Refusal.{Refusal}
use Rattle.rules.specs.declared.Settings.{Settings}
use Rattle.rules.specs.declared.StepAnswer.{StepAnswer}
use Rattle.rules.specs.Outcome.{Outcome, done, refused, no_refusal, Check, fine, ◌then◌, ◌>>=◌, refusal_of, result_of, outcome_of, if_done}
use Rattle.rules.specs.Number.{1·}
use Rattle.rules.specs.Refusal.{count_check}
use Rattle.rules.specs.Sheet.{whole_records, count_of, sheet_of}
use Rattle.rules.specs.Tick.{TicksDone, step_result, step_answer, sheet_after_step}
use Rattle.rules.specs.Recenter.{most_recentered, one_bits, center_words, recenter_input, recenter_settings, recenter_alpha_min, unless_stopped, recentered}
use Rattle.rules.proofs.RefusalNumbers.{Stop, unrefused, ended}
use Rattle.rules.proofs.Places.{early_numbered, late_numbered, step-early}
use Rattle.tick_checks.specs.Input.{lent_sheet}
use Rattle.step_call.specs.Step.{AfterStep}
use Rattle.recenter_call.specs.Recentered.{check_of, Recentered}

-- ticks that end by number 0 end by no refusal
pub unstopped : (r : Refusal) → Stop r → r.number ≡ 0 → r ≡ no_refusal
unstopped r unrefused z = refl
unstopped r (ended l) z = absurd (late_numbered r l z)

-- ---- the step's own input

-- a step with Center's words and nothing else lent
lent_is : (sheet words : List ℕ) (reals : List Float) (links work : List ℕ) → (words ≡ center_words) × (reals ≡ []) × (links ≡ []) × (work ≡ [])
    → lent_sheet sheet one_bits words reals links reals work ≡ recenter_input sheet
lent_is sheet words reals links work h = rw (h.0, h.1, h.2, h.3)

-- alpha_min, as the code has it
least-is : neg 1· ≡ recenter_alpha_min
unfolding neg of_bits
least-is = refl

-- what is answered for it, and the sheet that it leaves
pub lent-step : (sheet words : List ℕ) (reals : List Float) (links work : List ℕ) → (words ≡ center_words) × (reals ≡ []) × (links ≡ []) × (work ≡ [])
    → (s : Settings) → s ≡ recenter_settings → (ticks : ℕ) (r : StepAnswer) (sheet' : List ℕ) (alpha' : ℕ) (work' : List ℕ)
    → AfterStep (lent_sheet sheet one_bits words reals links reals work) s (neg 1·) ticks r sheet' alpha' work'
    → (r.refusal ≡ (step_answer (recenter_input sheet) recenter_settings recenter_alpha_min ticks).refusal) × (sheet' ≡ sheet_after_step (recenter_input sheet) recenter_settings recenter_alpha_min ticks)
lent-step sheet words reals links work h s e ticks r sheet' alpha' work' a =
    let i = lent_is sheet words reals links work h in
    (ap (λ (q : StepAnswer). q.refusal) a.answer ∙ rw (i, e, least-is), a.sheet ∙ rw (i, e, least-is))

-- ---- what it comes to

module _ (sheet : List ℕ) (ticks : ℕ) where
  -- what the step comes to
  abbrev pub result : Outcome TicksDone
  result = step_result (recenter_input sheet) recenter_settings recenter_alpha_min ticks

  -- what it answers for it
  abbrev pub answered : Refusal
  answered = (step_answer (recenter_input sheet) recenter_settings recenter_alpha_min ticks).refusal

  -- few enough whole records
  module _ (past : (whole_records sheet then count_check most_recentered (count_of sheet)) ≡ fine) where
    pub recentered-is : recentered sheet ticks ≡ (result >>= unless_stopped)
    unfolding recentered
    recentered-is = ap (λ (c : Check). c >>= λ _. result >>= unless_stopped) past

    of-result : (o : Outcome TicksDone) → result ≡ o → recentered sheet ticks ≡ (o >>= unless_stopped)
    of-result o e = recentered-is ∙ ap (λ (o : Outcome TicksDone). o >>= unless_stopped) e

    -- with a number, refused by the step itself or by a tick: refused so
    refused-by : (r : Refusal) → r ≡ answered → (r.number ≡ 0 → ⊥) → recentered sheet ticks ≡ refused r
    unfolding step_answer
    refused-by r is some = go result refl is
      where
        go : (o : Outcome TicksDone) → result ≡ o → r ≡ if_done o (λ t. t.stop) (refusal_of o) → recentered sheet ticks ≡ refused r
        go (done t) e a =
            of-result (done t) e
            ∙ ap (λ (none : Bool). cond none (done (sheet_of t.last.particles)) (refused t.stop)) (ne_eqb t.stop.number 0 (λ z. some (ap (λ (q : Refusal). q.number) a ∙ z)))
            ∙ ap refused (sym a)
        go (refused q) e a = of-result (refused q) e ∙ ap refused (sym a)

    -- what is answered, by whether that has a number
    by-number : (r : Result (Unit {0}) Refusal) → r ≡ check_of answered → (b : Bool) → eqb answered.number 0 ≡ b → r ≡ cond b (Ok tt) (Err answered)
    by-number r is b e = is ∙ ap (λ (b : Bool). cond b (Ok tt) (Err answered)) e

    -- refused: then what was there is put back
    pub stopped : (r : Result (Unit {0}) Refusal) (after : List ℕ) → r ≡ check_of answered → is_err r ≡ true → after ≡ sheet → Recentered sheet ticks r sheet after
    stopped r after is err back = go (eqb answered.number 0) refl
      where
        go : (b : Bool) → eqb answered.number 0 ≡ b → Recentered sheet ticks r sheet after
        go true e = absurd (false≢true (sym (ap is_err (by-number r is true e)) ∙ err))
        go false e =
            let d = refused-by answered refl (λ z. false≢true (sym e ∙ eq-eqb answered.number 0 z)) in
            record {
              answer = by-number r is false e ∙ sym (ap (λ (o : Outcome (List ℕ)). result_of (o >>= λ _. fine)) d);
              bytes = back ∙ sym (ap (λ (o : Outcome (List ℕ)). if_done o (λ out. out) sheet) d);
            }

    -- not refused: the sheet that the step left
    pub ran : (r : Result (Unit {0}) Refusal) (after : List ℕ) → r ≡ check_of answered → is_err r ≡ false → after ≡ sheet_after_step (recenter_input sheet) recenter_settings recenter_alpha_min ticks → Recentered sheet ticks r sheet after
    unfolding step_answer sheet_after_step
    ran r after is none left = go (eqb answered.number 0) refl
      where
        done_by : r ≡ Ok tt → answered.number ≡ 0 → (o : Outcome TicksDone) → result ≡ o → answered ≡ if_done o (λ t. t.stop) (refusal_of o) → after ≡ if_done o (λ t. sheet_of t.last.particles) sheet → Recentered sheet ticks r sheet after
        done_by ok zero (done t) e a k =
            let z : t.stop.number ≡ 0 = sym (ap (λ (q : Refusal). q.number) a) ∙ zero in
            let d : recentered sheet ticks ≡ done (sheet_of t.last.particles) =
            of-result (done t) e ∙ ap (λ (none : Bool). cond none (done (sheet_of t.last.particles)) (refused t.stop)) (eq-eqb t.stop.number 0 z) in
            record {
              answer = ok ∙ sym (ap (λ (o : Outcome (List ℕ)). result_of (o >>= λ _. fine)) d);
              bytes = k ∙ sym (ap (λ (o : Outcome (List ℕ)). if_done o (λ out. out) sheet) d);
            }
        done_by ok zero (refused q) e a k = absurd (early_numbered q ((step-early (recenter_input sheet) recenter_settings recenter_alpha_min ticks).by q e) (sym (ap (λ (q : Refusal). q.number) a) ∙ zero))

        go : (b : Bool) → eqb answered.number 0 ≡ b → Recentered sheet ticks r sheet after
        go true e = done_by (by-number r is true e) (eqb-true answered.number 0 e) result refl refl left
        go false e = absurd (true≢false (sym (ap is_err (by-number r is false e)) ∙ none))

    -- what was there is put back where it is refused
    pub settled : (r : Result (Unit {0}) Refusal) (left after : List ℕ) → r ≡ check_of answered → left ≡ sheet_after_step (recenter_input sheet) recenter_settings recenter_alpha_min ticks
        → after ≡ if_done (outcome_of r) (λ _. left) sheet → Recentered sheet ticks r sheet after
    settled (Ok t) left after is l e = ran (Ok t) after is refl (e ∙ l)
    settled (Err q) left after is l e = stopped (Err q) after is refl e
