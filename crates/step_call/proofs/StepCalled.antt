-- A step called on a sheet: how it ends where it is refused before it begins, and where its ticks have run.
use mathlib.Core.Path.{◌≡◌, sym, ap, ◌∙◌}
use mathlib.Core.List.{List, [], ◌∷◌, ◌++◌}
use Prim.Native.Nat.{ℕ, ◌*◌, ◌≤◌}
use native.Mathlib.Omega.{arith}
use lib.ListN.{length}
use lib.Ieee.{Float}
use Rattle.rules.specs.declared.Refusal.{Refusal}
use Rattle.rules.specs.declared.Settings.{Settings}
use Rattle.rules.specs.declared.StepAnswer.{StepAnswer}
use Rattle.rules.specs.Outcome.{Check, done, refused, fine, ◌>>=◌, refusal_in}
use Rattle.rules.specs.Number.{float_of}
use Rattle.rules.specs.Refusal.{most_particles, most_ticks, count_check}
use Rattle.rules.specs.Calls.{slots_of}
use Rattle.rules.specs.Tick.{SheetInput, ticks_done, count, entries, forces, forces_from, sheet_check, entry_state, tick_settings, ticks_from, step_result, step_answer, sheet_after_step, alpha_after_step, work_after_step}
use Rattle.rules.proofs.RefusalNumbers.{count-early}
use Rattle.tick_checks.proofs.Whole.{keeps_slots}
use Rattle.tick_close.specs.declared.Stepped.{Stepped}
use Rattle.tick_columns.specs.Stage.{columns, state_of}
use Rattle.step.specs.Step.{start, Steps}
use Rattle.tick_columns.specs.Columns.{Read}
use Rattle.tick_close.specs.Settled.{no_ticks, StepSettled}
use Rattle.step_call.specs.Step.{AfterStep}
use Rattle.tick_columns.proofs.Begun.{checked, entry-is, spent}

-- what is let pass has few particles
pub few : (l : SheetInput) (budget : ℕ) (settings : List Float) → sheet_check l (count_check most_ticks budget) settings ≡ fine → count l ≤ most_particles
few l budget settings h = (checked l budget settings h).fits.few

pub few-numbers : (l : SheetInput) (budget : ℕ) (settings : List Float) → sheet_check l (count_check most_ticks budget) settings ≡ fine → count l * 2 ≤ 2 * most_particles
few-numbers l budget settings h = omega (arith, few l budget settings h)

pub few-kept : (l : SheetInput) (budget : ℕ) (settings : List Float) → sheet_check l (count_check most_ticks budget) settings ≡ fine → count l * 4 ≤ 4 * most_particles
few-kept l budget settings h = omega (arith, few l budget settings h)

module _ (l : SheetInput) (s : Settings) (alpha_min : Float) (budget : ℕ) where
  -- refused before it begins: nothing changes
  pub step-stopped : (q : Refusal) (r : StepAnswer) → sheet_check l (count_check most_ticks budget) (tick_settings l s ++ (alpha_min ∷ [])) ≡ refused q → r ≡ no_ticks q
      → AfterStep l s alpha_min budget r l.sheet l.alpha l.work
  unfolding step_result step_answer sheet_after_step alpha_after_step work_after_step
  step-stopped q r e er = record { answer = er ∙ rw e; sheet = rw e; alpha = rw e; work = rw (e, keeps_slots l (count-early most_ticks budget) (tick_settings l s ++ (alpha_min ∷ [])) q e) }

  module _ (c : sheet_check l (count_check most_ticks budget) (tick_settings l s ++ (alpha_min ∷ [])) ≡ fine) (places speeds at vs : List Float) (flags : List ℕ) (a : Float) (t : Stepped)
      (r : Read l.sheet places speeds flags) (n : length flags ≡ count l) (ea : a ≡ float_of l.alpha)
      (k : Steps (columns at vs flags) l.draws budget t
      (ticks_from s alpha_min (forces_from (length flags) (entries l) l.numbers l.links) (slots_of l.work) budget 0 (state_of (columns places speeds flags) l.draws (start a)))) where
    result-is : step_result l s alpha_min budget ≡ done (ticks_done t.ticks (refusal_in t.end) (state_of (columns at vs flags) l.draws t.progress))
    unfolding step_result
    result-is =
        ap (λ (d : Check). d >>= λ _. done (ticks_from s alpha_min (forces l) (slots_of l.work) budget 0 (entry_state l))) c
        ∙ ap done
        (sym (ap (λ (m : ℕ). ticks_from s alpha_min (forces_from m (entries l) l.numbers l.links) (slots_of l.work) budget 0 (state_of (columns places speeds flags) l.draws (start a))) n
        ∙ ap (ticks_from s alpha_min (forces l) (slots_of l.work) budget 0) (entry-is l places speeds flags r a ea))
        ∙ sym k.is)

    -- the ticks ran, and what they left was written
    pub step-ran : (work : List ℕ) (q : StepAnswer) (sheet' : List ℕ) (alpha' : ℕ) (work' : List ℕ) → length work ≡ length l.work
        → StepSettled t alpha_min at vs l.sheet work q sheet' alpha' work' → AfterStep l s alpha_min budget q sheet' alpha' work'
    unfolding step_answer sheet_after_step alpha_after_step work_after_step
    step-ran work q sheet' alpha' work' ew h =
        record {
          answer = h.answer ∙ rw (result-is, spent l.draws t.progress.used k.drawn);
          sheet = h.bytes ∙ rw (result-is, r.of_flags);
          alpha = h.alpha_left ∙ rw result-is;
          work = h.slots ∙ rw (result-is, ew);
        }
