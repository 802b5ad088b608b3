-- A step called on a sheet, and how it ends. Definitions only.
use Rattle.std.specs.Prelude.{◌≡◌, List, ℕ, Float}
use Rattle.rules.specs.declared.StepAnswer.{StepAnswer}
use Rattle.rules.specs.declared.Settings.{Settings}
use Rattle.rules.specs.Tick.{SheetInput, step_answer, sheet_after_step, alpha_after_step, work_after_step}

-- The answer, and all that is lent to be changed, after the call.
pub record AfterStep (l : SheetInput) (s : Settings) (alpha_min : Float) (budget : ℕ) (r : StepAnswer) (sheet' : List ℕ) (alpha' : ℕ) (work' : List ℕ) : Type 0 where
  pub answer : r ≡ step_answer l s alpha_min budget
  pub sheet : sheet' ≡ sheet_after_step l s alpha_min budget
  pub alpha : alpha' ≡ alpha_after_step l s alpha_min budget
  pub work : work' ≡ work_after_step l s alpha_min budget
