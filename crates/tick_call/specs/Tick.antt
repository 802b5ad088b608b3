-- A tick called on a sheet, and how it ends. Definitions only.
use Rattle.std.specs.Prelude.{◌≡◌, List, ℕ}
use Rattle.rules.specs.declared.Counts.{Counts}
use Rattle.rules.specs.declared.Settings.{Settings}
use Rattle.rules.specs.Tick.{SheetInput, tick_answer, sheet_after_tick, alpha_after_tick, work_after_tick}

-- The answer, and all that is lent to be changed, after the call.
pub record AfterTick (l : SheetInput) (s : Settings) (r : Counts) (sheet' : List ℕ) (alpha' : ℕ) (work' : List ℕ) : Type 0 where
  pub answer : r ≡ tick_answer l s
  pub sheet : sheet' ≡ sheet_after_tick l s
  pub alpha : alpha' ≡ alpha_after_tick l s
  pub work : work' ≡ work_after_tick l s
