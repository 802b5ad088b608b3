-- How a tick and a step that have run are settled. Definitions only.
use Rattle.std.specs.Prelude.{◌≡◌, cond, List, ℕ, Float, Result}
use Rattle.std.specs.Float.Ieee.{le}
use Rattle.rules.specs.declared.Counts.{Counts}
use Rattle.rules.specs.Plain.{zeros}
use Rattle.rules.specs.Outcome.{if_done, outcome_of, refusal_in}
use Rattle.rules.specs.Number.{bits_of}
use Rattle.force_call.specs.Calls.{counts_of}
use Rattle.rules.specs.declared.Progress.{Progress}
use Rattle.tick_columns.specs.Columns.{written}
use Rattle.rules.specs.declared.Refusal.{Refusal}
use Rattle.rules.specs.declared.StepAnswer.{StepAnswer}
use Rattle.tick_close.specs.declared.Stepped.{Stepped}

-- What is answered and left when a tick has run on columns and ended as t: sheet and alpha are written only where it is not refused, and the work slots are zero in any case.
pub record TickSettled (t : Result Progress Refusal) (places speeds : List Float) (sheet : List ℕ) (alpha : ℕ) (work : List ℕ) (r : Counts) (sheet' : List ℕ) (alpha' : ℕ) (work' : List ℕ) : Type 0 where
  pub answer : r ≡ counts_of t
  pub bytes : sheet' ≡ if_done (outcome_of t) (λ _. written sheet places speeds) sheet
  pub alpha_left : alpha' ≡ if_done (outcome_of t) (λ p. bits_of p.alpha) alpha
  pub slots : work' ≡ zeros work

-- a refusal's answer
abbrev pub no_ticks : Refusal → StepAnswer
no_ticks q = record { refusal = q; ticks = 0; finished = 0; visits = 0; draws = 0 }

-- what is answered when ticks have run on columns
abbrev pub some_ticks : Stepped → Float → StepAnswer
some_ticks t alpha_min =
    let p = t.progress in
    record { refusal = refusal_in t.end; ticks = t.ticks; finished = cond (le p.alpha alpha_min) 1 0; visits = p.visits; draws = p.used }

-- What is answered and left when ticks have run on columns: what they left is written in any case, also where one that was refused ended them.
pub record StepSettled (t : Stepped) (alpha_min : Float) (places speeds : List Float) (sheet work : List ℕ) (r : StepAnswer) (sheet' : List ℕ) (alpha' : ℕ) (work' : List ℕ) : Type 0 where
  pub answer : r ≡ some_ticks t alpha_min
  pub bytes : sheet' ≡ written sheet places speeds
  pub alpha_left : alpha' ≡ bits_of t.progress.alpha
  pub slots : work' ≡ zeros work
