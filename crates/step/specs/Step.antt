-- Many ticks as the code answers them. Definitions only.
use Rattle.std.specs.Prelude.{◌≡◌, true, List, ℕ, ◌*◌, ◌≤◌, length, Float, IfErr}
use Rattle.rules.specs.declared.Progress.{Progress}
use Rattle.rules.specs.Plain.{all}
use Rattle.rules.specs.Outcome.{refusal_in, zeroes_work}
use Rattle.rules.specs.Number.{within}
use Rattle.rules.specs.Tick.{TicksDone, ticks_done}
use Rattle.force.specs.Ran.{most_tick_visits, IsLate}
use Rattle.tick_close.specs.declared.Stepped.{Stepped}
use Rattle.tick_columns.specs.Stage.{Columns, state_of}

-- nothing is counted yet
abbrev pub start : Float → Progress
start alpha = record { alpha = alpha; used = 0; visits = 0 }

-- The ticks ran as o, and left the columns k. Where a refusal ended them, it is one that a tick met, and the work slots are zeroed.
pub record Steps (k : Columns) (ds : List Float) (budget : ℕ) (r : Stepped) (o : TicksDone) : Type 0 where
  pub is : ticks_done r.ticks (refusal_in r.end) (state_of k ds r.progress) ≡ o
  pub late : zeroes_work (refusal_in r.end) ≡ true
  pub met : IfErr r.end IsLate
  pub ticked : r.ticks ≤ budget
  pub drawn : r.progress.used ≤ length ds
  pub few : r.progress.visits ≤ budget * most_tick_visits
  pub ranged : all within k.places ≡ true
