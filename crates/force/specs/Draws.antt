-- What a stage of a force says of the lent draws: how many are used, and so what is left behind them. Definitions only.
use Rattle.std.specs.Prelude.{◌≡◌, List, ℕ, ◌≤◌, length, drop, Float, Result, IfErr}
use Rattle.rules.specs.Outcome.{Outcome, done, refusal, outcome_of, ◌>>=◌}
use Rattle.rules.specs.declared.Refusal.{Refusal}
use Rattle.rules.specs.Flow.{gap, Shaken}
use Rattle.force.specs.declared.lent.Draws.{Draws}
use Rattle.force.specs.declared.gap.Gap.{Gap}

-- no draw is used twice, and none past the last
pub record From (ds : List Float) (used now : ℕ) : Type 0 where
  pub begun : used ≤ now
  pub reach : now ≤ length ds

-- the draws that aren't used yet
abbrev pub left : Draws → List Float
left d = drop d.used d.lent.now

-- what a stage came to, made of what it answered; or the refusal
abbrev pub came_to : {A S : Type 0} → Result A Refusal → (A → S) → Outcome S
came_to r f = outcome_of r >>= λ a. done (f a)

-- the gap g, and the draws l that are left
abbrev pub shaken_to : Gap → List Float → Shaken
shaken_to g l = record { gap = gap g.x g.y; left = l }

-- nothing is refused but that a draw was needed, and none was left
abbrev pub OnlyDry : {A : Type 0} → Result A Refusal → Type 0
OnlyDry r = IfErr r (λ e. e ≡ refusal 8 0)

-- the same draws are lent, and none is used twice
pub record Further (old new : Draws) : Type 0 where
  pub same : new.lent.now ≡ old.lent.now
  pub begun : old.used ≤ new.used
