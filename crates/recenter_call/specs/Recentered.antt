-- What is kept of a sheet that is to be recentered, how the call on it ends, and how alpha cools. Definitions only.
use Rattle.std.specs.Prelude.{◌≡◌, cond, List, ℕ, zero, suc, ◌*◌, eqb, Result, Ok, Err, Float}
use Rattle.rules.specs.declared.Refusal.{Refusal}
use Rattle.rules.specs.Outcome.{fine, ◌>>=◌, result_of, if_done}
use Rattle.rules.specs.Sheet.{record_size}
use Rattle.rules.specs.Tick.{next_alpha}
use Rattle.rules.specs.Recenter.{most_recentered, recenter_settings, recentered}

-- the bytes of the records that are taken
abbrev pub kept_bytes : ℕ
kept_bytes = record_size * most_recentered

-- a step's refusal as a check: number 0 refuses nothing
abbrev pub check_of : Refusal → Result (Unit {0}) Refusal
check_of r = cond (eqb r.number 0) (Ok tt) (Err r)

-- The answer, and the bytes after the call where `before` stood: the sheet that the ticks left, or, refused, what was there.
pub record Recentered (sheet : List ℕ) (ticks : ℕ) (r : Result (Unit {0}) Refusal) (before after : List ℕ) : Type 0 where
  pub answer : r ≡ result_of (recentered sheet ticks >>= λ _. fine)
  pub bytes : after ≡ if_done (recentered sheet ticks) (λ out. out) before

-- alpha after so many ticks, from a on
abbrev pub cooled : ℕ → Float → Float
cooled zero a = a
cooled (suc k) a = cooled k (next_alpha recenter_settings a)
