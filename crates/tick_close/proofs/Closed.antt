-- The closing move after what the forces came to.
use mathlib.Core.Path.{sym, ◌∙◌}
use mathlib.Core.List.{List}
use Prim.Native.Nat.{ℕ}
use lib.Ieee.{Float}
use Rattle.std.proofs.Common.{Result, Ok}
use Rattle.rules.specs.declared.Progress.{Progress}
use Rattle.rules.specs.declared.Refusal.{Refusal}
use Rattle.rules.specs.Outcome.{Outcome}
use Rattle.rules.specs.Particle.{closing}
use Rattle.rules.specs.Tick.{State, if_in_range}
use Rattle.tick_columns.specs.Stage.{Columns, particles_in, state_of, Stages}
use Rattle.tick_close.specs.Close.{closed}

-- the forces came to q and left the columns k, and the closing move left k'
pub moved-stages : (k k' : Columns) (ds : List Float) (decay : Float) (home : List Float) (p q : Progress) (most : ℕ) (r : Result Progress Refusal) (o : Outcome State) → Stages k ds p most (Ok q) o
    → Stages k' ds p most r (if_in_range (closing decay home (particles_in k)) (state_of k ds q)) → Stages k' ds p most r (closed decay home o)
moved-stages k k' ds decay home p q most r o h s = record { is = s.is ∙ rw (sym h.is); onward = s.onward; few = s.few; ranged = s.ranged; late = s.late }
