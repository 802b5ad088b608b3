-- A tick by columns: refused at alpha, or its forces and the closing move.
use mathlib.Core.Path.{◌≡◌, ◌∙◌}
use mathlib.Core.Bool.{Bool, true, false}
use mathlib.Core.List.{List}
use Prim.Native.Nat.{ℕ}
use lib.Ieee.{Float}
use Rattle.rules.specs.declared.Settings.{Settings}
use Rattle.rules.specs.declared.Progress.{Progress}
use Rattle.std.proofs.Common.{Result, Err}
use Rattle.rules.specs.declared.Refusal.{Refusal}
use Rattle.rules.specs.Outcome.{refusal, refused, fine, require, fold_stages}
use Rattle.rules.specs.Refusal.{alpha_check}
use Rattle.rules.specs.Number.{within}
use Rattle.rules.specs.Tick.{Force, next_alpha, alpha_stage, force_stage, tick_home}
use Rattle.force.specs.Ran.{IsLate}
use Rattle.tick_columns.specs.Stage.{Columns, state_of, Stages}
use Rattle.tick_close.specs.Close.{closed}
use Rattle.tick.specs.Tick.{cooled}

-- a tick with these settings, of these forces in this many slots, from the columns k at p
module _ (s : Settings) (home : List Float) (fs : List Force) (slots : ℕ) (k : Columns) (ds : List Float) (p : Progress) (most : ℕ) where
  -- alpha is out of range
  pub hot_tick : (k' : Columns) (q : Refusal) → alpha_check (next_alpha s p.alpha) ≡ refused q → Stages k' ds (cooled s p) most (Err q) (tick_home s home fs slots (state_of k ds p))
  unfolding tick_home alpha_stage
  hot_tick k' q e = record { is = rw e; onward = tt; few = tt; ranged = tt; late = nine (within (next_alpha s p.alpha)) e }
    where
      nine : (ok : Bool) → require ok 9 0 ≡ refused q → IsLate q
      nine true e = cc
      nine false e = let z : refusal 9 0 ≡ q = cc in rw (← z)

  -- it is in range, and the forces are refused
  pub stopped_tick : alpha_check (next_alpha s p.alpha) ≡ fine → (k' : Columns) (q : Refusal)
      → Stages k' ds (cooled s p) most (Err q) (fold_stages (force_stage s.tuning slots) (state_of k ds (cooled s p)) fs)
      → Stages k' ds (cooled s p) most (Err q) (tick_home s home fs slots (state_of k ds p))
  unfolding tick_home alpha_stage
  stopped_tick w k' q h = record { is = rw (w, ← h.is); onward = tt; few = tt; ranged = tt; late = h.late }

  -- or they ran, and the closing move
  pub cool_tick : alpha_check (next_alpha s p.alpha) ≡ fine → (k' : Columns) (r : Result Progress Refusal)
      → Stages k' ds (cooled s p) most r (closed s.velocity_decay home (fold_stages (force_stage s.tuning slots) (state_of k ds (cooled s p)) fs))
      → Stages k' ds (cooled s p) most r (tick_home s home fs slots (state_of k ds p))
  unfolding tick_home alpha_stage
  cool_tick w k' r h = record { is = h.is ∙ rw w; onward = h.onward; few = h.few; ranged = h.ranged; late = h.late }
