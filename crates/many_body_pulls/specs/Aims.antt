-- How a pull is aimed, and what the code's answer says of it. Definitions only.
use Rattle.std.specs.Prelude.{List, Float}
use Rattle.rules.specs.declared.Tuning.{Tuning}
use Rattle.rules.specs.Outcome.{Outcome, done, ◌>>=◌}
use Rattle.rules.specs.Flow.{Gap, gap, shaken, lengthened}
use Rattle.rules.specs.ManyBody.{softened}
use Rattle.force.specs.declared.gap.Gap as Code
use Rattle.many_body_pulls.specs.declared.aim.Aim.{Aim}

-- a gap in which a draw stands for each difference that was zero (it may be 0.0 itself), its length, and the draws that are left
pub record Aimed : Type 0 where
  pub gap : Gap
  pub length : Float
  pub left : List Float

abbrev pub aim_at : Gap → Float → List Float → Aimed
aim_at g l ds = record { gap = g; length = l; left = ds }

-- the draws that are needed, and the length that follows
unfoldable pub aimed : Tuning → Gap → Float → List Float → Outcome Aimed
aimed t g l ds = shaken g ds >>= λ s. done (aim_at s.gap (softened t (lengthened l g s.gap)) s.left)

-- the code's gap
abbrev pub gap_of : Code.Gap → Gap
gap_of g = gap g.x g.y

-- the aim a, and the draws ds that are left
abbrev pub aim_to : Aim → List Float → Aimed
aim_to a ds = aim_at (gap_of a.gap) a.l ds
