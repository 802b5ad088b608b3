-- What the answers of ManyBody's code say at one node. Definitions only.
use Rattle.std.specs.Prelude.{◌≡◌, List, ℕ, ◌*◌, ◌≤◌, length, Float}
use Rattle.rules.specs.declared.Extent.{Extent}
use Rattle.rules.specs.Refusal.{most_particles}
use Rattle.rules.specs.ManyBody.{Charge}
use Rattle.many_body_charge.specs.Charge.{read_charge}

-- ---- what is lent

-- places, velocities and links for not too many particles
pub record Bodies (at vs strengths : List Float) (next : List ℕ) : Type 0 where
  pub few : length strengths ≤ most_particles
  pub places : length at ≡ length strengths * 2
  pub speeds : length vs ≡ length strengths * 2
  pub links : length next ≡ length strengths

-- ---- a node

-- what the slot s holds, whose cell is c
abbrev pub node_at : List ℕ → ℕ → Extent → Extent × Charge
node_at m s c = (c, read_charge m s)
