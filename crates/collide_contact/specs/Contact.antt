-- What Collide is lent, and what a leaf in the slots does. Definitions only.
use Rattle.std.specs.Prelude.{◌≡◌, List, [], ◌∷◌, ℕ, ◌-◌, ◌*◌, ◌≤◌, length, Float}
use Rattle.rules.specs.Outcome.{Outcome}
use Rattle.rules.specs.Flow.{Flow}
use Rattle.rules.specs.Collide.{meet_first}
use Rattle.tree_slots.specs.Trees.{word, value}

-- a place and a velocity for each radius
pub record Placed (at vs radii : List Float) : Type 0 where
  pub places : length at ≡ length radii * 2
  pub speeds : length vs ≡ length radii * 2

-- these, and no draw used past the last
pub record Spread (at vs radii draws : List Float) (used : ℕ) : Type 0 where
  pub places : length at ≡ length radii * 2
  pub speeds : length vs ≡ length radii * 2
  pub drawn : used ≤ length draws

-- particle i meets the leaf at the slot s: its radius, and the first particle of its chain
abbrev pub meet_at : List Float → List Float → Float → ℕ → List ℕ → ℕ → Flow → Outcome Flow
meet_at at radii strength i m s σ = meet_first at radii strength i (value m s 0) ((word m s 0 - 1) ∷ []) σ
