-- The chains of the particles at one point, by a link for each particle. Definitions only.
use Rattle.std.specs.Prelude.{◌≡◌, List, ℕ, ◌+◌, ◌<◌, length, get_or, Float}
use Rattle.rules.specs.Plain.{keep}
use Rattle.rules.specs.Refusal.{most_particles}
use Rattle.rules.specs.Tree.{same}
use Rattle.rules.proofs.CellList.{In}
use Rattle.tree_slots.specs.Trees.{first, Trails, last_or}

-- those of the particles that are at the point of i
abbrev pub at_point : List Float → List ℕ → ℕ → List ℕ
at_point at is i = keep (same at i) is

-- The chain at the point of each particle: the links lead from its first along all of it, and the tail of its first is its last.
pub record Linked (at : List Float) (is next tail : List ℕ) : Type 0 where
  pub links : (i : ℕ) → In i is → Trails next (first (at_point at is i) + 1) (at_point at is i)
  pub tails : (i : ℕ) → In i is → get_or tail (first (at_point at is i)) 0 ≡ last_or 0 (at_point at is i)

-- the chain of f, and a particle p to join it
pub record Joinable (next tail : List ℕ) (f p : ℕ) : Type 0 where
  pub first : f < length tail
  pub last : get_or tail f 0 < length next
  pub few : p < most_particles
