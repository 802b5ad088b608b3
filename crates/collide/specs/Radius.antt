-- The radius that is laid beside each node of a tree in slots. Definitions only.
use Rattle.std.specs.Prelude.{List, ℕ, length, Float}
use Rattle.rules.specs.Collide.{leaf_radius, node_radius}
use Rattle.tree_slots.specs.declared.Quadtree.{Quadtree}
use Rattle.tree_slots.specs.Trees.{value, Stands}
use Rattle.tree_walk.specs.WalkAfter.{Valued}

-- value 0 of a node
abbrev pub radius_in : List ℕ → ℕ → Float
radius_in m s = value m s 0

-- the slots hold the tree of some n points
pub record HoldsSomeTree (n : ℕ) (m : List ℕ) (q : Quadtree) : Type 0 where
  pub at : List Float
  pub next : List ℕ
  pub stands : Stands at n m next q

-- the slots hold the tree of the points `at`, one for each radius, and beside each node its radius
pub record Rounded (at radii : List Float) (m : List ℕ) (q : Quadtree) : Type 0 where
  pub next : List ℕ
  pub valued : Valued radius_in (leaf_radius radii) node_radius at (length radii) m next q

-- whatever tree the slots held at m₀, at m they hold it still, with its radii
abbrev pub Prepares : List Float → List ℕ → List ℕ → Quadtree → Type 0
Prepares radii m₀ m q = (s : HoldsSomeTree (length radii) m₀ q) → Rounded s.at radii m q
