-- What a leaf's chain is like. Definitions only.
use Rattle.std.specs.Prelude.{List, ℕ, ◌≤◌, length}
use Rattle.tree_slots.specs.Trees.{Below, ChainFrom}

-- at most n members, each below n
pub record Few (n : ℕ) (is : List ℕ) : Type 0 where
  pub below : Below n is
  pub few : length is ≤ n

-- the chain of a leaf whose first particle is f
abbrev pub Chain : List ℕ → ℕ → ℕ → Type 0
Chain next n f = ChainFrom next (Few n) f
