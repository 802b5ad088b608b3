-- How deep a tree in slots goes. Definitions only.
use Rattle.std.specs.Prelude.{◌≡◌, List, ℕ, ◌+◌, ◌≤◌, ◌<◌}
use Rattle.rules.specs.Tree.{Tree, depth, greatest_level}
use Rattle.tree_slots.specs.declared.Quadtree.{Quadtree}
use Rattle.tree_slots.specs.Trees.{lead, SlotsLent}
use Rattle.tree_placing.specs.Add.{Stored}

-- the number p leads to this tree in the slots, its root at this level
pub record Goes (m : List ℕ) (p level : ℕ) (t : Tree ℕ) : Type 0 where
  pub leads : p ≡ lead t
  pub stored : Stored m t
  pub slots : SlotsLent m t
  pub levels : depth t + level ≤ greatest_level + 1

-- d bounds the levels of the tree; where w levels more would pass the greatest level, it is the deepest that there is
pub record Deepest (w : ℕ) (t : Tree ℕ) (d : ℕ) : Type 0 where
  pub bounds : depth t ≤ d + 1
  pub shallow : d ≤ greatest_level
  pub exact : greatest_level < d + w → depth t ≡ d + 1

-- with another bound of its levels
abbrev pub with_deepest : ℕ → Quadtree → Quadtree
with_deepest d q = record { extent = q.extent; root = q.root; nodes = q.nodes; deepest = d }

-- a tree with a root, whose levels q bounds
pub record LevelsBounded (m : List ℕ) (q : Quadtree) (t : Tree ℕ) : Type 0 where
  pub goes : Goes m q.root 0 t
  pub rooted : 0 < q.root
  pub bounds : depth t ≤ q.deepest + 1
  pub shallow : q.deepest ≤ greatest_level
