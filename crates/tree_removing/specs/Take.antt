-- A particle leaves the rule's tree in the slots, and its chain. Definitions only.
use Rattle.std.specs.Prelude.{◌≡◌, true, List, ℕ, ◌+◌, ◌*◌, ◌≤◌, ◌<◌, length, Float, Some, None}
use Rattle.rules.specs.declared.Extent.{Extent}
use Rattle.rules.specs.Refusal.{most_particles}
use Rattle.rules.specs.Tree.{Tree, leaf, node, same}
use Rattle.rules.proofs.CellList.{In}
use Rattle.tree_slots.specs.declared.Quadtree.{Quadtree}
use Rattle.tree_slots.specs.Trees.{Rises}
use Rattle.tree_leaves.specs.Chain.{Linked}
use Rattle.tree_leaves.specs.Leaf.{side}
use Rattle.tree_placing.specs.Add.{Holds, pick, Reaches}
use Rattle.tree_removing.specs.declared.take.Spot.{Spot}
use Rattle.tree_removing.specs.declared.way.Edge.{Edge}

-- a tree of points in ascending order, each with its place, and i is one of them
pub record Finds (at : List Float) (is m : List ℕ) (q : Quadtree) (i : ℕ) : Type 0 where
  pub holds : Holds at is m q
  pub rises : Rises 0 is
  pub within : In i is
  pub points : (j : ℕ) → In j is → (same at j j ≡ true) × (j * 2 + 2 ≤ length at) × (j < most_particles)

-- on the way of i, the leaf in slot x, of the chain js, is the child k of slot s
pub record Hangs (at : List Float) (c : Extent) (t : Tree ℕ) (i s k x : ℕ) (js : List ℕ) : Type 0 where
  pub level : ℕ
  pub cell : Extent
  pub t0 : Tree ℕ
  pub t1 : Tree ℕ
  pub t2 : Tree ℕ
  pub t3 : Tree ℕ
  pub way : Reaches at i level c t cell (node s t0 t1 t2 t3)
  pub quadrant : k ≡ side at i cell
  pub child : pick t0 t1 t2 t3 k ≡ leaf x js

-- r is where the leaf of i stands: at the root, or below a node
pub record Spotted (at : List Float) (is m : List ℕ) (q : Quadtree) (i : ℕ) (r : Spot) : Type 0 where
  pub holds : Holds at is m q
  pub chain : List ℕ
  pub root : r.above ≡ None → holds.tree ≡ leaf r.leaf chain
  pub below : (e : Edge) → r.above ≡ Some e → Hangs at q.extent holds.tree i e.slot e.quadrant r.leaf chain

-- The tree and the chains of points in ascending order, each with its place and its link, and i is one of them.
pub record Removes (at : List Float) (is m next tail : List ℕ) (q : Quadtree) (i : ℕ) : Type 0 where
  pub holds : Holds at is m q
  pub linked : Linked at is next tail
  pub rises : Rises 0 is
  pub within : In i is
  pub points : (j : ℕ) → In j is → (same at j j ≡ true) × (j * 2 + 2 ≤ length at) × (j < length next)
  pub lengths : length tail ≡ length next
  pub few : length next ≤ most_particles

-- the tree and the chains of the points that are left, in the same extent
pub record Removed (at : List Float) (is m next tail : List ℕ) (q r : Quadtree) : Type 0 where
  pub holds : Holds at is m r
  pub linked : Linked at is next tail
  pub extent : r.extent ≡ q.extent
