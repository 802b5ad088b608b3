-- The ways down a tree that removing takes. Definitions only.
use Rattle.std.specs.Prelude.{◌≡◌, List, ℕ, zero, suc, ◌+◌, ◌-◌, ◌*◌, ◌^◌, ◌≤◌, ◌<◌, length, get_or, Float}
use Rattle.rules.specs.declared.Extent.{Extent}
use Rattle.rules.specs.Tree.{Tree, none, leaf, node, depth, greatest_level}
use Rattle.rules.proofs.CellCount.{Fruitful}
use Rattle.tree_slots.specs.declared.Quadtree.{Quadtree}
use Rattle.tree_slots.specs.Trees.{lead, InternalIn, SlotsLent}
use Rattle.tree_leaves.specs.Leaf.{side}
use Rattle.tree_placing.specs.Add.{Stored, pick, Reaches}
use Rattle.tree_removing.specs.declared.way.Edge.{Edge}

-- the first number that isn't 0
abbrev pub first_of : ℕ → ℕ → ℕ
first_of zero b = b
first_of (suc a) b = suc a

abbrev pub some_kid : List ℕ → ℕ
some_kid ks = first_of (get_or ks 0 0) (first_of (get_or ks 1 0) (first_of (get_or ks 2 0) (get_or ks 3 0)))

-- the tree t from slot s on, in which every internal node has a leaf below it
pub record StandsFrom (m : List ℕ) (s : ℕ) (t : Tree ℕ) : Type 0 where
  pub top : lead t ≡ s + 1
  pub stored : Stored m t
  pub lent : SlotsLent m t
  pub fruitful : Fruitful t
  pub levels : depth t ≤ greatest_level + 1

-- the tree t, and the node in slot x below its root, on the way of f
pub record Under (at : List Float) (m : List ℕ) (q : Quadtree) (x f : ℕ) (t : Tree ℕ) : Type 0 where
  pub leads : q.root ≡ lead t
  pub stored : Stored m t
  pub lent : SlotsLent m t
  pub levels : depth t ≤ greatest_level + 1
  pub down : ℕ
  pub cell : Extent
  pub sub : Tree ℕ
  pub way : Reaches at f (suc down) q.extent t cell sub
  pub top : lead sub ≡ x + 1
  pub place : f * 2 + 2 ≤ length at
  pub small : x < 2 ^ 32

-- r is the node above slot x, and the quadrant
pub record Above (at : List Float) (c : Extent) (t : Tree ℕ) (x f : ℕ) (r : Edge) : Type 0 where
  pub level : ℕ
  pub cell : Extent
  pub t0 : Tree ℕ
  pub t1 : Tree ℕ
  pub t2 : Tree ℕ
  pub t3 : Tree ℕ
  pub way : Reaches at f level c t cell (node r.slot t0 t1 t2 t3)
  pub less : r.quadrant < 4
  pub child : lead (pick t0 t1 t2 t3 r.quadrant) ≡ x + 1

-- the tree t, with an internal root
pub record Tops (at : List Float) (m : List ℕ) (q : Quadtree) (i : ℕ) (t : Tree ℕ) : Type 0 where
  pub leads : q.root ≡ lead t
  pub rooted : 0 < q.root
  pub internal : InternalIn m (q.root - 1)
  pub stored : Stored m t
  pub lent : SlotsLent m t
  pub levels : depth t ≤ greatest_level + 1
  pub place : i * 2 + 2 ≤ length at

-- no internal node
abbrev pub Outer : Tree ℕ → Type 0
Outer none = Unit {0}
Outer (leaf s js) = Unit {0}
Outer (node s t0 t1 t2 t3) = ⊥

-- r is the last internal node on the way of i, and the quadrant of i in it
pub record Innermost (at : List Float) (c : Extent) (t : Tree ℕ) (i : ℕ) (r : Edge) : Type 0 where
  pub level : ℕ
  pub cell : Extent
  pub t0 : Tree ℕ
  pub t1 : Tree ℕ
  pub t2 : Tree ℕ
  pub t3 : Tree ℕ
  pub way : Reaches at i level c t cell (node r.slot t0 t1 t2 t3)
  pub quadrant : r.quadrant ≡ side at i cell
  pub outer : Outer (pick t0 t1 t2 t3 r.quadrant)
