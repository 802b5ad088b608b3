-- A particle leaves a tree in slots. Definitions only.
use Rattle.std.specs.Prelude.{◌≡◌, List, ◌⊎◌, ℕ, ◌+◌, ◌-◌, ◌*◌, ◌≤◌, ◌<◌, length, Float, Option, Some, None}
use Rattle.rules.specs.declared.Extent.{Extent}
use Rattle.rules.specs.Plain.{branch}
use Rattle.rules.specs.Cell.{quarter}
use Rattle.rules.specs.Refusal.{most_particles}
use Rattle.rules.specs.Tree.{Tree, none, leaf, node, nodes, depth, in_quarter, greatest_level}
use Rattle.rules.specs.Terms.{EachLeaf, most_nodes}
use Rattle.rules.specs.Calls.{slot_words}
use Rattle.rules.proofs.CellCount.{Fruitful}
use Rattle.rules.proofs.CellWithout.{joined}
use Rattle.tree_slots.specs.Trees.{first, EachSlot, Once, in_cells, lead}
use Rattle.tree_slots.specs.declared.Quadtree.{Quadtree}
use Rattle.tree_leaves.specs.Leaf.{side}
use Rattle.tree_placing.specs.Add.{Stored, pick, Reaches}
use Rattle.tree_removing.specs.declared.tidy.Fold.{Fold}

-- all but the slot h of the first n + 1
abbrev pub But : ℕ → ℕ → ℕ → Type 0
But n h j = (j < n + 1) × (j ≡ h → ⊥)

module _ (at : List Float) where
  -- on the way of i, from below: what has one leaf below it becomes that leaf
  unfoldable pub gather : {A : Type 0} → ℕ → Extent → Tree A → Tree A
  gather i c none = none
  gather i c (leaf a js) = leaf a js
  gather i c (node a t0 t1 t2 t3) =
      joined a (branch (in_quarter at c 0 i) (λ _. gather i (quarter 0 c) t0) (λ _. t0)) (branch (in_quarter at c 1 i) (λ _. gather i (quarter 1 c) t1) (λ _. t1))
      (branch (in_quarter at c 2 i) (λ _. gather i (quarter 2 c) t2) (λ _. t2)) (branch (in_quarter at c 3 i) (λ _. gather i (quarter 3 c) t3) (λ _. t3))

  -- the first particle of each leaf lies in the quarter r of the cell c
  abbrev pub Lie : Extent → ℕ → Tree ℕ → Type 0
  Lie c r t = EachLeaf (λ _ js. side at (first js) c ≡ r) t

  -- each leaf stands on the way of its first particle
  abbrev pub OnWay : Extent → Tree ℕ → Type 0
  OnWay c none = Unit {0}
  OnWay c (leaf s js) = Unit {0}
  OnWay c (node s t0 t1 t2 t3) =
      (Lie c 0 t0 × OnWay (quarter 0 c) t0) × (Lie c 1 t1 × OnWay (quarter 1 c) t1) × (Lie c 2 t2 × OnWay (quarter 2 c) t2) × (Lie c 3 t3 × OnWay (quarter 3 c) t3)

  -- a leaf's first particle has its place in the list
  abbrev pub HasPlace : List ℕ → Type 0
  HasPlace js = (first js < most_particles) × (first js * 2 + 2 ≤ length at)

  -- The slots hold the tree t of the cell c, of n nodes in slots that satisfy P, each leaf on the way of its first particle.
  pub record Occupies (m : List ℕ) (c : Extent) (root n : ℕ) (P : ℕ → Type 0) (t : Tree ℕ) : Type 0 where
    pub leads : root ≡ lead t
    pub stored : Stored m t
    pub most : depth t ≤ greatest_level + 1
    pub count : nodes t ≡ n
    pub slots : EachSlot P t
    pub once : Once t
    pub fruitful : Fruitful t
    pub ways : OnWay c t
    pub places : EachLeaf (λ _. HasPlace) t

  -- in the first slots
  abbrev pub Packed : List ℕ → Quadtree → Tree ℕ → Type 0
  Packed m q t = Occupies m q.extent q.root q.nodes (λ j. j < q.nodes) t

  -- in the first slots and one more, but for the free slot h
  pub record Hollow (m : List ℕ) (q : Quadtree) (h : ℕ) (t : Tree ℕ) : Type 0 where
    pub occupies : Occupies m q.extent q.root q.nodes (But q.nodes h) t
    pub least : h ≤ q.nodes
    pub room : (q.nodes + 1) * slot_words ≤ length m
    pub few : q.nodes ≤ most_nodes most_particles

  -- the same cells and chains as in t, in the first slots
  pub record Filled (m : List ℕ) (q r : Quadtree) (t : Tree ℕ) : Type 0 where
    pub tree : Tree ℕ
    pub packed : Packed m r tree
    pub cells : in_cells q.extent tree ≡ in_cells q.extent t
    pub extent : r.extent ≡ q.extent
    pub nodes : r.nodes ≡ q.nodes
    pub deepest : r.deepest ≡ q.deepest

-- f is the first particle of a leaf of the tree
abbrev pub LeafOf : ℕ → Tree ℕ → Type 0
LeafOf f none = ⊥
LeafOf f (leaf s js) = first js ≡ f
LeafOf f (node s t0 t1 t2 t3) = LeafOf f t0 ⊎ (LeafOf f t1 ⊎ (LeafOf f t2 ⊎ LeafOf f t3))

-- one node less
abbrev pub with_less : Quadtree → Quadtree
with_less q = record { extent = q.extent; root = q.root; nodes = q.nodes - 1; deepest = q.deepest }

module _ (at : List Float) where
  -- what gathering along the way of i asks
  pub record Tidies (m : List ℕ) (q : Quadtree) (i : ℕ) (t : Tree ℕ) : Type 0 where
    pub packed : Packed at m q t
    pub room : q.nodes * slot_words ≤ length m
    pub few : q.nodes ≤ most_nodes most_particles
    pub place : i * 2 + 2 ≤ length at

  -- the last internal node on the way of i has one child, a leaf
  pub record FoldsAt (c : Extent) (t : Tree ℕ) (i s x : ℕ) : Type 0 where
    pub level : ℕ
    pub cell : Extent
    pub t0 : Tree ℕ
    pub t1 : Tree ℕ
    pub t2 : Tree ℕ
    pub t3 : Tree ℕ
    pub way : Reaches at i level c t cell (node s t0 t1 t2 t3)
    pub which : ℕ
    pub less : which < 4
    pub chain : List ℕ
    pub child : pick t0 t1 t2 t3 which ≡ leaf x chain
    pub two : nodes (node s t0 t1 t2 t3) ≡ 2
    pub gathered : gather at i cell (in_cells cell (node s t0 t1 t2 t3)) ≡ leaf cell chain

  -- Nothing is left to gather; or a node, and its one child.
  abbrev pub Folds : Extent → Tree ℕ → ℕ → Option Fold → Type 0
  Folds c t i None = gather at i c (in_cells c t) ≡ in_cells c t
  Folds c t i (Some f) = FoldsAt c t i f.slot f.child

  -- gathered along the way of i
  pub record Tidied (m : List ℕ) (q r : Quadtree) (i : ℕ) (t : Tree ℕ) : Type 0 where
    pub tree : Tree ℕ
    pub packed : Packed at m r tree
    pub cells : in_cells q.extent tree ≡ gather at i q.extent (in_cells q.extent t)
    pub extent : r.extent ≡ q.extent
    pub deepest : r.deepest ≡ q.deepest
    pub few : r.nodes ≤ q.nodes
