-- Insertion into a tree in slots: where a point's way down ends and what is written there. Definitions only.
use Rattle.std.specs.Prelude.{◌≡◌, true, List, [], ◌∷◌, ◌++◌, ℕ, zero, suc, ◌+◌, ◌-◌, ◌*◌, ◌^◌, ◌≤◌, ◌<◌, max, length, get_or, Float, Result, Ok, Err}
use Rattle.rules.specs.declared.Extent.{Extent}
use Rattle.rules.specs.Number.{within, x_at, y_at}
use Rattle.rules.specs.Floor.{floor}
use Rattle.rules.specs.declared.Reason.{Reason}
use Rattle.rules.specs.Reason.{number_of}
use Rattle.rules.specs.Outcome.{Outcome, done, refused, refusal, Check, DoneOr, DoneUnless}
use Rattle.rules.specs.Refusal.{most_particles}
use Rattle.rules.specs.Cell.{quarter}
use Rattle.rules.specs.Tree.{Tree, none, leaf, node, nodes, depth, tree_in, greatest_level, fits_check}
use Rattle.rules.specs.Calls.{slot_words, slots_of}
use Rattle.rules.proofs.CellList.{In}
use Rattle.rules.proofs.CellInside.{Inside}
use Rattle.rules.proofs.CoverTerms.{Grows}
use Rattle.tree_slots.specs.declared.Quadtree.{Quadtree}
use Rattle.tree_cells.specs.declared.cover.Covered.{Covered}
use Rattle.tree_placing.specs.declared.Stop.{Stop}
use Rattle.tree_placing.specs.declared.Stop.TheVariants.{Leaf, Hole}
use Rattle.tree_cells.specs.Cover.{square_of, Reachable, Near, CoveredTo}
use Rattle.tree_leaves.specs.Chain.{Linked}
use Rattle.tree_slots.specs.Slots.{put_leaf}
use Rattle.tree_leaves.specs.Leaf.{side}
use Rattle.tree_slots.specs.Trees.{lead, LeafIn, InternalIn, NodeIn, Rises, EachSlot, Once, in_cells}

-- ---- trees in slots, whatever their chains

-- the slots hold the tree; of a leaf's chain only the first is there
abbrev pub Stored : List ℕ → Tree ℕ → Type 0
Stored m none = Unit {0}
Stored m (leaf s is) = LeafIn m s is
Stored m (node s t0 t1 t2 t3) = NodeIn m s t0 t1 t2 t3 × Stored m t0 × Stored m t1 × Stored m t2 × Stored m t3

-- The slots hold the tree of these points in the extent of q. No level lies below the deepest; there may be none that deep, after a removal.
pub record Holds (at : List Float) (is m : List ℕ) (q : Quadtree) : Type 0 where
  pub tree : Tree ℕ
  pub root : q.root ≡ lead tree
  pub stored : Stored m tree
  pub cells : in_cells q.extent tree ≡ tree_in at q.extent is
  pub deepest : depth tree ≤ q.deepest + 1
  pub shallow : q.deepest ≤ greatest_level
  pub count : nodes tree ≡ q.nodes
  pub below : EachSlot (λ s. s < q.nodes) tree
  pub once : Once tree
  pub room : q.nodes * slot_words ≤ length m

-- one of four, by its number
abbrev pub pick : {A : Type 0} → A → A → A → A → ℕ → A
pick a b c d zero = a
pick a b c d (suc zero) = b
pick a b c d (suc (suc zero)) = c
pick a b c d (suc (suc (suc q))) = d

-- ---- the way of a point down a tree

module _ (at : List Float) (p : ℕ) where
  -- n levels below the tree t of the cell c, the way of p comes to the tree u of the cell d
  abbrev pub Reaches : ℕ → Extent → Tree ℕ → Extent → Tree ℕ → Type 0
  Reaches zero c t d u = (c ≡ d) × (t ≡ u)
  Reaches (suc n) c none d u = ⊥
  Reaches (suc n) c (leaf s is) d u = ⊥
  Reaches (suc n) c (node s t0 t1 t2 t3) d u = Reaches n (quarter (side at p c) c) (pick t0 t1 t2 t3 (side at p c)) d u

-- ---- what is asked and answered

-- the coordinates of the first n particles are within 2 ^ 40 of zero
abbrev pub Ranged : List Float → ℕ → Type 0
Ranged at n = (i : ℕ) → i < n → (within (x_at at i) ≡ true) × (within (y_at at i) ≡ true)

-- a tree of some of the particles before p, in ascending order, and the place of p
pub record Seeks (at : List Float) (is m : List ℕ) (q : Quadtree) (p : ℕ) : Type 0 where
  pub holds : Holds at is m q
  pub rises : Rises 0 is
  pub earlier : (i : ℕ) → In i is → i < p
  pub ranged : Ranged at (p + 1)
  pub few : p < most_particles
  pub read : p * 2 + 2 ≤ length at

-- and the chains of those particles, with room for p
pub record Puts (at : List Float) (is m next tail : List ℕ) (q : Quadtree) (p : ℕ) : Type 0 where
  pub seeks : Seeks at is m q p
  pub linked : Linked at is next tail
  pub in_next : p < length next
  pub in_tail : p < length tail

-- p is a chain of its own
abbrev pub Alone : List ℕ → List ℕ → ℕ → Type 0
Alone next tail p = (get_or next p 0 ≡ 0) × (get_or tail p 0 ≡ p)

-- the way of p ends at the leaf in slot s of level l, whose first particle is f and whose cell is c
pub record FoundLeaf (at : List Float) (is m : List ℕ) (q : Quadtree) (p s l f : ℕ) (c : Extent) : Type 0 where
  pub holds : Holds at is m q
  pub rest : List ℕ
  pub reached : Reaches at p l q.extent holds.tree c (leaf s (f ∷ rest))

-- it ends at the internal node in slot s of level l, which has no child in the quadrant k of p
pub record FoundHole (at : List Float) (is m : List ℕ) (q : Quadtree) (p s k l : ℕ) : Type 0 where
  pub holds : Holds at is m q
  pub cell : Extent
  pub t0 : Tree ℕ
  pub t1 : Tree ℕ
  pub t2 : Tree ℕ
  pub t3 : Tree ℕ
  pub reached : Reaches at p l q.extent holds.tree cell (node s t0 t1 t2 t3)
  pub quadrant : k ≡ side at p cell
  pub empty : pick t0 t1 t2 t3 k ≡ none

abbrev pub Found : List Float → List ℕ → List ℕ → Quadtree → ℕ → Stop → Type 0
Found at is m q p (Leaf s l f c) = FoundLeaf at is m q p s l f c
Found at is m q p (Hole s k l) = FoundHole at is m q p s k l

-- n nodes more, one of level l
abbrev pub with_more : Quadtree → ℕ → ℕ → Quadtree
with_more q n l = record { extent = q.extent; root = q.root; nodes = q.nodes + n; deepest = max q.deepest l }

-- What each answer to inserting p is: the tree, or the reason's number with p as its place.
abbrev pub insert_outcome : ℕ → Result Quadtree Reason → Outcome Quadtree
insert_outcome p (Ok q) = done q
insert_outcome p (Err reason) = refused (refusal (number_of reason) p)

-- what the rules refuse of the tree with p in the extent c, in the slots m
abbrev pub more_check : List Float → List ℕ → List ℕ → Extent → ℕ → Check
more_check at is m c p = fits_check (slots_of m) p (tree_in at c (is ++ (p ∷ [])))

-- It is refused as the rules refuse it; otherwise the slots hold the tree with p in the extent c.
abbrev pub Grown : List Float → List ℕ → List ℕ → Extent → ℕ → Result Quadtree Reason → Type 0
Grown at is m c p r = DoneUnless (more_check at is m c p) (λ q. Holds at (is ++ (p ∷ [])) m q × (q.extent ≡ c)) (insert_outcome p r)

-- and its chains are linked
abbrev pub Placed : List Float → List ℕ → List ℕ → List ℕ → List ℕ → Extent → ℕ → Result Quadtree Reason → Type 0
Placed at is m next tail c p r = DoneUnless (more_check at is m c p) (λ q. Holds at (is ++ (p ∷ [])) m q × (q.extent ≡ c) × Linked at (is ++ (p ∷ [])) next tail) (insert_outcome p r)

-- p is covered from the extent of q, in which all particles before it lie
pub record Covers (at : List Float) (q : Quadtree) (c : Covered) (p : ℕ) : Type 0 where
  pub near : Near q.extent (x_at at p) (y_at at p)
  pub covered : CoveredTo q.extent (floor (x_at at p)) (floor (y_at at p)) c
  pub inside : (i : ℕ) → i < p → Inside at q.extent i

-- what an insertion asks: with a root there, p is covered from its extent
pub record Inserts (at : List Float) (is m next tail : List ℕ) (q : Quadtree) (c : Covered) (p : ℕ) : Type 0 where
  pub puts : Puts at is m next tail q p
  pub covers : 0 < q.root → Covers at q c p

-- An internal root that is to be wrapped n times, once for each doubling towards p that leads to the extent `to`.
pub record Wraps (at : List Float) (is m : List ℕ) (q : Quadtree) (to : Extent) (p n : ℕ) : Type 0 where
  pub holds : Holds at is m q
  pub rooted : 0 < q.root
  pub internal : InternalIn m (q.root - 1)
  pub near : Near q.extent (x_at at p) (y_at at p)
  pub ranged : (i : ℕ) → In i is → (within (x_at at i) ≡ true) × (within (y_at at i) ≡ true)
  pub inside : (i : ℕ) → In i is → Inside at q.extent i
  pub grows : Grows (floor (x_at at p)) (floor (y_at at p)) n (square_of q.extent) (square_of to)
  pub end : Reachable to
  pub levels : q.deepest + n ≤ greatest_level
  pub room : (q.nodes + n) * slot_words ≤ length m
  pub small : q.nodes + n < 2 ^ 32
  pub read : p * 2 + 2 ≤ length at

-- the same points in the extent `to`
pub record Wrapped (at : List Float) (is m : List ℕ) (to : Extent) (r : Quadtree) : Type 0 where
  pub holds : Holds at is m r
  pub extent : r.extent ≡ to
  pub rooted : 0 < r.root

-- or what the rules refuse of the tree with p
abbrev pub Enlarged : List Float → List ℕ → List ℕ → Extent → ℕ → Result Quadtree Reason → Type 0
Enlarged at is m c p r = DoneOr (Wrapped at is m c) (λ z. more_check at is m c p ≡ refused z) (insert_outcome p r)

-- the first leaf, which is the whole tree, or what the rules refuse of it
abbrev pub Planted : List ℕ → List ℕ → Extent → ℕ → Result Quadtree Reason → Type 0
Planted m w c p r =
    DoneUnless (fits_check (slots_of w) p (leaf c (p ∷ []))) (λ q. (w ≡ put_leaf m 0 p) × (q ≡ record { extent = c; root = 1; nodes = 1; deepest = 0 })) (insert_outcome p r)
