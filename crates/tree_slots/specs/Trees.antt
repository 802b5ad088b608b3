-- How a tree lies in the lent slots. Definitions only.
use Rattle.std.specs.Prelude.{◌≡◌, List, [], ◌∷◌, ℕ, ◌+◌, ◌*◌, ◌≤◌, ◌<◌, length, get_or, Float}
use Rattle.rules.specs.declared.Extent.{Extent}
use Rattle.rules.specs.Cell.{quarter}
use Rattle.rules.specs.Tree.{Tree, none, leaf, node, nodes, depth, tree_of, greatest_level}
use Rattle.rules.specs.Calls.{slot_words}
use Rattle.tree_slots.specs.declared.Quadtree.{Quadtree}
-- the words of a slot, for those who read a tree
unfoldable pub use Rattle.tree_slots.specs.Slots.{word, put_value}
pub use Rattle.tree_slots.specs.Slots.{kid, kids, value, InSlots}

-- ---- chains

-- following the links from the first of a chain gives it whole: 0 for the end, j + 1 for the particle j
abbrev pub Follows : List ℕ → List ℕ → Type 0
Follows next [] = ⊥
Follows next (i ∷ []) = get_or next i 0 ≡ 0
Follows next (i ∷ j ∷ is) = (get_or next i 0 ≡ j + 1) × Follows next (j ∷ is)

-- following the links from the number l gives these particles and the end: 0 for the end, i + 1 for the particle i
abbrev pub Trails : List ℕ → ℕ → List ℕ → Type 0
Trails next l [] = l ≡ 0
Trails next l (i ∷ is) = (l ≡ i + 1) × Trails next (get_or next i 0) is

-- in ascending order, from lo on
abbrev pub Rises : ℕ → List ℕ → Type 0
Rises lo [] = Unit {0}
Rises lo (i ∷ is) = (lo ≤ i) × Rises (i + 1) is

-- the last member, d where there is none
abbrev pub last_or : ℕ → List ℕ → ℕ
last_or d [] = d
last_or d (i ∷ is) = last_or i is

abbrev pub first : List ℕ → ℕ
first [] = 0
first (i ∷ is) = i

-- the chain that begins with the particle f
pub record ChainFrom (next : List ℕ) (P : List ℕ → Type 0) (f : ℕ) : Type 0 where
  pub members : List ℕ
  pub follows : Follows next members
  pub starts : first members ≡ f
  pub good : P members

-- each number of a list is below n
abbrev pub Below : ℕ → List ℕ → Type 0
Below n [] = Unit {0}
Below n (i ∷ is) = (i < n) × Below n is

-- ---- what a slot holds

-- the number that leads to a tree
abbrev pub lead : Tree ℕ → ℕ
lead none = 0
lead (leaf s is) = s + 1
lead (node s t0 t1 t2 t3) = s + 1

-- slot s holds a leaf of these particles
pub record LeafIn (m : List ℕ) (s : ℕ) (is : List ℕ) : Type 0 where
  pub tag : word m s 0 ≡ first is + 1

-- slot s holds an internal node
abbrev pub InternalIn : List ℕ → ℕ → Type 0
InternalIn m s = word m s 0 ≡ 0

-- whose children are these trees
pub record NodeIn (m : List ℕ) (s : ℕ) (t0 t1 t2 t3 : Tree ℕ) : Type 0 where
  pub tag : InternalIn m s
  pub kids : kids m s ≡ lead t0 ∷ lead t1 ∷ lead t2 ∷ lead t3 ∷ []

-- ---- what the slots hold

-- the number p leads to the tree t
abbrev pub Leads : List ℕ → List ℕ → ℕ → Tree ℕ → Type 0
Leads m next p none = p ≡ 0
Leads m next p (leaf s is) = (p ≡ s + 1) × LeafIn m s is × Follows next is
Leads m next p (node s t0 t1 t2 t3) =
    (p ≡ s + 1) × NodeIn m s t0 t1 t2 t3
    × Leads m next (kid m s 0) t0 × Leads m next (kid m s 1) t1 × Leads m next (kid m s 2) t2 × Leads m next (kid m s 3) t3

-- ---- trees whose nodes bear the numbers of their slots

-- each slot of the tree satisfies P
abbrev pub EachSlot : (ℕ → Type 0) → Tree ℕ → Type 0
EachSlot P none = Unit {0}
EachSlot P (leaf s is) = P s
EachSlot P (node s t0 t1 t2 t3) = P s × EachSlot P t0 × EachSlot P t1 × EachSlot P t2 × EachSlot P t3

-- each slot is lent
abbrev pub SlotsLent : List ℕ → Tree ℕ → Type 0
SlotsLent m t = EachSlot (λ s. InSlots s m) t

-- no slot of t is one of u
abbrev pub Apart : Tree ℕ → Tree ℕ → Type 0
Apart t u = EachSlot (λ i. EachSlot (λ j. j ≡ i → ⊥) u) t

-- no slot stands twice
abbrev pub Once : Tree ℕ → Type 0
Once none = Unit {0}
Once (leaf s is) = Unit {0}
Once (node s t0 t1 t2 t3) =
    EachSlot (λ j. j ≡ s → ⊥) t0 × EachSlot (λ j. j ≡ s → ⊥) t1 × EachSlot (λ j. j ≡ s → ⊥) t2 × EachSlot (λ j. j ≡ s → ⊥) t3
    × Apart t0 t1 × Apart t0 t2 × Apart t0 t3 × Apart t1 t2 × Apart t1 t3 × Apart t2 t3
    × Once t0 × Once t1 × Once t2 × Once t3

-- the same tree with each node's cell for its slot
abbrev pub in_cells : Extent → Tree ℕ → Tree Extent
in_cells c none = none
in_cells c (leaf s is) = leaf c is
in_cells c (node s t0 t1 t2 t3) =
    node c (in_cells (quarter 0 c) t0) (in_cells (quarter 1 c) t1) (in_cells (quarter 2 c) t2) (in_cells (quarter 3 c) t3)

-- the slots hold the tree t
pub record Lays (t : Tree Extent) (m next : List ℕ) (q : Quadtree) : Type 0 where
  pub tree : Tree ℕ
  pub leads : Leads m next q.root tree
  pub is : in_cells q.extent tree ≡ t
  pub levels : depth tree ≤ greatest_level + 1
  pub count : nodes tree ≡ q.nodes
  pub below : EachSlot (λ s. s < q.nodes) tree
  pub once : Once tree
  pub room : q.nodes * slot_words ≤ length m

-- the slots hold the tree of the first n points
abbrev pub Stands : List Float → ℕ → List ℕ → List ℕ → Quadtree → Type 0
Stands at n m next q = Lays (tree_of at n) m next q
