-- The path of a walk parent last, and what is still to be handed out from it. Definitions only.
use Rattle.std.specs.Prelude.{◌≡◌, List, [], ◌∷◌, ◌++◌, ℕ, zero, suc, ◌+◌, ◌≤◌, length, Float}
use Rattle.rules.specs.Tree.{Tree, none, leaf, node, depth, tree_of, greatest_level}
use Rattle.rules.specs.Walk.{Entry, internal, tip, valued, parent_last}
use Rattle.tree_slots.specs.declared.Quadtree.{Quadtree}
pub use Rattle.tree_walk.specs.declared.parent_last.Step.{Step}
use Rattle.tree_slots.specs.Trees.{kid, LeafIn, InternalIn, Follows, Leads, Stands, InSlots, SlotsLent}
use Rattle.tree_walk.specs.Walk.{seen}

-- ---- the path

-- a path has no more steps than a tree has levels
abbrev pub most_steps : ℕ
most_steps = greatest_level + 1

-- the slot s of the path, where the quadrant q is next
abbrev pub standing : ℕ → ℕ → Step
standing s q = record { slot = s; quadrant = q }

-- the slot that a number leads to, with all its quadrants to come: none for 0
abbrev pub rooted : ℕ → List Step
rooted zero = []
rooted (suc s) = standing s 0 ∷ []

-- ---- what is still to be handed out

-- of a tree whose children before the quadrant q are done: its other children, and itself
abbrev pub remaining : ℕ → Tree ℕ → List (Entry ℕ)
remaining q none = []
remaining q (leaf s is) = tip s is ∷ []
remaining zero (node s t0 t1 t2 t3) = parent_last t0 ++ (parent_last t1 ++ (parent_last t2 ++ (parent_last t3 ++ (internal s ∷ []))))
remaining (suc zero) (node s t0 t1 t2 t3) = parent_last t1 ++ (parent_last t2 ++ (parent_last t3 ++ (internal s ∷ [])))
remaining (suc (suc zero)) (node s t0 t1 t2 t3) = parent_last t2 ++ (parent_last t3 ++ (internal s ∷ []))
remaining (suc (suc (suc zero))) (node s t0 t1 t2 t3) = parent_last t3 ++ (internal s ∷ [])
remaining (suc (suc (suc (suc q)))) (node s t0 t1 t2 t3) = internal s ∷ []

-- of the trees of a path
abbrev pub remaining_all : List Step → List (Tree ℕ) → List (Entry ℕ)
remaining_all [] ts = []
remaining_all (e ∷ es) [] = []
remaining_all (e ∷ es) (t ∷ ts) = remaining e.quadrant t ++ remaining_all es ts

-- A path stands for trees, each so low that what lies below it finds room.
abbrev pub Steps : List ℕ → List ℕ → List Step → List (Tree ℕ) → Type 0
Steps m next [] [] = Unit {0}
Steps m next [] (t ∷ ts) = ⊥
Steps m next (e ∷ es) [] = ⊥
Steps m next (e ∷ es) (t ∷ ts) =
    Leads m next (e.slot + 1) t × SlotsLent m t × (length es + depth t ≤ greatest_level + 1) × (e.quadrant ≤ 4) × Steps m next es ts

-- along the path es, these entries are still to be handed out, in this order
pub record Climbs (m next : List ℕ) (es : List Step) (rest : List (Entry ℕ)) : Type 0 where
  pub trees : List (Tree ℕ)
  pub steps : Steps m next es trees
  pub same : remaining_all es trees ≡ rest

-- the slot that a number leads to is lent
abbrev pub KidIn : List ℕ → ℕ → Type 0
KidIn m zero = Unit {0}
KidIn m (suc s) = InSlots s m

abbrev pub KidsIn : List ℕ → ℕ → Type 0
KidsIn m s = KidIn m (kid m s 0) × KidIn m (kid m s 1) × KidIn m (kid m s 2) × KidIn m (kid m s 3)

-- an entry is what stands at a slot
abbrev pub EntryAt : List ℕ → List ℕ → ℕ → Entry ℕ → Type 0
EntryAt m next s (internal i) = (i ≡ s) × InternalIn m s × KidsIn m s
EntryAt m next s (tip i is) = (i ≡ s) × LeafIn m s is × Follows next is

-- ---- values are laid, children first

-- P holds of each chain that is handed out
abbrev pub EachTip : (List ℕ → Type 0) → List (Entry ℕ) → Type 0
EachTip P [] = Unit {0}
EachTip P (internal s ∷ es) = EachTip P es
EachTip P (tip s is ∷ es) = P is × EachTip P es

-- the values of the children of a slot that are there, in order
abbrev pub values_at : {B : Type 0} → (List ℕ → ℕ → B) → List ℕ → ℕ → List B
values_at read m zero = []
values_at read m (suc s) = read m s ∷ []

unfoldable pub kid_values : {B : Type 0} → (List ℕ → ℕ → B) → List ℕ → ℕ → List B
kid_values read m s = values_at read m (kid m s 0) ++ values_at read m (kid m s 1) ++ values_at read m (kid m s 2) ++ values_at read m (kid m s 3)

-- the slots hold the tree of the first n points, and what is read at each node is the rules' value: `of_leaf` of its chain, or `of_node` of its children's values
pub record Valued {B : Type 0} (read : List ℕ → ℕ → B) (of_leaf : List ℕ → B) (of_node : List B → B) (at : List Float) (n : ℕ) (m next : List ℕ) (q : Quadtree) : Type 0 where
  pub stands : Stands at n m next q
  pub values : seen (λ s c. (c, read m s)) q.extent stands.tree ≡ valued of_leaf of_node (tree_of at n)
