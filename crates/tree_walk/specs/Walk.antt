-- The nodes that wait in a walk, and the tree that is seen from a slot. Definitions only.
use Rattle.std.specs.Prelude.{List, ◌∷◌, ℕ, zero, suc}
use Rattle.rules.specs.declared.Extent.{Extent}
use Rattle.rules.specs.Cell.{quarter}
use Rattle.rules.specs.Tree.{Tree, none, leaf, node}
pub use Rattle.tree_walk.specs.declared.parent_first.Waiting.{Waiting}
use Rattle.tree_slots.specs.Trees.{kid}

-- ---- what waits

abbrev pub waiting : ℕ → Extent → Waiting
waiting s c = record { slot = s; extent = c }

-- never more than this many wait
abbrev pub most_waiting : ℕ
most_waiting = 193

-- ---- children are laid

-- the slot that a number leads to, in its cell, laid on what waits: none for 0
abbrev pub lay : ℕ → Extent → List Waiting → List Waiting
lay zero c es = es
lay (suc s) c es = waiting s c ∷ es

-- the children of a slot with this cell, laid so that child 0 is on top
abbrev pub lay_kids : List ℕ → ℕ → Extent → List Waiting → List Waiting
lay_kids m s c es =
    lay (kid m s 0) (quarter 0 c) (lay (kid m s 1) (quarter 1 c) (lay (kid m s 2) (quarter 2 c) (lay (kid m s 3) (quarter 3 c) es)))

-- ---- what is seen

-- the tree with what is read at each of its slots, whose cell is given
abbrev pub seen : {A : Type 0} → (ℕ → Extent → A) → Extent → Tree ℕ → Tree A
seen look c none = none
seen look c (leaf s is) = leaf (look s c) is
seen look c (node s t0 t1 t2 t3) =
    node (look s c) (seen look (quarter 0 c) t0) (seen look (quarter 1 c) t1) (seen look (quarter 2 c) t2) (seen look (quarter 3 c) t3)

-- P holds of each chain
abbrev pub EachChain : {A : Type 0} → (List ℕ → Type 0) → Tree A → Type 0
EachChain P none = Unit {0}
EachChain P (leaf a is) = P is
EachChain P (node a t0 t1 t2 t3) = EachChain P t0 × EachChain P t1 × EachChain P t2 × EachChain P t3
