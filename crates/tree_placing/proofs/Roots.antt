-- What stands at the root of a tree in slots.
use mathlib.Core.Path.{◌≡◌, refl, ap, ◌∙◌}
use mathlib.Core.List.{List}
use Prim.Native.Nat.{ℕ, ◌-◌, ◌<◌}
use native.Mathlib.Omega.{arith}
use lib.Ieee.{Float}
use Rattle.rules.specs.Tree.{Tree, none, leaf, node}
use Rattle.tree_slots.specs.declared.Quadtree.{Quadtree}
use Rattle.tree_slots.specs.Slots.{word, InSlots}
use Rattle.tree_slots.specs.Trees.{lead, InternalIn}
use Rattle.tree_placing.specs.Add.{Stored, Holds}
use Rattle.tree_placing.proofs.SlotsTree.{lead_le}

-- a root whose word is 0 is internal
pub root_node : (m : List ℕ) (t : Tree ℕ) (r : ℕ) → r ≡ lead t → 0 < r → InternalIn m (r - 1) → Stored m t → (s : ℕ) × (t0 : Tree ℕ) × (t1 : Tree ℕ) × (t2 : Tree ℕ) × (t3 : Tree ℕ) × (t ≡ node s t0 t1 t2 t3)
root_node m none r e l z h = absurd (omega arith)
root_node m (leaf s is) r e l z h = let y : r - 1 ≡ s = omega arith in absurd (omega (arith, h.tag, ap (λ (j : ℕ). word m j 0) y))
root_node m (node s t0 t1 t2 t3) r e l z h = (s, t0, t1, t2, t3, refl)

-- any other is a leaf
pub root_leaf : (m : List ℕ) (t : Tree ℕ) (r : ℕ) → r ≡ lead t → 0 < r → (InternalIn m (r - 1) → ⊥) → Stored m t → (s : ℕ) × (is : List ℕ) × (t ≡ leaf s is)
root_leaf m none r e l z h = absurd (omega arith)
root_leaf m (leaf s is) r e l z h = (s, is, refl)
root_leaf m (node s t0 t1 t2 t3) r e l z h = let y : r - 1 ≡ s = omega arith in absurd (z (ap (λ (j : ℕ). word m j 0) y ∙ h.0.tag))

pub root_slot : (at : List Float) (is m : List ℕ) (q : Quadtree) → Holds at is m q → 0 < q.root → InSlots (q.root - 1) m
root_slot at is m q h l = omega (arith, h.root, lead_le q.nodes h.tree h.below, h.room)
