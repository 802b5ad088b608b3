-- Another subtree where a point's way has come to: laws that ask of the slots only what is told of them, whatever their order.
use mathlib.Core.Path.{◌≡◌, sym, ap, subst}
use mathlib.Core.List.{List}
use Prim.Native.Nat.{ℕ, zero, suc, ◌+◌, ◌≤◌, ◌<◌}
use native.Mathlib.Omega.{arith}
use lib.Ieee.{Float}
use Rattle.rules.specs.declared.Extent.{Extent}
use Rattle.rules.specs.Cell.{quarter}
use Rattle.rules.specs.Tree.{Tree, none, leaf, node, depth, nodes}
use Rattle.rules.proofs.CellCount.{leaves, Fruitful}
use Rattle.rules.proofs.CellChain.{EachLeaf}
use Rattle.tree_slots.specs.Trees.{first}
use Rattle.tree_leaves.specs.Leaf.{side}
use Rattle.tree_placing.specs.Add.{pick, Reaches}
use Rattle.tree_placing.proofs.SlotsTree.{over, upd, pick_all, leaf_child, upd-below}
use Rattle.tree_placing.proofs.AddWay.{side_lt, reach-leaf, plug}
use Rattle.tree_removing.specs.Remove.{Lie, OnWay}

-- what holds of the chains of u holds of those of v
abbrev pub Relink : Tree ℕ → Tree ℕ → Type 1
Relink u v = (Q : List ℕ → Type 0) → EachLeaf (λ _. Q) u → EachLeaf (λ _. Q) v

-- ---- four children by their numbers

pub leaf_over : (Q : List ℕ → Type 0) (s : ℕ) (k : ℕ → Tree ℕ) → ((r : ℕ) → r < 4 → EachLeaf (λ _. Q) (k r)) → EachLeaf (λ _. Q) (over s k)
leaf_over Q s k h = (h 0 (omega arith), h 1 (omega arith), h 2 (omega arith), h 3 (omega arith))

pub fruit_child : (s : ℕ) (t0 t1 t2 t3 : Tree ℕ) → Fruitful (node s t0 t1 t2 t3) → (r : ℕ) → Fruitful (pick t0 t1 t2 t3 r)
fruit_child s t0 t1 t2 t3 h = pick_all t0 t1 t2 t3 Fruitful h.1 h.2 h.3 h.4

pub fruit-over : (s : ℕ) (k : ℕ → Tree ℕ) → 0 < leaves (over s k) → ((r : ℕ) → r < 4 → Fruitful (k r)) → Fruitful (over s k)
fruit-over s k l h = (l, h 0 (omega arith), h 1 (omega arith), h 2 (omega arith), h 3 (omega arith))

pub leaves-upd : (s : ℕ) (k : ℕ → Tree ℕ) (q : ℕ) (t : Tree ℕ) → q < 4 → leaves (over s (upd k q t)) + leaves (k q) ≡ leaves (over s k) + leaves t
leaves-upd s k zero t l = omega arith
leaves-upd s k (suc zero) t l = omega arith
leaves-upd s k (suc (suc zero)) t l = omega arith
leaves-upd s k (suc (suc (suc zero))) t l = omega arith
leaves-upd s k (suc (suc (suc (suc q)))) t l = absurd (omega arith)

leaves_child : (s : ℕ) (k : ℕ → Tree ℕ) (q : ℕ) → q < 4 → leaves (k q) ≤ leaves (over s k)
leaves_child s k zero l = omega arith
leaves_child s k (suc zero) l = omega arith
leaves_child s k (suc (suc zero)) l = omega arith
leaves_child s k (suc (suc (suc zero))) l = omega arith
leaves_child s k (suc (suc (suc (suc q)))) l = absurd (omega arith)

pub nodes_child : (s : ℕ) (k : ℕ → Tree ℕ) (q : ℕ) → q < 4 → nodes (k q) < nodes (over s k)
nodes_child s k zero l = omega arith
nodes_child s k (suc zero) l = omega arith
nodes_child s k (suc (suc zero)) l = omega arith
nodes_child s k (suc (suc (suc zero))) l = omega arith
nodes_child s k (suc (suc (suc (suc q)))) l = absurd (omega arith)

pub depth-less : (s : ℕ) (k : ℕ → Tree ℕ) (q : ℕ) (t : Tree ℕ) → q < 4 → depth t ≤ depth (k q) → depth (over s (upd k q t)) ≤ depth (over s k)
depth-less s k zero t l h = omega arith
depth-less s k (suc zero) t l h = omega arith
depth-less s k (suc (suc zero)) t l h = omega arith
depth-less s k (suc (suc (suc zero))) t l h = omega arith
depth-less s k (suc (suc (suc (suc q)))) t l h = absurd (omega arith)

module _ (at : List Float) where
  -- the children of a cell, each in its quarter
  pub way_child : (c : Extent) (s : ℕ) (t0 t1 t2 t3 : Tree ℕ) → OnWay at c (node s t0 t1 t2 t3) → (r : ℕ) → r < 4 → Lie at c r (pick t0 t1 t2 t3 r) × OnWay at (quarter r c) (pick t0 t1 t2 t3 r)
  way_child c s t0 t1 t2 t3 h zero l = h.0
  way_child c s t0 t1 t2 t3 h (suc zero) l = h.1
  way_child c s t0 t1 t2 t3 h (suc (suc zero)) l = h.2
  way_child c s t0 t1 t2 t3 h (suc (suc (suc zero))) l = h.3
  way_child c s t0 t1 t2 t3 h (suc (suc (suc (suc r)))) l = absurd (omega arith)

  pub way-over : (c : Extent) (s : ℕ) (k : ℕ → Tree ℕ) → ((r : ℕ) → r < 4 → Lie at c r (k r) × OnWay at (quarter r c) (k r)) → OnWay at c (over s k)
  way-over c s k h = (h 0 (omega arith), h 1 (omega arith), h 2 (omega arith), h 3 (omega arith))

  module _ (p : ℕ) where
    -- ---- what is reached

    pub reach-ways : (n : ℕ) (c : Extent) (t : Tree ℕ) (d : Extent) (u : Tree ℕ) → Reaches at p n c t d u → OnWay at c t → OnWay at d u
    reach-ways zero c t d u r h = subst (λ (d : Extent). OnWay at d u) r.0 (subst (OnWay at c) r.1 h)
    reach-ways (suc n) c none d u r h = absurd r
    reach-ways (suc n) c (leaf s is) d u r h = absurd r
    reach-ways (suc n) c (node s t0 t1 t2 t3) d u r h = let q = side at p c in reach-ways n (quarter q c) (pick t0 t1 t2 t3 q) d u r (way_child c s t0 t1 t2 t3 h q (side_lt at p c)).1

    pub reach-nodes : (n : ℕ) (c : Extent) (t : Tree ℕ) (d : Extent) (u : Tree ℕ) → Reaches at p n c t d u → nodes u ≤ nodes t
    reach-nodes zero c t d u r = omega (arith, ap nodes r.1)
    reach-nodes (suc n) c none d u r = absurd r
    reach-nodes (suc n) c (leaf s is) d u r = absurd r
    reach-nodes (suc n) c (node s t0 t1 t2 t3) d u r =
        let q = side at p c in
        omega (arith, nodes_child s (pick t0 t1 t2 t3) q (side_lt at p c), reach-nodes n (quarter q c) (pick t0 t1 t2 t3 q) d u r)

    -- ---- another subtree in its place

    pub plug-less : (n : ℕ) (c : Extent) (t : Tree ℕ) (d : Extent) (u v : Tree ℕ) → Reaches at p n c t d u → depth v ≤ depth u → depth (plug at p n c t v) ≤ depth t
    plug-less zero c t d u v r h = omega (arith, ap depth r.1)
    plug-less (suc n) c none d u v r h = absurd r
    plug-less (suc n) c (leaf s is) d u v r h = absurd r
    plug-less (suc n) c (node s t0 t1 t2 t3) d u v r h =
        let q = side at p c in
        depth-less s (pick t0 t1 t2 t3) q (plug at p n (quarter q c) (pick t0 t1 t2 t3 q) v) (side_lt at p c) (plug-less n (quarter q c) (pick t0 t1 t2 t3 q) d u v r h)

    pub plug-fruit : (n : ℕ) (c : Extent) (t : Tree ℕ) (d : Extent) (u v : Tree ℕ) → Reaches at p n c t d u → Fruitful v → 0 < leaves v → Fruitful t → Fruitful (plug at p n c t v) × (0 < leaves (plug at p n c t v))
    plug-fruit zero c t d u v r f l h = (f, l)
    plug-fruit (suc n) c none d u v r f l h = absurd r
    plug-fruit (suc n) c (leaf s is) d u v r f l h = absurd r
    plug-fruit (suc n) c (node s t0 t1 t2 t3) d u v r f l h =
        let q : ℕ = side at p c in
        let k : ℕ → Tree ℕ = pick t0 t1 t2 t3 in
        let w : Tree ℕ = plug at p n (quarter q c) (k q) v in
        let rest = plug-fruit n (quarter q c) (k q) d u v r f l (fruit_child s t0 t1 t2 t3 h q) in
        let some : 0 < leaves (over s (upd k q w)) = omega (arith, leaves-upd s k q w (side_lt at p c), leaves_child s k q (side_lt at p c), rest.1) in
        (fruit-over s (upd k q w) some (upd-below (λ r u. Fruitful u) k q w rest.0 (λ r l ne. fruit_child s t0 t1 t2 t3 h r)), some)

    pub plug-leaf : (Q : List ℕ → Type 0) (n : ℕ) (c : Extent) (t v : Tree ℕ) → EachLeaf (λ _. Q) t → EachLeaf (λ _. Q) v → EachLeaf (λ _. Q) (plug at p n c t v)
    plug-leaf Q zero c t v h g = g
    plug-leaf Q (suc n) c none v h g = tt
    plug-leaf Q (suc n) c (leaf s is) v h g = h
    plug-leaf Q (suc n) c (node s t0 t1 t2 t3) v h g =
        let q = side at p c in
        let w = plug at p n (quarter q c) (pick t0 t1 t2 t3 q) v in
        leaf_over Q s (upd (pick t0 t1 t2 t3) q w)
        (upd-below (λ r u. EachLeaf (λ _. Q) u) (pick t0 t1 t2 t3) q w (plug-leaf Q n (quarter q c) (pick t0 t1 t2 t3 q) v (leaf_child t0 t1 t2 t3 s Q h q) g) (λ r l ne. leaf_child t0 t1 t2 t3 s Q h r))

    pub plug-ways : (n : ℕ) (c : Extent) (t : Tree ℕ) (d : Extent) (u v : Tree ℕ) → Reaches at p n c t d u → Relink u v → OnWay at d v → OnWay at c t → OnWay at c (plug at p n c t v)
    plug-ways zero c t d u v r f g h = subst (λ (d : Extent). OnWay at d v) (sym r.0) g
    plug-ways (suc n) c none d u v r f g h = absurd r
    plug-ways (suc n) c (leaf s is) d u v r f g h = absurd r
    plug-ways (suc n) c (node s t0 t1 t2 t3) d u v r f g h =
        let q : ℕ = side at p c in
        let k : ℕ → Tree ℕ = pick t0 t1 t2 t3 in
        let w : Tree ℕ = plug at p n (quarter q c) (k q) v in
        let own = way_child c s t0 t1 t2 t3 h in
        way-over c s (upd k q w)
        (upd-below (λ r u. Lie at c r u × OnWay at (quarter r c) u) k q w (
          plug-leaf (λ js. side at (first js) c ≡ q) n (quarter q c) (k q) v (own q (side_lt at p c)).0 (f (λ js. side at (first js) c ≡ q) (reach-leaf at p n (quarter q c) (k q) d u r (λ js. side at (first js) c ≡ q) (own q (side_lt at p c)).0)),
          plug-ways n (quarter q c) (k q) d u v r f g (own q (side_lt at p c)).1,
        ) (λ r l ne. own r l))
