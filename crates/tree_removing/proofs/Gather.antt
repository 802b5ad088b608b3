-- Gathering along a point's way: what it does where the way has come to, it does in the whole.
use mathlib.Core.Path.{◌≡◌, refl, sym, ◌∙◌, subst}
use mathlib.Core.Bool.{Bool, true, false}
use mathlib.Core.List.{List}
use Prim.Native.Nat.{ℕ, zero, suc, ◌≤◌}
use native.Mathlib.Omega.{arith}
use lib.Dec.{eqb}
use lib.Ieee.{Float}
use borrow.Author.Tests.{eqb-true}
use Rattle.rules.specs.declared.Extent.{Extent}
use Rattle.rules.specs.Plain.{branch}
use Rattle.rules.specs.Cell.{quarter}
use Rattle.rules.specs.Tree.{Tree, none, leaf, node, nodes, in_quarter}
use Rattle.rules.proofs.CellWithout.{joined, without, joined_node, without-node}
use Rattle.tree_slots.specs.Trees.{in_cells}
use Rattle.tree_slots.proofs.Trees.{cells_nodes}
use Rattle.tree_leaves.specs.Leaf.{side}
use Rattle.tree_placing.specs.Add.{pick, Reaches}
use Rattle.tree_placing.proofs.SlotsTree.{upd}
use Rattle.tree_placing.proofs.AddWay.{side_lt, plug}
use Rattle.tree_removing.specs.Remove.{gather}
use Rattle.tree_removing.proofs.Plug.{nodes_child, reach-nodes}

module _ (at : List Float) (i : ℕ) where
  -- what is done to a cell is done to its quarter that has i, and the cell is then joined
  abbrev pub Downward : (Extent → Tree Extent → Tree Extent) → Type 0
  Downward F = (c a : Extent) (t0 t1 t2 t3 : Tree Extent) → F c (node a t0 t1 t2 t3)
      ≡ joined a (branch (in_quarter at c 0 i) (λ _. F (quarter 0 c) t0) (λ _. t0)) (branch (in_quarter at c 1 i) (λ _. F (quarter 1 c) t1) (λ _. t1))
      (branch (in_quarter at c 2 i) (λ _. F (quarter 2 c) t2) (λ _. t2)) (branch (in_quarter at c 3 i) (λ _. F (quarter 3 c) t3) (λ _. t3))

  pub gather-down : Downward (gather at i)
  unfolding gather
  gather-down c a t0 t1 t2 t3 = refl

  pub gather_leaf : (c a : Extent) (js : List ℕ) → gather at i c (leaf a js) ≡ leaf a js
  unfolding gather
  gather_leaf c a js = refl

  pub gather_none : (c : Extent) → gather at {A = Extent} i c none ≡ none
  unfolding gather
  gather_none c = refl

  pub without-down : Downward (without at i)
  without-down c a t0 t1 t2 t3 = without-node at i c a t0 t1 t2 t3

  module _ (F G : Extent → Tree Extent → Tree Extent) (f : Downward F) (g : Downward G) where
    child : (c : Extent) (k : ℕ → Tree ℕ) (w : Tree ℕ) → F (quarter (side at i c) c) (in_cells (quarter (side at i c) c) w) ≡ G (quarter (side at i c) c) (in_cells (quarter (side at i c) c) (k (side at i c)))
        → (r : ℕ) → branch (in_quarter at c r i) (λ _. F (quarter r c) (in_cells (quarter r c) (upd k (side at i c) w r))) (λ _. in_cells (quarter r c) (upd k (side at i c) w r))
        ≡ branch (in_quarter at c r i) (λ _. G (quarter r c) (in_cells (quarter r c) (k r))) (λ _. in_cells (quarter r c) (k r))
    unfolding in_quarter
    child c k w e r = go (eqb r (side at i c)) refl
      where
        go : (b : Bool) → eqb r (side at i c) ≡ b
            → branch b (λ _. F (quarter r c) (in_cells (quarter r c) (branch b (λ _. w) (λ _. k r)))) (λ _. in_cells (quarter r c) (branch b (λ _. w) (λ _. k r)))
            ≡ branch b (λ _. G (quarter r c) (in_cells (quarter r c) (k r))) (λ _. in_cells (quarter r c) (k r))
        go true z = subst (λ (j : ℕ). F (quarter j c) (in_cells (quarter j c) w) ≡ G (quarter j c) (in_cells (quarter j c) (k j))) (sym (eqb-true r (side at i c) z)) e
        go false z = refl

    pub plug-down : (n : ℕ) (c : Extent) (t : Tree ℕ) (d : Extent) (u v : Tree ℕ) → Reaches at i n c t d u → F d (in_cells d v) ≡ G d (in_cells d u) → F c (in_cells c (plug at i n c t v)) ≡ G c (in_cells c t)
    plug-down zero c t d u v r e =
        subst (λ (c : Extent). F c (in_cells c v) ≡ G c (in_cells c t)) (sym r.0) (subst (λ (t : Tree ℕ). F d (in_cells d v) ≡ G d (in_cells d t)) (sym r.1) e)
    plug-down (suc n) c none d u v r e = absurd r
    plug-down (suc n) c (leaf s is) d u v r e = absurd r
    plug-down (suc n) c (node s t0 t1 t2 t3) d u v r e =
        let q : ℕ = side at i c in
        let k : ℕ → Tree ℕ = pick t0 t1 t2 t3 in
        let w : Tree ℕ = plug at i n (quarter q c) (k q) v in
        let at-r = child c k w (plug-down n (quarter q c) (k q) d u v r e) in
        f c c (in_cells (quarter 0 c) (upd k q w 0)) (in_cells (quarter 1 c) (upd k q w 1)) (in_cells (quarter 2 c) (upd k q w 2)) (in_cells (quarter 3 c) (upd k q w 3))
        ∙ rw (at-r 0, at-r 1, at-r 2, at-r 3) (sym (g c c (in_cells (quarter 0 c) t0) (in_cells (quarter 1 c) t1) (in_cells (quarter 2 c) t2) (in_cells (quarter 3 c) t3)))

  one_way : (c : Extent) (k : ℕ → Tree ℕ) → gather at i (quarter (side at i c) c) (in_cells (quarter (side at i c) c) (k (side at i c))) ≡ in_cells (quarter (side at i c) c) (k (side at i c))
      → (r : ℕ) → branch (in_quarter at c r i) (λ _. gather at i (quarter r c) (in_cells (quarter r c) (k r))) (λ _. in_cells (quarter r c) (k r)) ≡ in_cells (quarter r c) (k r)
  unfolding in_quarter
  one_way c k e r = go (eqb r (side at i c)) refl
    where
      go : (b : Bool) → eqb r (side at i c) ≡ b → branch b (λ _. gather at i (quarter r c) (in_cells (quarter r c) (k r))) (λ _. in_cells (quarter r c) (k r)) ≡ in_cells (quarter r c) (k r)
      go true z = subst (λ (j : ℕ). gather at i (quarter j c) (in_cells (quarter j c) (k j)) ≡ in_cells (quarter j c) (k j)) (sym (eqb-true r (side at i c) z)) e
      go false z = refl

  -- a node whose child on the way is gathered
  pub gather_node : (c : Extent) (s : ℕ) (t0 t1 t2 t3 : Tree ℕ) → (let q = side at i c in gather at i (quarter q c) (in_cells (quarter q c) (pick t0 t1 t2 t3 q)) ≡ in_cells (quarter q c) (pick t0 t1 t2 t3 q))
      → gather at i c (in_cells c (node s t0 t1 t2 t3)) ≡ joined c (in_cells (quarter 0 c) t0) (in_cells (quarter 1 c) t1) (in_cells (quarter 2 c) t2) (in_cells (quarter 3 c) t3)
  gather_node c s t0 t1 t2 t3 e =
      gather-down c c (in_cells (quarter 0 c) t0) (in_cells (quarter 1 c) t1) (in_cells (quarter 2 c) t2) (in_cells (quarter 3 c) t3) ∙ rw (own 0, own 1, own 2, own 3)
    where
      own : (r : ℕ) → branch (in_quarter at c r i) (λ _. gather at i (quarter r c) (in_cells (quarter r c) (pick t0 t1 t2 t3 r))) (λ _. in_cells (quarter r c) (pick t0 t1 t2 t3 r)) ≡ in_cells (quarter r c) (pick t0 t1 t2 t3 r)
      own r = one_way c (pick t0 t1 t2 t3) e r

  -- where the way has come to two nodes or more that are gathered, all is
  pub gather-stays : (n : ℕ) (c : Extent) (t : Tree ℕ) (d : Extent) (u : Tree ℕ) → Reaches at i n c t d u → 2 ≤ nodes u → gather at i d (in_cells d u) ≡ in_cells d u → gather at i c (in_cells c t) ≡ in_cells c t
  gather-stays zero c t d u r l e =
      subst (λ (c : Extent). gather at i c (in_cells c t) ≡ in_cells c t) (sym r.0) (subst (λ (t : Tree ℕ). gather at i d (in_cells d t) ≡ in_cells d t) (sym r.1) e)
  gather-stays (suc n) c none d u r l e = absurd r
  gather-stays (suc n) c (leaf s is) d u r l e = absurd r
  gather-stays (suc n) c (node s t0 t1 t2 t3) d u r l e =
      let q : ℕ = side at i c in
      let k : ℕ → Tree ℕ = pick t0 t1 t2 t3 in
      gather_node c s t0 t1 t2 t3 (gather-stays n (quarter q c) (k q) d u r l e)
      ∙ joined_node c (in_cells (quarter 0 c) t0) (in_cells (quarter 1 c) t1) (in_cells (quarter 2 c) t2) (in_cells (quarter 3 c) t3)
      (λ z. omega (arith, reach-nodes at i n (quarter q c) (k q) d u r, nodes_child s k q (side_lt at i c), cells_nodes (quarter 0 c) t0, cells_nodes (quarter 1 c) t1, cells_nodes (quarter 2 c) t2, cells_nodes (quarter 3 c) t3))
