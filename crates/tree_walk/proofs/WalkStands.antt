-- A walk begins where the slots hold a tree. Assumes nothing.
use mathlib.Core.Path.{◌≡◌, refl, sym, ◌∙◌, subst}
use mathlib.Core.Bool.{Bool, true, false, cond}
use mathlib.Core.List.{List, [], ◌∷◌}
use Prim.Native.Nat.{ℕ, zero, suc, ◌+◌, ◌≤◌, ◌<◌}
use native.Mathlib.Omega.{arith}
use lib.Ieee.{Float}
use Rattle.rules.specs.declared.Extent.{Extent}
use Rattle.rules.specs.Plain.{keep, count_from, up_to, branch}
use Rattle.rules.specs.Cell.{quarter}
use Rattle.rules.specs.Tree.{Tree, none, leaf, node, nodes, in_quarter, points_in, alike, grow, tree_in, tree_of}
use Rattle.tree_slots.specs.declared.Quadtree.{Quadtree}
use Rattle.tree_slots.specs.Trees.{in_cells, Lays, Stands, Below, InSlots}
use Rattle.tree_slots.proofs.Trees.{each_map}
use Rattle.tree_walk.specs.Walk.{seen, EachChain}
use Rattle.tree_walk.proofs.WalkTurns.{Walkable, nodes-seen}

-- ---- cells and chains

-- seen for its cells alone, a tree is that of its cells
pub seen_cells : (c : Extent) (t : Tree ℕ) → seen (λ s c. c) c t ≡ in_cells c t
seen_cells c none = refl
seen_cells c (leaf s is) = refl
seen_cells c (node s t0 t1 t2 t3) = rw (seen_cells (quarter 0 c) t0, seen_cells (quarter 1 c) t1, seen_cells (quarter 2 c) t2, seen_cells (quarter 3 c) t3)

pub chains_cells : (P : List ℕ → Type 0) (c : Extent) (t : Tree ℕ) → EachChain P (in_cells c t) → EachChain P t
chains_cells P c none h = tt
chains_cells P c (leaf s is) h = h
chains_cells P c (node s t0 t1 t2 t3) h =
    (chains_cells P (quarter 0 c) t0 h.0, chains_cells P (quarter 1 c) t1 h.1, chains_cells P (quarter 2 c) t2 h.2, chains_cells P (quarter 3 c) t3 h.3)

-- what all numbers have, and a part of them keeps, each chain has
module _ (P : List ℕ → Type 0) (kept : (p : ℕ → Bool) (is : List ℕ) → P is → P (keep p is)) (at : List Float) where
  chains-grow : (k : ℕ) (c : Extent) (is : List ℕ) → P is → EachChain P (grow at k c is)
  unfolding grow
  chains-grow zero c is h = tt
  chains-grow (suc k) c [] h = tt
  chains-grow (suc k) c (i ∷ is) h = go (alike at (i ∷ is)) (λ q. chains-grow k (quarter q c) (points_in at c q (i ∷ is)) (kept (in_quarter at c q) (i ∷ is) h))
    where
      go : (b : Bool) → ((q : ℕ) → EachChain P (grow at k (quarter q c) (points_in at c q (i ∷ is))))
          → EachChain P (branch b (λ _. leaf c (i ∷ is)) (λ _. node c (grow at k (quarter 0 c) (points_in at c 0 (i ∷ is))) (grow at k (quarter 1 c) (points_in at c 1 (i ∷ is)))
          (grow at k (quarter 2 c) (points_in at c 2 (i ∷ is))) (grow at k (quarter 3 c) (points_in at c 3 (i ∷ is)))))
      go true f = h
      go false f = (f 0, f 1, f 2, f 3)

  chains-tree : (n : ℕ) → P (up_to n) → EachChain P (tree_of at n)
  unfolding tree_of tree_in
  chains-tree n h = chains-grow _ _ (up_to n) h

pub below-keep : (n : ℕ) (p : ℕ → Bool) (is : List ℕ) → Below n is → Below n (keep p is)
below-keep n p [] h = tt
below-keep n p (i ∷ is) h = go (p i) (below-keep n p is h.1)
  where
    go : (b : Bool) → Below n (keep p is) → Below n (cond b (i ∷ keep p is) (keep p is))
    go true k = (h.0, k)
    go false k = k

below-count : (n i k : ℕ) → i + k ≤ n → Below n (count_from i k)
below-count n i zero h = tt
below-count n i (suc k) h = (omega arith, below-count n (i + 1) k (omega arith))

pub below-up_to : (n : ℕ) → Below n (up_to n)
below-up_to n = below-count n 0 n (omega arith)

-- ---- the tree that stands in the slots

module _ (at : List Float) (n : ℕ) {m next : List ℕ} {q : Quadtree} (s : Stands at n m next q) where
  pub chains_have : (P : List ℕ → Type 0) → ((p : ℕ → Bool) (is : List ℕ) → P is → P (keep p is)) → P (up_to n) → EachChain P s.tree
  chains_have P kept h = chains_cells P q.extent s.tree (subst (EachChain P) (sym s.is) (chains-tree P kept at n h))

  -- the chains of the first n points hold numbers below n
  pub chains-below : EachChain (Below n) s.tree
  chains-below = chains_have (Below n) (below-keep n) (below-up_to n)

module _ {t : Tree Extent} {m next : List ℕ} {q : Quadtree} (s : Lays t m next q) where
  -- all its slots are lent
  pub found : (P : List ℕ → Type 0) → EachChain P s.tree → Walkable P m next q.root s.tree
  found P h = (s.leads, each_map (λ i. i < q.nodes) (λ i. InSlots i m) (λ i b. omega (arith, s.room)) s.tree s.below, h)

  pub nodes_stands : {A : Type 0} (look : ℕ → Extent → A) → nodes (seen look q.extent s.tree) ≡ q.nodes
  nodes_stands look = nodes-seen look q.extent s.tree ∙ s.count
