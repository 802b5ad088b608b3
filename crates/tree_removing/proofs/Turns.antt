-- The turns of the loops that go down a tree: to any leaf, to the node above a slot, to the last internal node on a way.
use mathlib.Core.Path.{◌≡◌, refl, sym, ap, ◌∙◌, subst}
use mathlib.Core.List.{List}
use Prim.Native.Nat.{ℕ, zero, suc, ◌+◌, ◌-◌, ◌≤◌, ◌<◌, max}
use native.Mathlib.Numerals.{add-one}
use native.Mathlib.Omega.{arith}
use lib.ListN.{get_or}
use borrow.Author.Tests.{ne_eqb}
use lib.Ieee.{Float}
use Rattle.std.proofs.Common.{cond, eqb}
use Rattle.rules.specs.declared.Extent.{Extent}
use Rattle.rules.specs.Cell.{quarter}
use Rattle.rules.specs.Tree.{Tree, none, leaf, node, depth}
use Rattle.rules.proofs.CellCount.{leaves, Fruitful}
use Rattle.tree_slots.specs.declared.Quadtree.{Quadtree}
use Rattle.tree_slots.specs.Slots.{word, kid, kids, InSlots}
use Rattle.tree_leaves.specs.Leaf.{side}
use Rattle.tree_placing.specs.Add.{Stored, pick, Reaches}
use Rattle.tree_placing.proofs.SlotsTree.{lead_each, lead-none, over, leads, leads-at, each_child, stored_child, depth_child}
use Rattle.tree_placing.proofs.Roots.{root_node}
use Rattle.tree_placing.proofs.AddWay.{side_lt, reach-each, reach-stored, reach-depth, reach-down}
use Rattle.tree_slots.specs.Trees.{lead, InternalIn, SlotsLent}
use Rattle.tree_removing.specs.Remove.{LeafOf}
use Rattle.tree_removing.specs.Ways.{first_of, some_kid, Under, Outer}
use Rattle.tree_removing.proofs.Plug.{fruit_child}
use Rattle.tree_removing.proofs.Count.{leaf_in}

pub less-more : (n : ℕ) → (n ≡ 0 → ⊥) → n ≡ n - 1 + 1
less-more n h = omega arith

-- ---- how far down

-- how many levels the tree has that p leads to, of at most n
unfoldable pub height : ℕ → List ℕ → ℕ → ℕ
height zero m p = 0
height (suc n) m zero = 0
height (suc n) m (suc s) = cond (eqb (word m s 0) 0) (suc (max (max (height n m (kid m s 0)) (height n m (kid m s 1))) (max (height n m (kid m s 2)) (height n m (kid m s 3))))) 1

height_is : (m : List ℕ) (n : ℕ) (t : Tree ℕ) → Stored m t → depth t ≤ n → height n m (lead t) ≡ depth t
unfolding height
height_is m zero none st l = refl
height_is m zero (leaf s is) st l = absurd (omega arith)
height_is m zero (node s t0 t1 t2 t3) st l = absurd (omega arith)
height_is m (suc n) none st l = refl
height_is m (suc n) (leaf s is) st l = rw (add-one, ne_eqb (word m s 0) 0 (λ z. omega (arith, st.tag, z)))
height_is m (suc n) (node s t0 t1 t2 t3) st l =
    let e0 = ap (λ (ks : List ℕ). get_or ks 0 0) st.0.kids in
    let e1 = ap (λ (ks : List ℕ). get_or ks 1 0) st.0.kids in
    let e2 = ap (λ (ks : List ℕ). get_or ks 2 0) st.0.kids in
    let e3 = ap (λ (ks : List ℕ). get_or ks 3 0) st.0.kids in
    rw (add-one, st.0.tag, e0, e1, e2, e3, height_is m n t0 st.1 (omega arith), height_is m n t1 st.2 (omega arith), height_is m n t2 st.3 (omega arith), height_is m n t3 st.4 (omega arith)) (omega arith)

-- a child has fewer
pub child_lower : (m : List ℕ) (s : ℕ) (t0 t1 t2 t3 : Tree ℕ) → Stored m (node s t0 t1 t2 t3) → depth (node s t0 t1 t2 t3) ≤ 65 → (k : ℕ) → height 65 m (lead (pick t0 t1 t2 t3 k)) < height 65 m (s + 1)
child_lower m s t0 t1 t2 t3 st l k =
    let d = depth_child s t0 t1 t2 t3 k in
    omega (arith, height_is m 65 (node s t0 t1 t2 t3) st l, height_is m 65 (pick t0 t1 t2 t3 k) (stored_child t0 t1 t2 t3 s m st k) (omega arith))

-- ---- to any leaf

pub record Deeper (m : List ℕ) (t : Tree ℕ) (x : ℕ) : Type 0 where
  pub sub : Tree ℕ
  pub top : lead sub ≡ x + 1
  pub stored : Stored m sub
  pub lent : SlotsLent m sub
  pub fruitful : Fruitful sub
  pub levels : depth sub ≤ 65
  pub up : (f : ℕ) → LeafOf f sub → LeafOf f t

pub some-kid : (s : ℕ) (k : ℕ → Tree ℕ) → 0 < leaves (over s k) → (r : ℕ) × (r < 4) × (some_kid (leads k) ≡ lead (k r)) × (0 < some_kid (leads k))
some-kid s k l = go (lead (k 0)) (lead (k 1)) (lead (k 2)) (lead (k 3)) refl refl refl refl
  where
    go : (a0 a1 a2 a3 : ℕ) → lead (k 0) ≡ a0 → lead (k 1) ≡ a1 → lead (k 2) ≡ a2 → lead (k 3) ≡ a3
        → (r : ℕ) × (r < 4) × (first_of a0 (first_of a1 (first_of a2 a3)) ≡ lead (k r)) × (0 < first_of a0 (first_of a1 (first_of a2 a3)))
    go (suc a0) a1 a2 a3 e0 e1 e2 e3 = (0, omega arith, sym e0, omega arith)
    go zero (suc a1) a2 a3 e0 e1 e2 e3 = (1, omega arith, sym e1, omega arith)
    go zero zero (suc a2) a3 e0 e1 e2 e3 = (2, omega arith, sym e2, omega arith)
    go zero zero zero (suc a3) e0 e1 e2 e3 = (3, omega arith, sym e3, omega arith)
    go zero zero zero zero e0 e1 e2 e3 = absurd (omega (arith, l, ap leaves (lead-none (k 0) e0), ap leaves (lead-none (k 1) e1), ap leaves (lead-none (k 2) e2), ap leaves (lead-none (k 3) e3)))

module _ (m : List ℕ) (t : Tree ℕ) (x : ℕ) (d : Deeper m t x) where
  pub deeper_leaf : (InternalIn m x → ⊥) → LeafOf (word m x 0 - 1) t
  deeper_leaf n = d.up (word m x 0 - 1) (go d.sub d.top d.stored)
    where
      go : (u : Tree ℕ) → lead u ≡ x + 1 → Stored m u → LeafOf (word m x 0 - 1) u
      go none e st = absurd (omega arith)
      go (leaf s is) e st = let z : s ≡ x = omega arith in omega (arith, st.tag, ap (λ (j : ℕ). word m j 0) z)
      go (node s t0 t1 t2 t3) e st = let z : s ≡ x = omega arith in absurd (n (ap (λ (j : ℕ). word m j 0) (sym z) ∙ st.0.tag))

  pub deeper-turn : InternalIn m x → (0 < some_kid (kids m x)) × (height 65 m (some_kid (kids m x)) < height 65 m (x + 1)) × Deeper m t (some_kid (kids m x) - 1)
  deeper-turn n = go d.sub d.top d.stored d.lent d.fruitful d.levels d.up
    where
      go : (u : Tree ℕ) → lead u ≡ x + 1 → Stored m u → SlotsLent m u → Fruitful u → depth u ≤ 65 → ((f : ℕ) → LeafOf f u → LeafOf f t)
          → (0 < some_kid (kids m x)) × (height 65 m (some_kid (kids m x)) < height 65 m (x + 1)) × Deeper m t (some_kid (kids m x) - 1)
      go none e st b f v up = absurd (omega arith)
      go (leaf s is) e st b f v up = let z : s ≡ x = omega arith in absurd (omega (arith, st.tag, n, ap (λ (j : ℕ). word m j 0) z))
      go (node s t0 t1 t2 t3) e st b f v up =
          let z : x ≡ s = omega arith in
          let (r, lt, w, pos) = some-kid s (pick t0 t1 t2 t3) f.0 in
          let ks : some_kid (kids m x) ≡ some_kid (leads (pick t0 t1 t2 t3)) = ap some_kid (ap (kids m) z ∙ st.0.kids) in
          let dc = depth_child s t0 t1 t2 t3 r in (
            omega (arith, pos, ks),
            rw (ks, w, z) (child_lower m s t0 t1 t2 t3 st v r),
            record {
              sub = pick t0 t1 t2 t3 r;
              top = omega (arith, pos, ks, w);
              stored = stored_child t0 t1 t2 t3 s m st r;
              lent = each_child t0 t1 t2 t3 s (λ j. InSlots j m) b r;
              fruitful = fruit_child s t0 t1 t2 t3 f r;
              levels = omega (arith, dc);
              up = λ g y. up g (leaf_in s t0 t1 t2 t3 g r y);
            },
          )

-- ---- to a node on a way

module _ (at : List Float) (f : ℕ) (c : Extent) (t : Tree ℕ) where
  -- the way of f has come to the internal node in slot s
  pub record Come (s : ℕ) (cell : Extent) : Type 0 where
    pub level : ℕ
    pub t0 : Tree ℕ
    pub t1 : Tree ℕ
    pub t2 : Tree ℕ
    pub t3 : Tree ℕ
    pub way : Reaches at f level c t cell (node s t0 t1 t2 t3)

  module _ (m : List ℕ) (st : Stored m t) (b : SlotsLent m t) (v : depth t ≤ 65) (s : ℕ) (cell : Extent) (a : Come s cell) where
    abbrev l : ℕ
    l = a.level

    here : Stored m (node s a.t0 a.t1 a.t2 a.t3)
    here = reach-stored at f l c t cell (node s a.t0 a.t1 a.t2 a.t3) a.way m st

    pub come-slot : InSlots s m
    come-slot = (reach-each at f l c t cell (node s a.t0 a.t1 a.t2 a.t3) a.way (λ j. InSlots j m) b).0

    pub come-child : (k : ℕ) → k ≡ side at f cell → (ks : List ℕ) → ks ≡ kids m s → get_or ks k 0 ≡ lead (pick a.t0 a.t1 a.t2 a.t3 k)
    come-child k e ks ek =
        ap (λ (ks : List ℕ). get_or ks k 0) (ek ∙ here.0.kids)
        ∙ leads-at (pick a.t0 a.t1 a.t2 a.t3) k (subst (λ (j : ℕ). j < 4) (sym e) (side_lt at f cell))

    -- a child has fewer levels
    pub come-lower : (k n : ℕ) → n ≡ lead (pick a.t0 a.t1 a.t2 a.t3 k) → (n ≡ 0 → ⊥) → height 65 m (n - 1 + 1) < height 65 m (s + 1)
    come-lower k n e z =
        subst (λ (p : ℕ). height 65 m p < height 65 m (s + 1)) (sym e ∙ less-more n z) (child_lower m s a.t0 a.t1 a.t2 a.t3 here (omega (arith, v, reach-depth at f l c t cell (node s a.t0 a.t1 a.t2 a.t3) a.way)) k)

    -- the child on the way
    pub come-below : (k : ℕ) → k ≡ side at f cell → Reaches at f (a.level + 1) c t (quarter k cell) (pick a.t0 a.t1 a.t2 a.t3 k)
    come-below k e =
        subst (λ (k : ℕ). Reaches at f (l + 1) c t (quarter k cell) (pick a.t0 a.t1 a.t2 a.t3 k)) (sym e)
        (subst (λ (n : ℕ). Reaches at f n c t (quarter (side at f cell) cell) (pick a.t0 a.t1 a.t2 a.t3 (side at f cell))) (sym (add-one l)) (reach-down at f l c t cell s a.t0 a.t1 a.t2 a.t3 a.way))

    -- its slot, where there is one
    pub child-slot : (k : ℕ) → k ≡ side at f cell → (n : ℕ) → n ≡ lead (pick a.t0 a.t1 a.t2 a.t3 k) → (n ≡ 0 → ⊥) → InSlots (n - 1) m
    child-slot k e n en z =
        lead_each (λ j. InSlots j m) (pick a.t0 a.t1 a.t2 a.t3 k) (n - 1) (sym en ∙ less-more n z)
        (reach-each at f (l + 1) c t (quarter k cell) (pick a.t0 a.t1 a.t2 a.t3 k) (come-below k e) (λ j. InSlots j m) b)

    -- a child that is internal
    pub come-down : (k : ℕ) → k ≡ side at f cell → (x : ℕ) → lead (pick a.t0 a.t1 a.t2 a.t3 k) ≡ x + 1 → InternalIn m x → Come x (quarter k cell)
    come-down k e x top n = go (pick a.t0 a.t1 a.t2 a.t3 k) top (come-below k e)
      where
        go : (u : Tree ℕ) → lead u ≡ x + 1 → Reaches at f (a.level + 1) c t (quarter k cell) u → Come x (quarter k cell)
        go none h r = absurd (omega arith)
        go (leaf z is) h r = let y : z ≡ x = omega arith in absurd (omega (arith, n, ap (λ (j : ℕ). word m j 0) y, (reach-stored at f (l + 1) c t (quarter k cell) (leaf z is) r m st).tag))
        go (node z u0 u1 u2 u3) h r =
            let y : z ≡ x = omega arith in
            record { level = l + 1; t0 = u0; t1 = u1; t2 = u2; t3 = u3; way = subst (λ (j : ℕ). Reaches at f (l + 1) c t (quarter k cell) (node j u0 u1 u2 u3)) y r }

    pub come-outer : (k : ℕ) → k ≡ side at f cell → (x : ℕ) → lead (pick a.t0 a.t1 a.t2 a.t3 k) ≡ x → (x ≡ 0 → ⊥) → (InternalIn m (x - 1) → ⊥) → Outer (pick a.t0 a.t1 a.t2 a.t3 k)
    come-outer k e x top nz n = go (pick a.t0 a.t1 a.t2 a.t3 k) top (come-below k e)
      where
        go : (u : Tree ℕ) → lead u ≡ x → Reaches at f (a.level + 1) c t (quarter k cell) u → Outer u
        go none h r = tt
        go (leaf z is) h r = tt
        go (node z u0 u1 u2 u3) h r = let y : z ≡ x - 1 = omega arith in n (ap (λ (j : ℕ). word m j 0) (sym y) ∙ (reach-stored at f (l + 1) c t (quarter k cell) (node z u0 u1 u2 u3) r m st).0.tag)

  -- an internal root
  pub come_root : (m : List ℕ) → Stored m t → (s : ℕ) → lead t ≡ s + 1 → InternalIn m s → Come s c
  come_root m st s e n = go (root_node m t (s + 1) (sym e) (omega arith) (ap (λ (j : ℕ). word m j 0) (let z : s + 1 - 1 ≡ s = omega arith in z) ∙ n) st)
    where
      go : (j : ℕ) × (u0 : Tree ℕ) × (u1 : Tree ℕ) × (u2 : Tree ℕ) × (u3 : Tree ℕ) × (t ≡ node j u0 u1 u2 u3) → Come s c
      go (j, u0, u1, u2, u3, w) = let y : j ≡ s = omega (arith, e, ap lead w) in record { level = 0; t0 = u0; t1 = u1; t2 = u2; t3 = u3; way = (refl, w ∙ ap (λ (j : ℕ). node j u0 u1 u2 u3) y) }

  -- ---- the node in slot x is ahead

  -- by down + 1 levels
  pub record Nears (x s : ℕ) (cell : Extent) : Type 0 where
    pub come : Come s cell
    pub down : ℕ
    pub d : Extent
    pub sub : Tree ℕ
    pub rest : Reaches at f (suc down) cell (node s come.t0 come.t1 come.t2 come.t3) d sub
    pub top : lead sub ≡ x + 1

  pub nears_start : (x s down : ℕ) (d : Extent) (sub : Tree ℕ) → Reaches at f (suc down) c t d sub → lead sub ≡ x + 1 → lead t ≡ s + 1 → Nears x s c
  nears_start x s down d sub r h e = go t refl e r
    where
      go : (u : Tree ℕ) → t ≡ u → lead u ≡ s + 1 → Reaches at f (suc down) c u d sub → Nears x s c
      go none z e r = absurd r
      go (leaf j is) z e r = absurd r
      go (node j u0 u1 u2 u3) z e r =
          let y : j ≡ s = omega arith in
          record { come = record { level = 0; t0 = u0; t1 = u1; t2 = u2; t3 = u3; way = (refl, z ∙ ap (λ (j : ℕ). node j u0 u1 u2 u3) y) }; down = down; d = d; sub = sub; rest = r; top = h }

  module _ (m : List ℕ) (st : Stored m t) (b : SlotsLent m t) (v : depth t ≤ 65) (x s : ℕ) (cell : Extent) (a : Nears x s cell) (k : ℕ) (e : k ≡ side at f cell) (n : ℕ)
      (is : n ≡ lead (pick a.come.t0 a.come.t1 a.come.t2 a.come.t3 k)) (other : n ≡ x + 1 → ⊥) where
    pub nears_turn : (0 < n) × Nears x (n - 1) (quarter k cell)
    nears_turn =
        go a.down (pick a.come.t0 a.come.t1 a.come.t2 a.come.t3 k) is (come-below m st b v s cell a.come k e)
        (subst (λ (j : ℕ). Reaches at f a.down (quarter j cell) (pick a.come.t0 a.come.t1 a.come.t2 a.come.t3 j) a.d a.sub) (sym e) a.rest)
      where
        go : (down : ℕ) (u : Tree ℕ) → n ≡ lead u → Reaches at f (a.come.level + 1) c t (quarter k cell) u → Reaches at f down (quarter k cell) u a.d a.sub → (0 < n) × Nears x (n - 1) (quarter k cell)
        go zero u h r w = absurd (other (h ∙ ap lead w.1 ∙ a.top))
        go (suc down) none h r w = absurd w
        go (suc down) (leaf j is) h r w = absurd w
        go (suc down) (node j u0 u1 u2 u3) h r w =
            let y : j ≡ n - 1 = omega arith in (
              omega arith,
              record {
                come = record { level = a.come.level + 1; t0 = u0; t1 = u1; t2 = u2; t3 = u3; way = subst (λ (z : ℕ). Reaches at f (a.come.level + 1) c t (quarter k cell) (node z u0 u1 u2 u3)) y r };
                down = down;
                d = a.d;
                sub = a.sub;
                rest = w;
                top = a.top;
              },
            )

-- what stands below the root has a root above it
pub under_rooted : (at : List Float) (m : List ℕ) (q : Quadtree) (x f : ℕ) (t : Tree ℕ) → Under at m q x f t → 1 ≤ q.root
under_rooted at m q x f t g = go t g.leads g.way
  where
    go : (t : Tree ℕ) → q.root ≡ lead t → Reaches at f (suc g.down) q.extent t g.cell g.sub → 1 ≤ q.root
    go none e r = absurd r
    go (leaf s is) e r = absurd r
    go (node s t0 t1 t2 t3) e r = omega arith
