-- A subtree takes the place of another where a point's way has come to: the slots then hold the tree of one point more, or that tree is refused.
use mathlib.Core.Path.{◌≡◌, refl, sym, ap, ◌∙◌, subst}
use mathlib.Core.Bool.{Bool, true, false, true≢false}
use mathlib.Core.List.{List, [], ◌∷◌, ◌++◌}
use mathlib.Core.Logic.{inl, inr}
use Prim.Native.Nat.{ℕ, zero, suc, ◌+◌, ◌-◌, ◌*◌, ◌^◌, ◌≤◌, ◌<◌, max}
use native.Mathlib.Omega.{arith}
use lib.Dec.{leb}
use lib.ListN.{length, set}
use borrow.Author.Tests.{leb-true, leb-false}
use lib.Ieee.{Float}
use Rattle.rules.specs.declared.Extent.{Extent}
use Rattle.rules.specs.Plain.{all}
use Rattle.rules.specs.Cell.{quarter}
use Rattle.rules.specs.Outcome.{refused, refusal, fine}
use Rattle.rules.specs.Tree.{Tree, none, leaf, node, depth, nodes, same, alike, in_quarter, points_in, tree_in, fits_check}
use Rattle.rules.specs.Calls.{slot_words, slots_of}
use Rattle.rules.proofs.CellList.{In, all_in, keep_in}
use Rattle.rules.proofs.CellPoints.{same_trans, same-quarter}
use Rattle.rules.proofs.CellCount.{leaves, Fruitful, fruitful}
use Rattle.rules.proofs.CellChain.{EachLeaf, Points, Chain}
use Rattle.rules.proofs.CellDeep.{in_quarter-own}
use Rattle.rules.proofs.CellIs.{Is}
use Rattle.rules.proofs.CellInsert.{insert_t}
use Rattle.rules.proofs.CellRule.{tree-whole, chains, nodes-points, insert-tree, insert-refused, insert-none, insert-same}
use Rattle.tree_cells.proofs.Prefix.{fits-fine, fits-deep, fits_full}
use Rattle.tree_slots.proofs.Trees.{cells_depth, cells_nodes, each_map}
use Rattle.tree_slots.specs.declared.Quadtree.{Quadtree}
use Rattle.tree_slots.specs.Slots.{kids, put_internal, put_leaf}
use Rattle.tree_slots.specs.Trees.{EachSlot, Once, in_cells, lead}
use Rattle.tree_leaves.specs.Leaf.{side, shared_levels, hung}
use Rattle.tree_placing.specs.Add.{Stored, Holds, pick, Reaches, more_check}
use Rattle.tree_slots.proofs.Slots.{Same, same_trans as slot-trans, internal_length, internal_same, node_shown, node_put, leaf_length, leaf_same, leaf_put}
use Rattle.tree_placing.proofs.SlotsTree.{each_both, lead_le, over, upd, leads, upd-below, each_child, stored-over, stored_child, leads-upd, leads-small, once_out, frame}
use Rattle.tree_placing.proofs.AddWay.{up, up_is, side_lt, reach-each, reach-stored, reach-once, reach-leaf, reach-depth, plug, plug-nodes, plug-depth, Renews, plug_renews, plug_once, plug-stored, plug_cells, plug-deep}
use Rattle.tree_placing.proofs.AddSplit.{split_t, split-lead, split_each, split_once, split-depth, split-nodes, split_cells, split-deep}

-- ---- levels, nodes and leaves with cells for slots

pub cells_leaves : (Q : List ℕ → Type 0) (c : Extent) (t : Tree ℕ) → EachLeaf (λ _. Q) (in_cells c t) → EachLeaf (λ _. Q) t
cells_leaves Q c none h = tt
cells_leaves Q c (leaf s is) h = h
cells_leaves Q c (node s t0 t1 t2 t3) h = (cells_leaves Q (quarter 0 c) t0 h.0, cells_leaves Q (quarter 1 c) t1 h.1, cells_leaves Q (quarter 2 c) t2 h.2, cells_leaves Q (quarter 3 c) t3 h.3)

-- an internal node with a leaf below it has two levels or more
two_levels : {A : Type 0} (a : A) (t0 t1 t2 t3 : Tree A) → Fruitful (node a t0 t1 t2 t3) → 2 ≤ depth (node a t0 t1 t2 t3)
two_levels a t0 t1 t2 t3 h = go (leb 2 (depth (node a t0 t1 t2 t3))) refl
  where
    bare : {A : Type 0} (t : Tree A) → depth t ≤ 0 → leaves t ≡ 0
    bare none l = refl
    bare (leaf a is) l = absurd (omega arith)
    bare (node a t0 t1 t2 t3) l = absurd (omega arith)

    go : (b : Bool) → leb 2 (depth (node a t0 t1 t2 t3)) ≡ b → 2 ≤ depth (node a t0 t1 t2 t3)
    go true e = leb-true 2 (depth (node a t0 t1 t2 t3)) e
    go false e =
        let l : depth (node a t0 t1 t2 t3) < 2 = leb-false 2 (depth (node a t0 t1 t2 t3)) e in
        absurd (omega (arith, h.0, bare t0 (omega arith), bare t1 (omega arith), bare t2 (omega arith), bare t3 (omega arith)))

-- the slots from x to y
abbrev pub Between : ℕ → ℕ → ℕ → Type 0
Between x y j = (x ≤ j) × (j < y)

-- a tree below x has none of them
old : (x y : ℕ) (t : Tree ℕ) → EachSlot (λ j. j < x) t → EachSlot (λ j. Between x y j → ⊥) t
old x y t h = each_map (λ j. j < x) (λ j. Between x y j → ⊥) (λ j a b. omega (arith, a, b.0)) t h

module _ (at : List Float) where
  -- ---- what the slots hold is the tree of the points

  pub holds_most : (is m : List ℕ) (q : Quadtree) (h : Holds at is m q) → depth h.tree ≤ 65
  holds_most is m q h = omega (arith, h.deepest, h.shallow)

  pub holds_levels : (is m : List ℕ) (q : Quadtree) → Holds at is m q → depth (tree_in at q.extent is) ≤ 65
  holds_levels is m q h = subst (λ (n : ℕ). n ≤ 65) (sym (cells_depth q.extent h.tree) ∙ ap depth h.cells) (holds_most is m q h)

  pub holds_is : (is m : List ℕ) (q : Quadtree) (h : Holds at is m q) → Is at q.extent (in_cells q.extent h.tree) is
  holds_is is m q h = subst (λ (t : Tree Extent). Is at q.extent t is) (sym h.cells) (tree-whole at q.extent is (holds_levels is m q h))

  -- so that tree isn't refused
  pub holds_fits : (is m : List ℕ) (q : Quadtree) (c : Extent) (p : ℕ) → Holds at is m q → q.extent ≡ c → fits_check (slots_of m) p (tree_in at c is) ≡ fine
  holds_fits is m q c p h e =
      subst (λ (c : Extent). fits_check (slots_of m) p (tree_in at c is) ≡ fine) e
      ((fits-fine (slots_of m) p (tree_in at q.extent is)).1 (holds_levels is m q h, slots (nodes (tree_in at q.extent is)) (sym (ap nodes h.cells) ∙ cells_nodes q.extent h.tree ∙ h.count) h.room))
    where
      slots : (n : ℕ) → n ≡ q.nodes → q.nodes * slot_words ≤ length m → n ≤ slots_of m
      slots n a b = omega arith

  -- at most 1 + 64 slots a particle
  pub holds_few : (is m : List ℕ) (q : Quadtree) → Holds at is m q → q.nodes ≤ 1 + 64 * length is
  holds_few is m q h =
      let c = q.extent in
      omega (arith, nodes-points at (in_cells c h.tree) c is (holds_is is m q h) (subst (λ (d : ℕ). d ≤ 65) (sym (cells_depth c h.tree)) (holds_most is m q h)), cells_nodes c h.tree, h.count)

  pub holds_chains : (is m : List ℕ) (q : Quadtree) (h : Holds at is m q) → Points at is → EachLeaf (λ _. Chain at is) h.tree
  holds_chains is m q h points = cells_leaves (Chain at is) q.extent h.tree (chains at (in_cells q.extent h.tree) q.extent is points (holds_is is m q h))

  module _ (p : ℕ) where
    -- ---- what is known where the way has come to

    child-is : (c : Extent) (s : ℕ) (t0 t1 t2 t3 : Tree ℕ) (is : List ℕ) → Is at c (in_cells c (node s t0 t1 t2 t3)) is → (q : ℕ) → q < 4 → Is at (quarter q c) (in_cells (quarter q c) (pick t0 t1 t2 t3 q)) (points_in at c q is)
    child-is c s t0 t1 t2 t3 is h zero l = h.2
    child-is c s t0 t1 t2 t3 is h (suc zero) l = h.3
    child-is c s t0 t1 t2 t3 is h (suc (suc zero)) l = h.4
    child-is c s t0 t1 t2 t3 is h (suc (suc (suc zero))) l = h.5
    child-is c s t0 t1 t2 t3 is h (suc (suc (suc (suc q)))) l = absurd (omega arith)

    -- the points of a cell that p's way has come to: all those of the whole that have p's point are among them
    abbrev pub Arrives : Extent → Tree ℕ → List ℕ → Type 0
    Arrives d u is = (js : List ℕ) × Is at d (in_cells d u) js × ((i : ℕ) → In i is → same at i p ≡ true → In i js)

    arrives-down : (c : Extent) (s : ℕ) (t0 t1 t2 t3 : Tree ℕ) (is : List ℕ) → Arrives c (node s t0 t1 t2 t3) is → Arrives (quarter (side at p c) c) (pick t0 t1 t2 t3 (side at p c)) is
    arrives-down c s t0 t1 t2 t3 is (js, h, f) =
        let q = side at p c in
        (points_in at c q js, child-is c s t0 t1 t2 t3 js h q (side_lt at p c), λ i m e. keep_in (in_quarter at c q) js i (f i m e) (same-quarter at c q i p e ∙ in_quarter-own at c p))

    arrives : (n : ℕ) (c : Extent) (t : Tree ℕ) (d : Extent) (u : Tree ℕ) (is : List ℕ) → Reaches at p n c t d u → Arrives c t is → Arrives d u is
    arrives zero c t d u is r a = subst (λ (d : Extent). Arrives d u is) r.0 (subst (λ (u : Tree ℕ). Arrives c u is) r.1 a)
    arrives (suc n) c none d u is r a = absurd r
    arrives (suc n) c (leaf s js) d u is r a = absurd r
    arrives (suc n) c (node s t0 t1 t2 t3) d u is r a = arrives n (quarter (side at p c) c) (pick t0 t1 t2 t3 (side at p c)) d u is r (arrives-down c s t0 t1 t2 t3 is a)

    module _ (is m : List ℕ) (q : Quadtree) (h : Holds at is m q) (l : ℕ) (d : Extent) where
      pub reached : (u : Tree ℕ) → Reaches at p l q.extent h.tree d u → Arrives d u is
      reached u r = arrives l q.extent h.tree d u is r (is, holds_is is m q h, λ i a b. a)

      -- no point of those before is at p's, where the way comes to a hole
      pub hole-new : (s : ℕ) (u0 u1 u2 u3 : Tree ℕ) → Reaches at p l q.extent h.tree d (node s u0 u1 u2 u3) → pick u0 u1 u2 u3 (side at p d) ≡ none → (i : ℕ) → In i is → same at i p ≡ true → ⊥
      hole-new s u0 u1 u2 u3 r e i a b =
          let (js, g, f) = arrives-down d s u0 u1 u2 u3 is (reached (node s u0 u1 u2 u3) r) in
          subst (In i) (subst (λ (u : Tree ℕ). Is at (quarter (side at p d) d) (in_cells (quarter (side at p d) d) u) js) e g) (f i a b)

      -- or to a leaf at another point
      pub leaf-new : (s f : ℕ) (js : List ℕ) → Reaches at p l q.extent h.tree d (leaf s (f ∷ js)) → same at f p ≡ false → (i : ℕ) → In i is → same at i p ≡ true → ⊥
      leaf-new s f js r ne i a b =
          let (ks, g, w) = reached (leaf s (f ∷ js)) r in
          true≢false (sym (shared (subst (In i) (sym g.1) (w i a b)) (subst (λ (x : List ℕ). alike at x ≡ true) (sym g.1) g.3)) ∙ ne)
        where
          shared : In i (f ∷ js) → all (same at f) js ≡ true → same at f p ≡ true
          shared (inl e) x = ap (λ (y : ℕ). same at y p) (sym e) ∙ b
          shared (inr k) x = same_trans at f i p (all_in (same at f) js i x k) b

    pub leaf-chain : (is m : List ℕ) (q : Quadtree) (h : Holds at is m q) (l : ℕ) (d : Extent) (s : ℕ) (js : List ℕ) → Reaches at p l q.extent h.tree d (leaf s js) → Points at is → Chain at is js
    leaf-chain is m q h l d s js r points =
        reach-leaf at p l q.extent h.tree d (leaf s js) r (Chain at is) (holds_chains is m q h points)

    -- ---- a subtree in the place of another

    -- v takes the place of u, which stands l levels down in the cell d: the new slots are those from x to y, and v has e levels if u hasn't more
    pub record Replaces (l n : ℕ) (d : Extent) (u v : Tree ℕ) (x y e : ℕ) : Type 1 where
      pub fuel : l + suc n ≡ 65
      pub cells : in_cells d v ≡ insert_t at p d (suc n) (in_cells d u)
      pub levels : depth v ≡ max (depth u) e
      pub most : l + e ≤ 65
      pub count : nodes v + x ≡ nodes u + y
      pub more : x ≤ y
      pub top : lead v ≡ lead u
      pub renews : Renews (Between x y) u v
      pub once : Once v

    module _ (is m : List ℕ) (q : Quadtree) (h : Holds at is m q) (l n : ℕ) (d : Extent) (u v : Tree ℕ) (y e : ℕ)
        (r : Reaches at p l q.extent h.tree d u) (w : Replaces l n d u v q.nodes y e) where
      abbrev after : Tree ℕ
      after = plug at p l q.extent h.tree v

      after-depth : depth after ≡ max (depth h.tree) (l + e)
      after-depth = plug-depth at p l q.extent h.tree d u v e r w.levels ∙ ap (max (depth h.tree)) (up_is l e)

      after-nodes : nodes after ≡ y
      after-nodes = omega (arith, plug-nodes at p l q.extent h.tree d u v r, h.count, w.count)

      after-most : depth after ≤ 65
      after-most = omega (arith, after-depth, holds_most is m q h, w.most)

      -- it is the tree of the points and p
      after-cells : in_cells q.extent after ≡ tree_in at q.extent (is ++ (p ∷ []))
      after-cells =
          let c = q.extent in
          let f : up l (suc n) ≡ 65 = up_is l (suc n) ∙ w.fuel in
          let g : in_cells c after ≡ insert_t at p c 65 (in_cells c h.tree) = subst (λ (k : ℕ). in_cells c after ≡ insert_t at p c k (in_cells c h.tree)) f (plug_cells at p l c h.tree d u v (suc n) r w.cells) in
          let z : depth (insert_t at p c 65 (in_cells c h.tree)) ≤ 65 = subst (λ (k : ℕ). k ≤ 65) (sym (cells_depth c after) ∙ ap depth g) after-most in
          g ∙ insert-tree at p (in_cells c h.tree) c is (holds_is is m q h) z

      -- with too few slots it is refused
      pub next-full : slots_of m < y → more_check at is m q.extent p ≡ refused (refusal 7 p)
      next-full lt =
          subst (λ (t : Tree Extent). fits_check (slots_of m) p t ≡ refused (refusal 7 p)) after-cells
          (fits_full (slots_of m) p (in_cells q.extent after) (subst (λ (k : ℕ). k ≤ 65) (sym (cells_depth q.extent after)) after-most)
          (subst (λ (k : ℕ). slots_of m < k) (sym (cells_nodes q.extent after ∙ after-nodes)) lt))

      -- once v is written, the slots hold it
      pub next-holds : (b : List ℕ) (r' : Quadtree) → Stored b v → ((j : ℕ) → j < q.nodes → (lead u ≡ j + 1 → ⊥) → Same m b j) → y * slot_words ≤ length b
          → r'.extent ≡ q.extent → r'.root ≡ q.root → r'.nodes ≡ y → r'.deepest ≡ max q.deepest (l + e - 1) → Holds at (is ++ (p ∷ [])) b r'
      next-holds b r' stored keeps room ex ro nn de =
          let o = plug-stored at p m b (λ j. j < q.nodes) l q.extent h.tree d u v r w.top stored keeps h.below h.once h.stored in
          record {
            tree = after;
            root = ro ∙ h.root ∙ sym o.1;
            stored = o.0;
            cells = subst (λ (c : Extent). in_cells c after ≡ tree_in at c (is ++ (p ∷ []))) (sym ex) after-cells;
            deepest = less (depth h.tree) q.deepest (l + e) r'.deepest after-depth h.deepest de;
            shallow = most q.deepest (l + e) r'.deepest h.shallow w.most de;
            count = after-nodes ∙ sym nn;
            below = plug_renews at p (Between q.nodes y) l q.extent h.tree d u v r w.renews (λ j. j < r'.nodes) (each_map (λ j. j < q.nodes) (λ j. j < r'.nodes) (λ j z. omega (arith, w.more)) h.tree h.below) (λ j a. omega (arith, a.1));
            once = plug_once at p (Between q.nodes y) l q.extent h.tree d u v r w.renews w.once (old q.nodes y h.tree h.below) h.once;
            room = omega arith;
          }
        where
          less : {x : ℕ} (a b k r : ℕ) → x ≡ max a k → a ≤ b + 1 → r ≡ max b (k - 1) → x ≤ r + 1
          less a b k r e f g = omega arith

          most : (b k r : ℕ) → b ≤ 64 → k ≤ 65 → r ≡ max b (k - 1) → r ≤ 64
          most b k r e f g = omega arith

    -- ---- the three ways in which p comes in

    module _ (is m : List ℕ) (q : Quadtree) (h : Holds at is m q) (l : ℕ) (d : Extent) where
      -- a tree that is reached stands on level 64 or above
      pub leaf-level : (s : ℕ) (js : List ℕ) → Reaches at p l q.extent h.tree d (leaf s js) → l ≤ 64
      leaf-level s js r = omega (arith, reach-depth at p l q.extent h.tree d (leaf s js) r, holds_most is m q h)

      -- an internal one above it
      pub node-level : (s : ℕ) (u0 u1 u2 u3 : Tree ℕ) → Reaches at p l q.extent h.tree d (node s u0 u1 u2 u3) → l ≤ 63
      node-level s u0 u1 u2 u3 r =
          let u : Tree ℕ = node s u0 u1 u2 u3 in
          let (js, g, f) = reached is m q h l d u r in
          let b = two_levels d (in_cells (quarter 0 d) u0) (in_cells (quarter 1 d) u1) (in_cells (quarter 2 d) u2) (in_cells (quarter 3 d) u3) (fruitful at (in_cells d u) d js g) in
          above (depth u) (depth h.tree) (subst (λ (k : ℕ). 2 ≤ k) (cells_depth d u) b) (reach-depth at p l q.extent h.tree d u r) (holds_most is m q h)
        where
          above : (a b : ℕ) → 2 ≤ a → l + a ≤ b → b ≤ 65 → l ≤ 63
          above a b x y z = omega arith

      -- it joins the chain of a leaf at its point
      pub joins : (s i : ℕ) (js : List ℕ) → Reaches at p l q.extent h.tree d (leaf s (i ∷ js)) → same at i p ≡ true → Replaces l (64 - l) d (leaf s (i ∷ js)) (leaf s (i ∷ js ++ (p ∷ []))) q.nodes q.nodes 1
      joins s i js r e =
          let z : l ≤ 64 = leaf-level s (i ∷ js) r in
          record {
            fuel = omega arith;
            cells = sym (insert-same at p d d (64 - l) i js e);
            levels = refl;
            most = omega arith;
            count = refl;
            more = omega arith;
            top = refl;
            renews = λ P a new. a;
            once = tt;
          }

      -- it is the first point in a quarter of an internal node
      pub hangs : (s : ℕ) (u0 u1 u2 u3 : Tree ℕ) → Reaches at p l q.extent h.tree d (node s u0 u1 u2 u3) → pick u0 u1 u2 u3 (side at p d) ≡ none
          → Replaces l (64 - l) d (node s u0 u1 u2 u3) (over s (upd (pick u0 u1 u2 u3) (side at p d) (leaf q.nodes (p ∷ [])))) q.nodes (q.nodes + 1) 2
      hangs s u0 u1 u2 u3 r e =
          let u : Tree ℕ = node s u0 u1 u2 u3 in
          let t : Tree ℕ = leaf q.nodes (p ∷ []) in
          let z : l ≤ 63 = node-level s u0 u1 u2 u3 r in
          let c : Extent = quarter (side at p d) d in
          let way : Reaches at p 1 d u c none = (refl, e) in
          let renews : Renews (Between q.nodes (q.nodes + 1)) none t = λ P a new. new q.nodes (omega arith, omega arith) in
          record {
            fuel = omega arith;
            cells = plug_cells at p 1 d u c none t (64 - l) way (sym (insert-none at p c (64 - l)));
            levels = plug-depth at p 1 d u c none t 1 way refl;
            most = omega arith;
            count = omega (arith, plug-nodes at p 1 d u c none t way);
            more = omega arith;
            top = refl;
            renews = plug_renews at p (Between q.nodes (q.nodes + 1)) 1 d u c none t way renews;
            once = plug_once at p (Between q.nodes (q.nodes + 1)) 1 d u c none t way renews tt (old q.nodes (q.nodes + 1) u (reach-each at p l q.extent h.tree d u r (λ j. j < q.nodes) h.below)) (reach-once at p l q.extent h.tree d u r h.once);
          }

      -- it splits a leaf at another point
      pub splits : (s i : ℕ) (js : List ℕ) (g : ℕ) → Reaches at p l q.extent h.tree d (leaf s (i ∷ js)) → same at i p ≡ false → shared_levels at p (64 - l) d i ≡ g → g < 64 - l
          → Replaces l (64 - l) d (leaf s (i ∷ js)) (split_t at p (i ∷ js) g d s q.nodes) q.nodes (q.nodes + (g + 2)) (g + 2)
      splits s i js g r ne e lt =
          let z : l ≤ 64 = leaf-level s (i ∷ js) r in
          let b : s < q.nodes = reach-each at p l q.extent h.tree d (leaf s (i ∷ js)) r (λ j. j < q.nodes) h.below in
          record {
            fuel = omega arith;
            cells = split_cells at p i js g (64 - l) d d s q.nodes ne lt e;
            levels = split-depth at p (i ∷ js) g d s q.nodes ∙ greater g;
            most = omega arith;
            count = omega (arith, split-nodes at p (i ∷ js) g (64 - l) d s q.nodes lt e);
            more = omega arith;
            top = split-lead at p (i ∷ js) g d s q.nodes;
            renews = λ P a new. split_each at p P (i ∷ js) g d s q.nodes a (λ j y z. new j (y, z));
            once = split_once at p (i ∷ js) g d s q.nodes b;
          }
        where
          greater : (g : ℕ) → g + 2 ≡ max 1 (g + 2)
          greater g = omega arith

      -- the two stay together to the last level
      pub too-deep : (s i : ℕ) (js : List ℕ) → Reaches at p l q.extent h.tree d (leaf s (i ∷ js)) → same at i p ≡ false → shared_levels at p (64 - l) d i ≡ 64 - l → (w : List ℕ) → more_check at is w q.extent p ≡ refused (refusal 6 p)
      too-deep s i js r ne e w =
          let c = q.extent in
          let z : l ≤ 64 = leaf-level s (i ∷ js) r in
          let f : up l (suc (64 - l)) ≡ 65 = up_is l (suc (64 - l)) ∙ levels z in
          fits-deep (slots_of w) p (tree_in at c (is ++ (p ∷ [])))
          (insert-refused at p (in_cells c h.tree) c is (holds_is is m q h)
          (subst (λ (k : ℕ). k < depth (insert_t at p c k (in_cells c h.tree))) f (plug-deep at p l c h.tree d (leaf s (i ∷ js)) (suc (64 - l)) r (split-deep at p i js (64 - l) d d ne e))))
        where
          levels : l ≤ 64 → l + suc (64 - l) ≡ 65
          levels z = omega arith

      -- ---- and what is written

      -- nothing, for a chain
      pub joined-stored : (s i : ℕ) (js : List ℕ) → Reaches at p l q.extent h.tree d (leaf s (i ∷ js)) → Stored m (leaf s (i ∷ js ++ (p ∷ [])))
      joined-stored s i js r = record { tag = (reach-stored at p l q.extent h.tree d (leaf s (i ∷ js)) r m h.stored).tag }

      module _ (s : ℕ) (u0 u1 u2 u3 : Tree ℕ) (r : Reaches at p l q.extent h.tree d (node s u0 u1 u2 u3)) (room : (q.nodes + 1) * slot_words ≤ length m) (small : q.nodes + 1 < 2 ^ 32) where
        abbrev hangs-in : ℕ → List ℕ
        hangs-in k = hung p m s k q.nodes

        pub hung-length : (k : ℕ) → length (hangs-in k) ≡ length m
        unfolding hung
        hung-length k = simp (leaf_length, internal_length)

        pub hung-same : (k j : ℕ) → j < q.nodes → (s + 1 ≡ j + 1 → ⊥) → Same m (hangs-in k) j
        unfolding hung
        hung-same k j lt n = slot-trans m _ _ j (internal_same m s _ j (λ e. n (omega arith))) (leaf_same _ q.nodes p j (omega arith))

        pub hung-stored : Stored (hangs-in (side at p d)) (over s (upd (pick u0 u1 u2 u3) (side at p d) (leaf q.nodes (p ∷ []))))
        unfolding hung
        hung-stored =
            let u : Tree ℕ = node s u0 u1 u2 u3 in
            let x : ℕ = q.nodes in
            let i : ℕ = side at p d in
            let k : ℕ → Tree ℕ = pick u0 u1 u2 u3 in
            let t : Tree ℕ = leaf x (p ∷ []) in
            let g : Stored m u = reach-stored at p l q.extent h.tree d u r m h.stored in
            let b : EachSlot (λ j. j < x) u = reach-each at p l q.extent h.tree d u r (λ j. j < x) h.below in
            let o : Once u = reach-once at p l q.extent h.tree d u r h.once in
            let ks : List ℕ = set (kids m s) i (x + 1) in
            let numbers : ks ≡ leads (upd k i t) = ap (λ (y : List ℕ). set y i (x + 1)) g.0.kids ∙ leads-upd k i (x + 1) t (side_lt at p d) refl in
            let m1 : List ℕ = put_internal m s ks in
            let w : List ℕ = put_leaf m1 x p in
            let own : Same m1 w s = leaf_same m1 x p s (omega (arith, b.0)) in
            let l : ℕ → Tree ℕ = upd k i t in
            stored-over w s l
            (node_shown own
            (node_put m s ks (l 0) (l 1) (l 2) (l 3) (omega (arith, b.0))
            (leads-small (x + 1) l small (upd-below (λ r u. lead u ≤ x + 1) k i t (omega arith) (λ r l n. omega (arith, lead_le x (k r) (each_child u0 u1 u2 u3 s (λ j. j < x) b r))))) numbers))
            (upd-below (λ r u. Stored w u) k i t (leaf_put m1 x p (p ∷ []) (simp internal_length (omega arith)) refl)
            (λ y z n. frame m w (λ j. (j < x) × (j ≡ s → ⊥)) (λ j e. slot-trans m m1 w j (internal_same m s ks j e.1) (leaf_same m1 x p j (omega (arith, e.0)))) (k y)
            (each_both (λ j. j < x) (λ j. j ≡ s → ⊥) (k y) (each_child u0 u1 u2 u3 s (λ j. j < x) b y) (once_out s u0 u1 u2 u3 o y)) (stored_child u0 u1 u2 u3 s m g y)))
