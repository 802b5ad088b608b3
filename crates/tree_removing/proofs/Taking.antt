-- A particle leaves the rule's tree in the slots: where its leaf stands, and what is left when the leaf takes another first or goes.
use mathlib.Core.Path.{◌≡◌, refl, sym, ap, ◌∙◌, subst}
use mathlib.Core.Bool.{Bool, true, false, not}
use mathlib.Core.List.{List, [], ◌∷◌}
use Prim.Native.Nat.{ℕ, zero, suc, ◌+◌, ◌-◌, ◌*◌, ◌≤◌, ◌<◌}
use native.Mathlib.Omega.{arith}
use lib.Dec.{eqb}
use lib.ListN.{length, set}
use lib.Ieee.{Float}
use borrow.Author.Tests.{eqb-true}
use Rattle.std.specs.Prelude.{Option, Some, None}
use Rattle.rules.specs.declared.Extent.{Extent}
use Rattle.rules.specs.Plain.{branch, others}
use Rattle.rules.specs.Refusal.{most_particles}
use Rattle.rules.specs.Cell.{quarter}
use Rattle.rules.specs.Tree.{Tree, none, leaf, node, depth, same, in_quarter, tree_in}
use Rattle.rules.specs.Terms.{leaves, most_nodes}
use Rattle.rules.specs.Calls.{slot_words}
use Rattle.rules.proofs.CellList.{In, in_keep}
use Rattle.rules.proofs.CellChain.{Points}
use Rattle.rules.proofs.CellWithout.{chained, without, leaves-nodes, joined_node, without-leaf, without-node, without-tree, without-fits}
use Rattle.tree_slots.specs.declared.Quadtree.{Quadtree}
use Rattle.tree_slots.specs.Slots.{kids, put_leaf, put_internal, InSlots}
use Rattle.tree_slots.specs.Trees.{first, EachSlot, in_cells, LeafIn}
use Rattle.tree_slots.proofs.Links.{rises_length, head_in}
use Rattle.tree_slots.proofs.Slots.{leaf_put, leaf_same, leaf_length, internal_length}
use Rattle.tree_slots.proofs.Trees.{cells_depth, cells_nodes}
use Rattle.tree_leaves.specs.Chain.{at_point}
use Rattle.tree_leaves.specs.Leaf.{side}
use Rattle.tree_placing.specs.Add.{Stored, Holds, pick, Reaches}
use Rattle.tree_placing.proofs.SlotsTree.{each_true, over, upd, each_child, nodes-upd}
use Rattle.tree_placing.proofs.AddWay.{side_lt, reach-all, reach-each, reach-stored, reach-down, plug, plug_each, plug-nodes, plug_once, plug-stored}
use Rattle.tree_placing.proofs.AddHold.{holds_levels, holds_few, reached, leaf-chain}
use Rattle.tree_removing.specs.Remove.{gather, Occupies, Hollow, Filled, with_less, Tidies, Tidied}
use Rattle.tree_removing.specs.Take.{Finds, Hangs, Spotted}
use Rattle.tree_removing.specs.declared.take.Spot.{Spot}
use Rattle.tree_removing.specs.declared.way.Edge.{Edge}
use Rattle.tree_removing.proofs.Plug.{plug-less}
use Rattle.tree_removing.proofs.Replace.{hollowed, cut}
use Rattle.tree_removing.proofs.Gather.{gather-down, gather_none, without-down, plug-down}
use Rattle.tree_removing.proofs.Known.{Two, two_child, known_two, known-lent, known-packed}

chained-some : {A : Type 0} (a : A) (js : List ℕ) → 0 < length js → chained a js ≡ leaf a js
chained-some a [] l = absurd (omega arith)
chained-some a (j ∷ js) l = refl

module _ (at : List Float) (i : ℕ) where
  -- ---- a chain with others left: the tree keeps its shape

  out_of : (c : Extent) (k : ℕ → Tree ℕ) (w : Tree ℕ) → in_cells (quarter (side at i c) c) w ≡ without at i (quarter (side at i c) c) (in_cells (quarter (side at i c) c) (k (side at i c)))
      → (r : ℕ) → branch (in_quarter at c r i) (λ _. without at i (quarter r c) (in_cells (quarter r c) (k r))) (λ _. in_cells (quarter r c) (k r)) ≡ in_cells (quarter r c) (upd k (side at i c) w r)
  unfolding in_quarter
  out_of c k w e r = go (eqb r (side at i c)) refl
    where
      go : (b : Bool) → eqb r (side at i c) ≡ b → branch b (λ _. without at i (quarter r c) (in_cells (quarter r c) (k r))) (λ _. in_cells (quarter r c) (k r)) ≡ in_cells (quarter r c) (branch b (λ _. w) (λ _. k r))
      go true z = sym (subst (λ (j : ℕ). in_cells (quarter j c) w ≡ without at i (quarter j c) (in_cells (quarter j c) (k j))) (sym (eqb-true r (side at i c) z)) e)
      go false z = refl

  stays-without : (n : ℕ) (c : Extent) (t : Tree ℕ) (d : Extent) (x : ℕ) (js : List ℕ) → Reaches at i n c t d (leaf x js) → Two t → chained d (others i js) ≡ leaf d (others i js)
      → in_cells c (plug at i n c t (leaf x (others i js))) ≡ without at i c (in_cells c t)
  stays-without zero c t d x js r two e =
      subst (λ (t : Tree ℕ). leaf c (others i js) ≡ without at i c (in_cells c t)) (sym r.1) (subst (λ (c : Extent). leaf c (others i js) ≡ without at i c (leaf c js)) (sym r.0) (sym (without-leaf at i d d js ∙ e)))
  stays-without (suc n) c none d x js r two e = absurd r
  stays-without (suc n) c (leaf s is) d x js r two e = absurd r
  stays-without (suc n) c (node s t0 t1 t2 t3) d x js r two e =
      let q : ℕ = side at i c in
      let k : ℕ → Tree ℕ = pick t0 t1 t2 t3 in
      let v : Tree ℕ = leaf x (others i js) in
      let w : Tree ℕ = plug at i n (quarter q c) (k q) v in
      let own = out_of c k w (stays-without n (quarter q c) (k q) d x js r (two_child s t0 t1 t2 t3 two q) e) in
      sym (without-node at i c c (in_cells (quarter 0 c) t0) (in_cells (quarter 1 c) t1) (in_cells (quarter 2 c) t2) (in_cells (quarter 3 c) t3)
      ∙ rw (own 0, own 1, own 2, own 3)
      (joined_node c (in_cells (quarter 0 c) (upd k q w 0)) (in_cells (quarter 1 c) (upd k q w 1)) (in_cells (quarter 2 c) (upd k q w 2)) (in_cells (quarter 3 c) (upd k q w 3))
      (λ y. omega (
        arith,
        y,
        two.0,
        leaves-nodes t0,
        leaves-nodes t1,
        leaves-nodes t2,
        leaves-nodes t3,
        plug-nodes at i n (quarter q c) (k q) d (leaf x js) v r,
        nodes-upd s k q w (side_lt at i c),
        cells_nodes (quarter 0 c) (upd k q w 0),
        cells_nodes (quarter 1 c) (upd k q w 1),
        cells_nodes (quarter 2 c) (upd k q w 2),
        cells_nodes (quarter 3 c) (upd k q w 3),
      ))))

-- the way goes on to the leaf
hang_way : (at : List Float) (c : Extent) (t : Tree ℕ) (i s k x : ℕ) (js : List ℕ) (h : Hangs at c t i s k x js) → Reaches at i (suc h.level) c t (quarter k h.cell) (leaf x js)
hang_way at c t i s k x js h =
    subst (Reaches at i (suc h.level) c t (quarter k h.cell)) h.child
    (subst (λ (j : ℕ). Reaches at i (suc h.level) c t (quarter j h.cell) (pick h.t0 h.t1 h.t2 h.t3 j)) (sym h.quadrant)
    (reach-down at i h.level c t h.cell s h.t0 h.t1 h.t2 h.t3 h.way))

module _ (at : List Float) (is m : List ℕ) (q : Quadtree) (i : ℕ) (g : Finds at is m q i) where
  abbrev c : Extent
  c = q.extent

  own : same at i i ≡ true
  own = (g.points i g.within).0

  points : Points at is
  points j n = (g.points j n).0

  few : q.nodes ≤ most_nodes most_particles
  few = omega (arith, holds_few at is m q g.holds, rises_length 0 most_particles is (omega arith) (λ j n. (g.points j n).2) g.rises)

  -- the tree without i is that of the others
  without-rest : (h : Holds at is m q) → without at i q.extent (in_cells q.extent h.tree) ≡ tree_in at q.extent (others i is)
  without-rest h = ap (without at i c) h.cells ∙ without-tree at i c is own (holds_levels at is m q h)

  module _ (r : Spot) (h : Spotted at is m q i r) where
    abbrev t : Tree ℕ
    t = h.holds.tree

    abbrev x : ℕ
    x = r.leaf

    abbrev js : List ℕ
    js = h.chain

    way : (l : ℕ) × (d : Extent) × Reaches at i l q.extent h.holds.tree d (leaf r.leaf h.chain)
    way = go r.above refl
      where
        go : (a : Option Edge) → r.above ≡ a → (l : ℕ) × (d : Extent) × Reaches at i l q.extent h.holds.tree d (leaf r.leaf h.chain)
        go None z = (0, q.extent, (refl, h.root z))
        go (Some e) z =
            let b = h.below e z in
            (suc b.level, quarter e.quadrant b.cell, hang_way at q.extent h.holds.tree i e.slot e.quadrant r.leaf h.chain b)

    -- its chain is that of the point of i
    chain-is : h.chain ≡ at_point at is i
    chain-is =
        let (n, d, w) = way in
        let (ks, a, f) = reached at i is m q h.holds n d (leaf x js) w in
        (leaf-chain at i is m q h.holds n d x js w points).whole i (subst (In i) (sym a.1) (f i g.within own))

    pub spot-leaf : InSlots r.leaf m × LeafIn m r.leaf (at_point at is i)
    spot-leaf =
        let (n, d, w) = way in
        (reach-each at i n c t d (leaf x js) w (λ j. InSlots j m) (known-lent at is m q h.holds), subst (LeafIn m x) chain-is (reach-stored at i n c t d (leaf x js) w m h.holds.stored))

    -- ---- others are left at the point

    pub rest-few : 0 < length (others i (at_point at is i)) → first (others i (at_point at is i)) < most_particles
    rest-few l =
        let f = first (others i (at_point at is i)) in
        (g.points f (in_keep (same at i) is f (in_keep (λ j. not (eqb j i)) (at_point at is i) f (head_in (others i (at_point at is i)) l)).0).0).2

    pub rest-holds : 0 < length (others i (at_point at is i)) → (w : List ℕ) → w ≡ put_leaf m r.leaf (first (others i (at_point at is i))) → Holds at (others i is) w q
    rest-holds some w e =
        let (n, d, y) = way in
        let f : ℕ = first (others i (at_point at is i)) in
        let v : Tree ℕ = leaf x (others i js) in
        let same-chain : others i (at_point at is i) ≡ others i js = ap (others i) (sym chain-is) in
        let st = plug-stored at i m (put_leaf m x f) (λ _. Unit {0}) n c t d (leaf x js) v y refl (leaf_put m x f (others i js) spot-leaf.0 (ap first same-chain))
        (λ j _ a. leaf_same m x f j (λ z. a (ap (λ (k : ℕ). k + 1) (sym z)))) (each_true (λ _. Unit {0}) (λ _. tt) t) h.holds.once h.holds.stored in
        record {
          tree = plug at i n c t v;
          root = h.holds.root ∙ sym st.1;
          stored = subst (λ (w : List ℕ). Stored w (plug at i n c t v)) (sym e) st.0;
          cells = stays-without at i n c t d x js y (known_two at is m q h.holds) (chained-some d (others i js) (subst (λ (l : List ℕ). 0 < length l) same-chain some)) ∙ without-rest h.holds;
          deepest = omega (arith, h.holds.deepest, plug-less at i n c t d (leaf x js) v y (omega arith));
          shallow = h.holds.shallow;
          count = omega (arith, h.holds.count, plug-nodes at i n c t d (leaf x js) v y);
          below = plug_each at i (λ s. s < q.nodes) n c t v h.holds.below (reach-each at i n c t d (leaf x js) y (λ s. s < q.nodes) h.holds.below);
          once = plug_once at i (λ _. ⊥) n c t d (leaf x js) v y (λ P h new. h) tt (each_true (λ j. ⊥ → ⊥) (λ j z. z) t) h.holds.once;
          room = subst (λ (l : ℕ). q.nodes * slot_words ≤ l) (sym (ap length e ∙ leaf_length m x f)) h.holds.room;
        }

    -- ---- none is left: the leaf goes

    module _ (gone : others i (at_point at is i) ≡ []) where
      bare : others i h.chain ≡ []
      bare = ap (others i) chain-is ∙ gone

      -- it was the root
      pub cut-root : r.above ≡ None → Holds at (others i is) m (record { extent = q.extent; root = 0; nodes = 0; deepest = 0 })
      cut-root z =
          record {
            tree = none;
            root = refl;
            stored = tt;
            cells = sym (ap (chained c) bare) ∙ sym (without-leaf at i c c js) ∙ ap (λ (u : Tree ℕ). without at i c (in_cells c u)) (sym (h.root z)) ∙ without-rest h.holds;
            deepest = omega arith;
            shallow = omega arith;
            count = refl;
            below = tt;
            once = tt;
            room = omega arith;
          }

      module _ (e : Edge) (z : r.above ≡ Some e) where
        hang : Hangs at q.extent h.holds.tree i e.slot e.quadrant r.leaf h.chain
        hang = h.below e z

        abbrev s : ℕ
        s = e.slot

        abbrev k : ℕ → Tree ℕ
        k = pick hang.t0 hang.t1 hang.t2 hang.t3

        abbrev u : Tree ℕ
        u = node e.slot hang.t0 hang.t1 hang.t2 hang.t3

        slots-below : EachSlot (λ j. j < q.nodes) (node e.slot hang.t0 hang.t1 hang.t2 hang.t3)
        slots-below = reach-each at i hang.level c t hang.cell u hang.way (λ j. j < q.nodes) h.holds.below

        child-below : r.leaf < q.nodes
        child-below = subst (EachSlot (λ j. j < q.nodes)) hang.child (each_child hang.t0 hang.t1 hang.t2 hang.t3 s (λ j. j < q.nodes) slots-below e.quadrant)

        quadrant-less : e.quadrant < 4
        quadrant-less = subst (λ (j : ℕ). j < 4) (sym hang.quadrant) (side_lt at i hang.cell)

        pub cut-slot : InSlots e.slot m × (e.quadrant < 4) × (0 < q.nodes)
        cut-slot = (omega (arith, slots-below.0, h.holds.room), quadrant-less, omega (arith, child-below))

        two : 2 ≤ leaves (node e.slot hang.t0 hang.t1 hang.t2 hang.t3)
        two = (reach-all at i Two (λ s t0 t1 t2 t3 h. two_child s t0 t1 t2 t3 h) hang.level c t hang.cell u hang.way (known_two at is m q h.holds)).0

        after : Tree ℕ
        after = plug at i hang.level q.extent h.holds.tree (over e.slot (upd (pick hang.t0 hang.t1 hang.t2 hang.t3) e.quadrant none))

        occupies-after : Occupies at (put_internal m e.slot (set (kids m e.slot) e.quadrant 0)) q.extent q.root (q.nodes - 1) (λ j. (j < q.nodes) × (j ≡ r.leaf → ⊥)) after
        unfolding after
        occupies-after =
            let one : q.nodes ≡ suc (q.nodes - 1) = omega (arith, child-below) in
            cut at i m c q.root (q.nodes - 1) (λ j. j < q.nodes) t
            (subst (λ (n : ℕ). Occupies at m c q.root n (λ j. j < q.nodes) t) one (known-packed at is m q h.holds (λ j n. ((g.points j n).2, (g.points j n).1))))
            hang.level hang.cell s hang.t0 hang.t1 hang.t2 hang.t3 hang.way e.quadrant quadrant-less x js hang.child q.nodes (omega (arith, few)) h.holds.below cut-slot.0 two

        -- what is then gathered is the tree without i
        gathers : gather at i q.extent (in_cells q.extent after) ≡ without at i q.extent (in_cells q.extent h.holds.tree)
        unfolding after
        gathers =
            let d : Extent = hang.cell in
            let o : ℕ = side at i d in
            plug-down at i (gather at i) (without at i) (gather-down at i) (without-down at i) hang.level c t d u (over s (upd k e.quadrant none)) hang.way
            (subst (λ (j : ℕ). gather at i d (in_cells d (over s (upd k j none))) ≡ without at i d (in_cells d u)) (sym hang.quadrant)
            (plug-down at i (gather at i) (without at i) (gather-down at i) (without-down at i) 1 d u (quarter o d) (k o) none (refl, refl)
            (gather_none at i (quarter o d) ∙ sym (empty (quarter o d) (k o) (ap k (sym hang.quadrant) ∙ hang.child)))))
          where
            empty : (d : Extent) (v : Tree ℕ) → v ≡ leaf r.leaf h.chain → without at i d (in_cells d v) ≡ none
            empty d v y = ap (λ (v : Tree ℕ). without at i d (in_cells d v)) y ∙ without-leaf at i d d h.chain ∙ ap (chained d) bare

        module _ (ks : List ℕ) (ek : ks ≡ kids m e.slot) (w : List ℕ) (y : w ≡ put_internal m e.slot (set ks e.quadrant 0)) where
          hollow : Hollow at w (with_less q) r.leaf after
          hollow =
              let z : w ≡ put_internal m s (set (kids m s) e.quadrant 0) = y ∙ ap (λ (l : List ℕ). put_internal m s (set l e.quadrant 0)) ek in
              hollowed at m w q x after child-below h.holds.room few (ap length z ∙ internal_length m s (set (kids m s) e.quadrant 0))
              (subst (λ (w : List ℕ). Occupies at w q.extent q.root (q.nodes - 1) (λ j. (j < q.nodes) × (j ≡ r.leaf → ⊥)) after) (sym z) occupies-after)

          pub cut-hollow : (v : Tree ℕ) × Hollow at w (with_less q) r.leaf v
          cut-hollow = (after, hollow)

          module _ (l f : Quadtree) (el : l ≡ with_less q) (w' : List ℕ) (size : length w' ≡ length m) (fill : (v : Tree ℕ) → Hollow at w l r.leaf v → Filled at w' l f v) where
            filled : Filled at w' (with_less q) f after
            filled = subst (λ (l : Quadtree). (v : Tree ℕ) → Hollow at w l r.leaf v → Filled at w' l f v) el fill after hollow

            tidies : Tidies at w' f i filled.tree
            tidies = record { packed = filled.packed; room = omega (arith, filled.nodes, h.holds.room, size); few = omega (arith, filled.nodes, few); place = (g.points i g.within).1 }

            pub cut-tidies : (v : Tree ℕ) × Tidies at w' f i v
            cut-tidies = (filled.tree, tidies)

            pub cut-done : (b : Quadtree) (v : List ℕ) → length v ≡ length w' → ((u : Tree ℕ) → Tidies at w' f i u → Tidied at v f b i u) → Holds at (others i is) v b × (b.extent ≡ q.extent)
            cut-done b v len tidy =
                let d = tidy filled.tree tidies in
                let ex : b.extent ≡ q.extent = d.extent ∙ filled.extent in
                let all : in_cells q.extent d.tree ≡ tree_in at q.extent (others i is) = subst (λ (c : Extent). in_cells c d.tree ≡ gather at i c (in_cells c filled.tree)) filled.extent d.cells
                ∙ ap (gather at i q.extent) filled.cells ∙ gathers ∙ without-rest h.holds in
                let less : depth (tree_in at q.extent (others i is)) ≤ depth (tree_in at q.extent is) = (without-fits at i c is own (holds_levels at is m q h.holds)).levels in
                let kept : b.deepest ≡ q.deepest = d.deepest ∙ filled.deepest in (
                  record {
                    tree = d.tree;
                    root = d.packed.leads;
                    stored = d.packed.stored;
                    cells = subst (λ (c : Extent). in_cells c d.tree ≡ tree_in at c (others i is)) (sym ex) all;
                    deepest = omega (arith, less, ap depth all, cells_depth c d.tree, ap depth h.holds.cells, cells_depth c t, h.holds.deepest, kept);
                    shallow = subst (λ (n : ℕ). n ≤ 64) (sym kept) h.holds.shallow;
                    count = d.packed.count;
                    below = d.packed.slots;
                    once = d.packed.once;
                    room = omega (arith, len, size, h.holds.room, slots-few b d.few);
                  },
                  ex,
                )
              where
                slots-few : (b : Quadtree) → b.nodes ≤ f.nodes → b.nodes ≤ q.nodes
                slots-few b h = omega (arith, filled.nodes, h)
