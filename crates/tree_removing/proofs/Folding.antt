-- The last internal node on a way: it is gathered, or its one child is a leaf.
use mathlib.Core.Path.{◌≡◌, refl, sym, ap, ◌∙◌, subst}
use mathlib.Core.List.{List, [], ◌∷◌, ◌++◌, append-nil}
use Prim.Native.Nat.{ℕ, zero, suc, ◌+◌, ◌-◌, ◌≤◌, ◌<◌}
use native.Mathlib.Omega.{arith}
use lib.Ieee.{Float}
use borrow.Author.Tests.{ne_eqb}
use Rattle.std.specs.Prelude.{cond, count_by, not, ◌==◌}
use Rattle.rules.specs.declared.Extent.{Extent}
use Rattle.rules.specs.Cell.{quarter}
use Rattle.rules.specs.Tree.{Tree, none, leaf, node, nodes}
use Rattle.rules.proofs.CellCount.{Fruitful}
use Rattle.rules.proofs.CellWithout.{joined, leaves-nodes, joined_node}
use Rattle.tree_slots.specs.declared.Quadtree.{Quadtree}
use Rattle.tree_slots.specs.Slots.{word, kids, InSlots}
use Rattle.tree_slots.specs.Trees.{in_cells, lead, InternalIn, SlotsLent}
use Rattle.tree_slots.proofs.Trees.{each_map, cells_nodes}
use Rattle.tree_leaves.specs.Leaf.{side}
use Rattle.tree_placing.specs.Add.{Stored, pick}
use Rattle.tree_placing.proofs.SlotsTree.{lead_each, lead-none, leads, each_child, stored_child}
use Rattle.tree_placing.proofs.Roots.{root_leaf}
use Rattle.tree_placing.proofs.AddWay.{reach-all, reach-each, reach-stored}
use Rattle.tree_removing.specs.Remove.{gather, Tidies, FoldsAt}
use Rattle.tree_removing.specs.Ways.{first_of, some_kid, Tops, Outer, Innermost}
use Rattle.tree_removing.specs.declared.way.Edge.{Edge}
use Rattle.tree_removing.proofs.Plug.{fruit_child}
use Rattle.tree_removing.proofs.Turns.{some-kid}
use Rattle.tree_removing.proofs.Gather.{gather_leaf, gather_none, gather_node, gather-stays}

-- ---- four numbers

-- how many of them there are
abbrev counted : List ℕ → ℕ
counted ks = count_by (λ k. not (k == 0)) ks

one : (a : ℕ) → ◌≡◌ {A = ℕ} (cond (not (suc a == 0)) 1 0) 1
one a = rw (ne_eqb (suc a) 0 (λ z. omega arith))

two-kids : (a0 a1 a2 a3 n0 n1 n2 n3 : ℕ) → (0 < a0 → 1 ≤ n0) → (0 < a1 → 1 ≤ n1) → (0 < a2 → 1 ≤ n2) → (0 < a3 → 1 ≤ n3) → 0 < first_of a0 (first_of a1 (first_of a2 a3)) → (counted (a0 ∷ a1 ∷ a2 ∷ a3 ∷ []) ≡ 1 → ⊥) → 2 ≤ n0 + n1 + n2 + n3
two-kids (suc a0) (suc a1) a2 a3 n0 n1 n2 n3 h0 h1 h2 h3 l ne = omega (arith, h0 (omega arith), h1 (omega arith))
two-kids (suc a0) zero (suc a2) a3 n0 n1 n2 n3 h0 h1 h2 h3 l ne = omega (arith, h0 (omega arith), h2 (omega arith))
two-kids (suc a0) zero zero (suc a3) n0 n1 n2 n3 h0 h1 h2 h3 l ne = omega (arith, h0 (omega arith), h3 (omega arith))
two-kids (suc a0) zero zero zero n0 n1 n2 n3 h0 h1 h2 h3 l ne = absurd (ne (omega (arith, one a0)))
two-kids zero (suc a1) (suc a2) a3 n0 n1 n2 n3 h0 h1 h2 h3 l ne = omega (arith, h1 (omega arith), h2 (omega arith))
two-kids zero (suc a1) zero (suc a3) n0 n1 n2 n3 h0 h1 h2 h3 l ne = omega (arith, h1 (omega arith), h3 (omega arith))
two-kids zero (suc a1) zero zero n0 n1 n2 n3 h0 h1 h2 h3 l ne = absurd (ne (omega (arith, one a1)))
two-kids zero zero (suc a2) (suc a3) n0 n1 n2 n3 h0 h1 h2 h3 l ne = omega (arith, h2 (omega arith), h3 (omega arith))
two-kids zero zero (suc a2) zero n0 n1 n2 n3 h0 h1 h2 h3 l ne = absurd (ne (omega (arith, one a2)))
two-kids zero zero zero (suc a3) n0 n1 n2 n3 h0 h1 h2 h3 l ne = absurd (ne (omega (arith, one a3)))
two-kids zero zero zero zero n0 n1 n2 n3 h0 h1 h2 h3 l ne = absurd (omega arith)

-- one alone is the sum of all
one-sum : (a0 a1 a2 a3 : ℕ) → counted (a0 ∷ a1 ∷ a2 ∷ a3 ∷ []) ≡ 1 → first_of a0 (first_of a1 (first_of a2 a3)) ≡ a0 + a1 + a2 + a3
one-sum (suc a0) (suc a1) a2 a3 e = absurd (omega (arith, e, one a0, one a1))
one-sum (suc a0) zero (suc a2) a3 e = absurd (omega (arith, e, one a0, one a2))
one-sum (suc a0) zero zero (suc a3) e = absurd (omega (arith, e, one a0, one a3))
one-sum (suc a0) zero zero zero e = omega arith
one-sum zero (suc a1) (suc a2) a3 e = absurd (omega (arith, e, one a1, one a2))
one-sum zero (suc a1) zero (suc a3) e = absurd (omega (arith, e, one a1, one a3))
one-sum zero (suc a1) zero zero e = omega arith
one-sum zero zero (suc a2) (suc a3) e = absurd (omega (arith, e, one a2, one a3))
one-sum zero zero (suc a2) zero e = omega arith
one-sum zero zero zero a3 e = omega arith

lead-nodes : (t : Tree ℕ) → 0 < lead t → 1 ≤ nodes t
lead-nodes none l = absurd (omega arith)
lead-nodes (leaf s is) l = omega arith
lead-nodes (node s t0 t1 t2 t3) l = omega arith

-- one child alone, of the number v
record Alone (k : ℕ → Tree ℕ) (v : ℕ) : Type 0 where
  r : ℕ
  less : r < 4
  is : lead (k r) ≡ v
  total : nodes (k 0) + nodes (k 1) + nodes (k 2) + nodes (k 3) ≡ nodes (k r)
  joins : (d : Extent) (z : ℕ) (js : List ℕ) → k r ≡ leaf z js → joined d (in_cells (quarter 0 d) (k 0)) (in_cells (quarter 1 d) (k 1)) (in_cells (quarter 2 d) (k 2)) (in_cells (quarter 3 d) (k 3)) ≡ leaf d js

alone : (k : ℕ → Tree ℕ) → some_kid (leads k) ≡ lead (k 0) + lead (k 1) + lead (k 2) + lead (k 3) → 0 < some_kid (leads k) → Alone k (some_kid (leads k))
alone k e l = go (lead (k 0)) (lead (k 1)) (lead (k 2)) (lead (k 3)) refl refl refl refl e l
  where
    go : (a0 a1 a2 a3 : ℕ) → lead (k 0) ≡ a0 → lead (k 1) ≡ a1 → lead (k 2) ≡ a2 → lead (k 3) ≡ a3 → first_of a0 (first_of a1 (first_of a2 a3)) ≡ a0 + a1 + a2 + a3 → 0 < first_of a0 (first_of a1 (first_of a2 a3))
        → Alone k (first_of a0 (first_of a1 (first_of a2 a3)))
    go (suc a0) a1 a2 a3 e0 e1 e2 e3 s l =
        let n1 : k 1 ≡ none = lead-none (k 1) (omega (arith, e1, s)) in
        let n2 : k 2 ≡ none = lead-none (k 2) (omega (arith, e2, s)) in
        let n3 : k 3 ≡ none = lead-none (k 3) (omega (arith, e3, s)) in
        record { r = 0; less = omega arith; is = e0; total = omega (arith, ap nodes n1, ap nodes n2, ap nodes n3); joins = λ d z js w. rw (w, n1, n2, n3) (ap (leaf d) (append-nil ((js ++ []) ++ []) ∙ append-nil (js ++ []) ∙ append-nil js)) }
    go zero (suc a1) a2 a3 e0 e1 e2 e3 s l =
        let n0 : k 0 ≡ none = lead-none (k 0) e0 in
        let n2 : k 2 ≡ none = lead-none (k 2) (omega (arith, e2, s)) in
        let n3 : k 3 ≡ none = lead-none (k 3) (omega (arith, e3, s)) in
        record { r = 1; less = omega arith; is = e1; total = omega (arith, ap nodes n0, ap nodes n2, ap nodes n3); joins = λ d z js w. rw (w, n0, n2, n3) (ap (leaf d) (append-nil (js ++ []) ∙ append-nil js)) }
    go zero zero (suc a2) a3 e0 e1 e2 e3 s l =
        let n0 : k 0 ≡ none = lead-none (k 0) e0 in
        let n1 : k 1 ≡ none = lead-none (k 1) e1 in
        let n3 : k 3 ≡ none = lead-none (k 3) (omega (arith, e3, s)) in
        record { r = 2; less = omega arith; is = e2; total = omega (arith, ap nodes n0, ap nodes n1, ap nodes n3); joins = λ d z js w. rw (w, n0, n1, n3) (ap (leaf d) (append-nil js)) }
    go zero zero zero (suc a3) e0 e1 e2 e3 s l =
        let n0 : k 0 ≡ none = lead-none (k 0) e0 in
        let n1 : k 1 ≡ none = lead-none (k 1) e1 in
        let n2 : k 2 ≡ none = lead-none (k 2) e2 in
        record { r = 3; less = omega arith; is = e3; total = omega (arith, ap nodes n0, ap nodes n1, ap nodes n2); joins = λ d z js w. rw (w, n0, n1, n2) }
    go zero zero zero zero e0 e1 e2 e3 s l = absurd (omega arith)

module _ (at : List Float) (m : List ℕ) (q : Quadtree) (i : ℕ) (t : Tree ℕ) (g : Tidies at m q i t) where
  abbrev c : Extent
  c = q.extent

  lent : SlotsLent m t
  lent = each_map (λ j. j < q.nodes) (λ j. InSlots j m) (λ j y. omega (arith, y, g.room)) t g.packed.slots

  -- ---- no internal root

  pub lone_none : q.root ≡ 0 → gather at i q.extent (in_cells q.extent t) ≡ in_cells q.extent t
  lone_none e = subst (λ (u : Tree ℕ). gather at i c (in_cells c u) ≡ in_cells c u) (sym (lead-none t (sym g.packed.leads ∙ e))) (gather_none at i c)

  pub lone_leaf : (q.root ≡ 0 → ⊥) → (InternalIn m (q.root - 1) → ⊥) → gather at i q.extent (in_cells q.extent t) ≡ in_cells q.extent t
  lone_leaf n e =
      let (s, js, z) = root_leaf m t q.root g.packed.leads (omega (arith, n)) e g.packed.stored in
      subst (λ (u : Tree ℕ). gather at i c (in_cells c u) ≡ in_cells c u) (sym z) (gather_leaf at i c c js)

  -- ---- an internal root

  pub lone_tops : (q.root ≡ 0 → ⊥) → InternalIn m (q.root - 1) → Tops at m q i t
  lone_tops n e = record { leads = g.packed.leads; rooted = omega (arith, n); internal = e; stored = g.packed.stored; lent = lent; levels = g.packed.most; place = g.place }

  module _ (e : Edge) (h : Innermost at q.extent t i e) where
    abbrev k : ℕ → Tree ℕ
    k = pick h.t0 h.t1 h.t2 h.t3

    abbrev u : Tree ℕ
    u = node e.slot h.t0 h.t1 h.t2 h.t3

    fruit : Fruitful (node e.slot h.t0 h.t1 h.t2 h.t3)
    fruit = reach-all at i Fruitful (λ s t0 t1 t2 t3 h. fruit_child s t0 t1 t2 t3 h) h.level c t h.cell u h.way g.packed.fruitful

    pub lone-slot : InSlots e.slot m
    lone-slot = (reach-each at i h.level c t h.cell u h.way (λ j. InSlots j m) lent).0

    kids-are : kids m e.slot ≡ leads (pick h.t0 h.t1 h.t2 h.t3)
    kids-are = (reach-stored at i h.level c t h.cell u h.way m g.packed.stored).0.kids

    still : gather at i h.cell (in_cells h.cell u) ≡ joined h.cell (in_cells (quarter 0 h.cell) h.t0) (in_cells (quarter 1 h.cell) h.t1) (in_cells (quarter 2 h.cell) h.t2) (in_cells (quarter 3 h.cell) h.t3)
    still = gather_node at i h.cell e.slot h.t0 h.t1 h.t2 h.t3 (outer (quarter (side at i h.cell) h.cell) (k (side at i h.cell)) (subst (λ (j : ℕ). Outer (k j)) h.quadrant h.outer))
      where
        outer : (d : Extent) (v : Tree ℕ) → Outer v → gather at i d (in_cells d v) ≡ in_cells d v
        outer d none o = gather_none at i d
        outer d (leaf s is) o = gather_leaf at i d d is
        outer d (node s t0 t1 t2 t3) o = absurd o

    -- two nodes or more below it
    stays : 2 ≤ nodes h.t0 + nodes h.t1 + nodes h.t2 + nodes h.t3 → gather at i q.extent (in_cells q.extent t) ≡ in_cells q.extent t
    stays l =
        gather-stays at i h.level c t h.cell u h.way (omega arith)
        (still ∙ joined_node h.cell (in_cells (quarter 0 h.cell) h.t0) (in_cells (quarter 1 h.cell) h.t1) (in_cells (quarter 2 h.cell) h.t2) (in_cells (quarter 3 h.cell) h.t3)
        (λ z. omega (arith, cells_nodes (quarter 0 h.cell) h.t0, cells_nodes (quarter 1 h.cell) h.t1, cells_nodes (quarter 2 h.cell) h.t2, cells_nodes (quarter 3 h.cell) h.t3)))

    module _ (ks : List ℕ) (ek : ks ≡ kids m e.slot) where
      count-is : counted ks ≡ counted (leads (pick h.t0 h.t1 h.t2 h.t3))
      count-is = ap counted (ek ∙ kids-are)

      kid_is : some_kid ks ≡ some_kid (leads (pick h.t0 h.t1 h.t2 h.t3))
      kid_is = ap some_kid (ek ∙ kids-are)

      -- it has a child
      pub lone-some : 0 < some_kid ks
      lone-some = omega (arith, (some-kid e.slot k fruit.0).3, kid_is)

      pub lone-many : (counted ks ≡ 1 → ⊥) → gather at i q.extent (in_cells q.extent t) ≡ in_cells q.extent t
      lone-many n =
          stays (two-kids (lead h.t0) (lead h.t1) (lead h.t2) (lead h.t3) (nodes h.t0) (nodes h.t1) (nodes h.t2) (nodes h.t3) (lead-nodes h.t0) (lead-nodes h.t1) (lead-nodes h.t2) (lead-nodes h.t3)
          (omega (arith, lone-some, kid_is)) (λ z. n (count-is ∙ z)))

      module _ (one : counted ks ≡ 1) where
        only : Alone (pick h.t0 h.t1 h.t2 h.t3) (some_kid ks)
        only = subst (Alone k) (sym kid_is) (alone k (one-sum (lead h.t0) (lead h.t1) (lead h.t2) (lead h.t3) (sym count-is ∙ one)) (omega (arith, lone-some, kid_is)))

        nonzero : some_kid ks ≡ some_kid ks - 1 + 1
        nonzero = omega (arith, lone-some)

        pub lone-child : (0 < some_kid ks) × InSlots (some_kid ks - 1) m
        lone-child = (
          lone-some,
          lead_each (λ j. InSlots j m) (k only.r) (some_kid ks - 1) (only.is ∙ nonzero)
              (each_child h.t0 h.t1 h.t2 h.t3 e.slot (λ j. InSlots j m) (reach-each at i h.level c t h.cell u h.way (λ j. InSlots j m) lent) only.r),
        )

        st : Stored m (k only.r)
        st = stored_child h.t0 h.t1 h.t2 h.t3 e.slot m (reach-stored at i h.level c t h.cell u h.way m g.packed.stored) only.r

        pub lone-inner : InternalIn m (some_kid ks - 1) → gather at i q.extent (in_cells q.extent t) ≡ in_cells q.extent t
        lone-inner n = stays (omega (arith, only.total, go (k only.r) only.is st (fruit_child e.slot h.t0 h.t1 h.t2 h.t3 fruit only.r)))
          where
            go : (v : Tree ℕ) → lead v ≡ some_kid ks → Stored m v → Fruitful v → 2 ≤ nodes v
            go none w s f = absurd (omega (arith, lone-some))
            go (leaf z is) w s f = let y : z ≡ some_kid ks - 1 = omega arith in absurd (omega (arith, s.tag, n, ap (λ (j : ℕ). word m j 0) y))
            go (node z v0 v1 v2 v3) w s f = omega (arith, f.0, leaves-nodes v0, leaves-nodes v1, leaves-nodes v2, leaves-nodes v3)

        pub lone-fold : (InternalIn m (some_kid ks - 1) → ⊥) → FoldsAt at q.extent t i e.slot (some_kid ks - 1)
        lone-fold n = go (k only.r) refl only.is st
          where
            go : (v : Tree ℕ) → pick h.t0 h.t1 h.t2 h.t3 only.r ≡ v → lead v ≡ some_kid ks → Stored m v → FoldsAt at q.extent t i e.slot (some_kid ks - 1)
            go none y w s = absurd (omega (arith, lone-some))
            go (node z v0 v1 v2 v3) y w s = let x : some_kid ks - 1 ≡ z = omega arith in absurd (n (ap (λ (j : ℕ). word m j 0) x ∙ s.0.tag))
            go (leaf z js) y w s =
                let x : z ≡ some_kid ks - 1 = omega arith in
                record {
                  level = h.level;
                  cell = h.cell;
                  t0 = h.t0;
                  t1 = h.t1;
                  t2 = h.t2;
                  t3 = h.t3;
                  way = h.way;
                  which = only.r;
                  less = only.less;
                  chain = js;
                  child = y ∙ ap (λ (j : ℕ). leaf j js) x;
                  two = omega (arith, only.total, ap nodes y);
                  gathered = still ∙ only.joins h.cell z js y;
                }
