-- The turns of the loops that find a particle's way, count the levels that two share, and split a leaf.
use mathlib.Core.Path.{◌≡◌, sym, ap, ◌∙◌, subst}
use mathlib.Core.List.{List, [], ◌∷◌}
use Prim.Native.Nat.{ℕ, ◌+◌, ◌-◌, ◌≤◌, ◌<◌}
use native.Mathlib.Omega.{arith}
use native.Mathlib.Numerals.{add-one}
use lib.ListN.{length, get_or}
use lib.Ieee.{Float}
use Rattle.rules.specs.declared.Extent.{Extent}
use Rattle.rules.specs.Cell.{quarter}
use Rattle.rules.specs.Tree.{Tree, none, leaf, node}
use Rattle.tree_slots.specs.declared.Quadtree.{Quadtree}
use Rattle.tree_slots.specs.Slots.{word, kids, InSlots}
use Rattle.tree_leaves.specs.Leaf.{side}
use Rattle.tree_slots.specs.Trees.{lead, InternalIn}
use Rattle.tree_placing.specs.Add.{Holds, pick, Reaches, FoundLeaf, FoundHole}
use Rattle.tree_placing.proofs.SlotsTree.{lead_each, lead-none, leads-at}
use Rattle.tree_placing.proofs.AddWay.{side_lt, reach-each, reach-stored, reach-down}
use Rattle.tree_placing.proofs.AddHold.{reached, node-level}

module _ (at : List Float) (p : ℕ) where
  -- ---- the way down

  -- the slot s stands l levels down on the way of p
  abbrev pub Way : (is m : List ℕ) (q : Quadtree) → Holds at is m q → ℕ → Extent → ℕ → Type 0
  Way is m q h s c l = (u : Tree ℕ) × Reaches at p l q.extent h.tree c u × (lead u ≡ s + 1)

  module _ (is m : List ℕ) (q : Quadtree) (h : Holds at is m q) (s l : ℕ) (c : Extent) (u : Tree ℕ) (r : Reaches at p l q.extent h.tree c u) (e : lead u ≡ s + 1) where
    pub way_slot : InSlots s m
    way_slot = let b = lead_each (λ j. j < q.nodes) u s e (reach-each at p l q.extent h.tree c u r (λ j. j < q.nodes) h.below) in omega (arith, h.room)

  pub way_leaf : (is m : List ℕ) (q : Quadtree) (h : Holds at is m q) (s l : ℕ) (c : Extent) (u : Tree ℕ) → Reaches at p l q.extent h.tree c u → lead u ≡ s + 1 → (InternalIn m s → ⊥)
      → FoundLeaf at is m q p s l (word m s 0 - 1) c
  way_leaf is m q h s l c none r e n = absurd (omega arith)
  way_leaf is m q h s l c (leaf z []) r e n = let (js, g, f) = reached at p is m q h l c (leaf z []) r in absurd (omega (arith, g.2, ap length g.1))
  way_leaf is m q h s l c (leaf z (i ∷ js)) r e n =
      let y : z ≡ s = omega arith in
      let t = reach-stored at p l q.extent h.tree c (leaf z (i ∷ js)) r m h.stored in
      let f : i ≡ word m s 0 - 1 = omega (arith, t.tag, ap (λ (j : ℕ). word m j 0) y) in
      record { holds = h; rest = js; reached = subst (λ (f : ℕ). Reaches at p l q.extent h.tree c (leaf s (f ∷ js))) f (subst (λ (s : ℕ). Reaches at p l q.extent h.tree c (leaf s (i ∷ js))) y r) }
  way_leaf is m q h s l c (node z t0 t1 t2 t3) r e n =
      let y : z ≡ s = omega arith in
      absurd (n (ap (λ (j : ℕ). word m j 0) (sym y) ∙ (reach-stored at p l q.extent h.tree c (node z t0 t1 t2 t3) r m h.stored).0.tag))

  -- an internal node: its level, and its child on the way
  pub record Inner (is m : List ℕ) (q : Quadtree) (h : Holds at is m q) (s l : ℕ) (c : Extent) : Type 0 where
    pub t0 : Tree ℕ
    pub t1 : Tree ℕ
    pub t2 : Tree ℕ
    pub t3 : Tree ℕ
    pub way : Reaches at p l q.extent h.tree c (node s t0 t1 t2 t3)
    pub level : l ≤ 63
    pub child : get_or (kids m s) (side at p c) 0 ≡ lead (pick t0 t1 t2 t3 (side at p c))

  pub way-inner : (is m : List ℕ) (q : Quadtree) (h : Holds at is m q) (s l : ℕ) (c : Extent) (u : Tree ℕ) → Reaches at p l q.extent h.tree c u → lead u ≡ s + 1 → InternalIn m s → Inner is m q h s l c
  way-inner is m q h s l c none r e n = absurd (omega arith)
  way-inner is m q h s l c (leaf z js) r e n =
      let y : z ≡ s = omega arith in
      absurd (omega (arith, ap (λ (j : ℕ). word m j 0) y, (reach-stored at p l q.extent h.tree c (leaf z js) r m h.stored).tag))
  way-inner is m q h s l c (node z t0 t1 t2 t3) r e n =
      let y : z ≡ s = omega arith in
      let t = reach-stored at p l q.extent h.tree c (node z t0 t1 t2 t3) r m h.stored in
      record {
        t0 = t0;
        t1 = t1;
        t2 = t2;
        t3 = t3;
        way = subst (λ (s : ℕ). Reaches at p l q.extent h.tree c (node s t0 t1 t2 t3)) y r;
        level = node-level at p is m q h l c z t0 t1 t2 t3 r;
        child = ap (λ (j : ℕ). get_or (kids m j) (side at p c) 0) (sym y) ∙ ap (λ (ks : List ℕ). get_or ks (side at p c) 0) t.0.kids ∙ leads-at (pick t0 t1 t2 t3) (side at p c) (side_lt at p c);
      }

  module _ (is m : List ℕ) (q : Quadtree) (h : Holds at is m q) (s l : ℕ) (c : Extent) (i : Inner is m q h s l c) (k : ℕ) (e : k ≡ side at p c) where
    pub way-hole : get_or (kids m s) k 0 ≡ 0 → FoundHole at is m q p s k l
    way-hole z =
        let f : lead (pick i.t0 i.t1 i.t2 i.t3 (side at p c)) ≡ 0 = sym i.child ∙ ap (λ (j : ℕ). get_or (kids m s) j 0) (sym e) ∙ z in
        record { holds = h; cell = c; t0 = i.t0; t1 = i.t1; t2 = i.t2; t3 = i.t3; reached = i.way; quadrant = e; empty = ap (pick i.t0 i.t1 i.t2 i.t3) e ∙ lead-none (pick i.t0 i.t1 i.t2 i.t3 (side at p c)) f }

    pub way_down : (a : ℕ) → a ≡ get_or (kids m s) k 0 → (a ≡ 0 → ⊥) → (u : Tree ℕ) × Reaches at p (l + 1) q.extent h.tree (quarter k c) u × (lead u ≡ a - 1 + 1)
    way_down a z n =
        let u : Tree ℕ = pick i.t0 i.t1 i.t2 i.t3 (side at p c) in
        let f : a ≡ lead u = z ∙ ap (λ (j : ℕ). get_or (kids m s) j 0) e ∙ i.child in (
          u,
          subst (λ (k : ℕ). Reaches at p (l + 1) q.extent h.tree (quarter k c) u) (sym e)
              (subst (λ (n : ℕ). Reaches at p n q.extent h.tree (quarter (side at p c) c) u) (sym (add-one l)) (reach-down at p l q.extent h.tree c s i.t0 i.t1 i.t2 i.t3 i.way)),
          back a (lead u) f n,
        )
      where
        back : (a b : ℕ) → a ≡ b → (a ≡ 0 → ⊥) → b ≡ a - 1 + 1
        back a b e n = omega arith
