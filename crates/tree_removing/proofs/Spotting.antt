-- Where the leaf of a particle stands in the rule's tree in the slots.
use mathlib.Core.Path.{◌≡◌, refl, sym, ap, ◌∙◌, subst}
use mathlib.Core.List.{List}
use Prim.Native.Nat.{ℕ, suc, ◌+◌, ◌-◌, ◌≤◌, ◌<◌}
use native.Mathlib.Omega.{arith}
use lib.ListN.{get_or}
use lib.Ieee.{Float}
use Rattle.std.specs.Prelude.{Some, None}
use Rattle.rules.specs.declared.Extent.{Extent}
use Rattle.rules.specs.Cell.{quarter}
use Rattle.rules.specs.Tree.{Tree, none, leaf, node}
use Rattle.rules.proofs.CellList.{In}
use Rattle.rules.proofs.CellIs.{Is}
use Rattle.tree_slots.specs.declared.Quadtree.{Quadtree}
use Rattle.tree_slots.specs.Slots.{kids, InSlots}
use Rattle.tree_slots.specs.Trees.{in_cells, lead, InternalIn}
use Rattle.tree_placing.specs.Add.{pick, Reaches}
use Rattle.tree_placing.proofs.SlotsTree.{leads-at}
use Rattle.tree_placing.proofs.Roots.{root_leaf, root_slot}
use Rattle.tree_placing.proofs.AddWay.{side_lt, reach-each, reach-stored, reach-down}
use Rattle.tree_placing.proofs.AddHold.{holds_most, holds_is, reached}
use Rattle.tree_removing.specs.Ways.{Tops, Outer, Innermost}
use Rattle.tree_removing.specs.Take.{Finds, Hangs, Spotted}
use Rattle.tree_removing.specs.declared.way.Edge.{Edge}
use Rattle.tree_removing.proofs.Known.{known-lent}

module _ (at : List Float) (is m : List ℕ) (q : Quadtree) (i : ℕ) (g : Finds at is m q i) where
  abbrev c : Extent
  c = q.extent

  pub rooted : 0 < q.root
  rooted = go g.holds.tree g.holds.root (holds_is at is m q g.holds)
    where
      go : (u : Tree ℕ) → q.root ≡ lead u → Is at q.extent (in_cells q.extent u) is → 0 < q.root
      go none e h = absurd (subst (In i) h g.within)
      go (leaf s js) e h = omega arith
      go (node s t0 t1 t2 t3) e h = omega arith

  pub root_there : InSlots (q.root - 1) m
  root_there = root_slot at is m q g.holds rooted

  pub spot_root : (InternalIn m (q.root - 1) → ⊥) → Spotted at is m q i (record { leaf = q.root - 1; above = None })
  spot_root n =
      let h = g.holds in
      let (s, js, z) = root_leaf m h.tree q.root h.root rooted n h.stored in
      let y : s ≡ q.root - 1 = omega (arith, h.root, ap lead z) in
      record { holds = h; chain = js; root = λ _. z ∙ ap (λ (j : ℕ). leaf j js) y; below = λ e n. absurd cc }

  pub spot_tops : InternalIn m (q.root - 1) → Tops at m q i g.holds.tree
  spot_tops z =
      let h = g.holds in
      record { leads = h.root; rooted = rooted; internal = z; stored = h.stored; lent = known-lent at is m q h; levels = holds_most at is m q h; place = (g.points i g.within).1 }

  module _ (e : Edge) (h : Innermost at q.extent g.holds.tree i e) where
    abbrev t : Tree ℕ
    t = g.holds.tree

    abbrev k : ℕ → Tree ℕ
    k = pick h.t0 h.t1 h.t2 h.t3

    abbrev u : Tree ℕ
    u = node e.slot h.t0 h.t1 h.t2 h.t3

    pub spot-slot : InSlots e.slot m × (e.quadrant < 4)
    spot-slot = (
      omega (arith, (reach-each at i h.level c t h.cell u h.way (λ j. j < q.nodes) g.holds.below).0, g.holds.room),
      subst (λ (j : ℕ). j < 4) (sym h.quadrant) (side_lt at i h.cell),
    )

    -- the child on the way is the leaf of i
    leaf-there : (x : ℕ) × (js : List ℕ) × (pick h.t0 h.t1 h.t2 h.t3 e.quadrant ≡ leaf x js)
    leaf-there =
        let d = quarter e.quadrant h.cell in
        let way : Reaches at i (suc h.level) c t d (k e.quadrant) = subst (λ (j : ℕ). Reaches at i (suc h.level) c t (quarter j h.cell) (k j)) (sym h.quadrant)
        (reach-down at i h.level c t h.cell e.slot h.t0 h.t1 h.t2 h.t3 h.way) in
        let (js, a, f) = reached at i is m q g.holds (suc h.level) d (k e.quadrant) way in
        go (k e.quadrant) h.outer js a (f i g.within (g.points i g.within).0)
      where
        go : (v : Tree ℕ) → Outer v → (js : List ℕ) → Is at (quarter e.quadrant h.cell) (in_cells (quarter e.quadrant h.cell) v) js → In i js → (x : ℕ) × (js : List ℕ) × (v ≡ leaf x js)
        go none o js a b = absurd (subst (In i) a b)
        go (leaf x js) o ks a b = (x, js, refl)
        go (node s t0 t1 t2 t3) o js a b = absurd o

    module _ (ks : List ℕ) (ek : ks ≡ kids m e.slot) where
      number : get_or ks e.quadrant 0 ≡ leaf-there.0 + 1
      number =
          ap (λ (l : List ℕ). get_or l e.quadrant 0) (ek ∙ (reach-stored at i h.level c t h.cell u h.way m g.holds.stored).0.kids) ∙ leads-at k e.quadrant spot-slot.1 ∙ ap lead leaf-there.2

      pub spot-child : 1 ≤ get_or ks e.quadrant 0
      spot-child = omega (arith, number)

      pub spot-below : Spotted at is m q i (record { leaf = get_or ks e.quadrant 0 - 1; above = Some e })
      spot-below =
          let (x, js, w) = leaf-there in
          let y : x ≡ get_or ks e.quadrant 0 - 1 = omega (arith, number) in
          record {
            holds = g.holds;
            chain = js;
            root = λ z. absurd cc;
            below = λ d z. subst (λ (d : Edge). Hangs at c t i d.slot d.quadrant (get_or ks e.quadrant 0 - 1) js) (let f : e ≡ d = cc in f)
                (record { level = h.level; cell = h.cell; t0 = h.t0; t1 = h.t1; t2 = h.t2; t3 = h.t3; way = h.way; quadrant = h.quadrant; child = w ∙ ap (λ (j : ℕ). leaf j js) y });
          }
