-- The node in the last slot moves to the free one.
use mathlib.Core.Path.{◌≡◌, refl, sym, ap, ◌∙◌, subst}
use mathlib.Core.List.{List}
use Prim.Native.Nat.{ℕ, zero, suc, ◌+◌, ◌*◌, ◌^◌, ◌≤◌, ◌<◌}
use native.Mathlib.Omega.{arith}
use lib.ListN.{length, set}
use lib.Ieee.{Float}
use Rattle.rules.specs.declared.Extent.{Extent}
use Rattle.rules.specs.Cell.{quarter}
use Rattle.rules.specs.Tree.{Tree, none, leaf, node, nodes}
use Rattle.rules.specs.Calls.{slot_words}
use Rattle.rules.proofs.CellCount.{leaves, Fruitful}
use Rattle.tree_slots.specs.Slots.{kids, put_internal, copied}
use Rattle.tree_slots.specs.Trees.{EachSlot, Once, in_cells, lead}
use Rattle.tree_slots.proofs.Slots.{Same, shows_trans, same_trans, internal_same, copied-same, copied-own, copied-length}
use Rattle.tree_slots.proofs.Trees.{each_map}
use Rattle.tree_leaves.specs.Leaf.{side}
use Rattle.tree_placing.specs.Add.{Stored, pick, Reaches}
use Rattle.tree_placing.proofs.SlotsTree.{each_both, each_true, lead_each, over, upd, each_child, stored_child, upd-all, upd-below, each_over, once_out, once_apart, once_child, nodes-upd}
use Rattle.tree_placing.proofs.AddWay.{reach-all, reach-each, reach-stored, reach-once, plug, plug_each}
use Rattle.tree_removing.specs.Remove.{OnWay, HasPlace, But, Occupies}
use Rattle.tree_removing.proofs.Plug.{fruit_child, leaves-upd, way_child, reach-ways}
use Rattle.tree_removing.proofs.Replace.{TakesPlace, Child, plug-out, replaced, rewire, fits_child, relabel, relabel_child}

-- ---- what a new slot leaves as it was

pub relabel_cells : (h : ℕ) (c : Extent) (t : Tree ℕ) → in_cells c (relabel h t) ≡ in_cells c t
relabel_cells h c none = refl
relabel_cells h c (leaf s is) = refl
relabel_cells h c (node s t0 t1 t2 t3) = refl

relabel-nodes : (h : ℕ) (t : Tree ℕ) → nodes (relabel h t) ≡ nodes t
relabel-nodes h none = refl
relabel-nodes h (leaf s is) = refl
relabel-nodes h (node s t0 t1 t2 t3) = refl

relabel-leaves : (h : ℕ) (t : Tree ℕ) → leaves (relabel h t) ≡ leaves t
relabel-leaves h none = refl
relabel-leaves h (leaf s is) = refl
relabel-leaves h (node s t0 t1 t2 t3) = refl

relabel-lead : (x h : ℕ) (t : Tree ℕ) → lead t ≡ x + 1 → lead (relabel h t) ≡ h + 1
relabel-lead x h none e = absurd (omega arith)
relabel-lead x h (leaf s is) e = refl
relabel-lead x h (node s t0 t1 t2 t3) e = refl

relabel_ways : (at : List Float) (h : ℕ) (c : Extent) (t : Tree ℕ) → OnWay at c t → OnWay at c (relabel h t)
relabel_ways at h c none g = g
relabel_ways at h c (leaf s is) g = g
relabel_ways at h c (node s t0 t1 t2 t3) g = g

-- the old slot stands there no more
relabel-out : (x h : ℕ) (t : Tree ℕ) → lead t ≡ x + 1 → Once t → (h ≡ x → ⊥) → EachSlot (λ j. j ≡ x → ⊥) (relabel h t)
relabel-out x h none e o n = tt
relabel-out x h (leaf s is) e o n = n
relabel-out x h (node s t0 t1 t2 t3) e o n =
    let z : s ≡ x = omega arith in
    subst (λ (y : ℕ). (h ≡ x → ⊥) × EachSlot (λ j. j ≡ y → ⊥) t0 × EachSlot (λ j. j ≡ y → ⊥) t1 × EachSlot (λ j. j ≡ y → ⊥) t2 × EachSlot (λ j. j ≡ y → ⊥) t3) z (n, o.0, o.1, o.2, o.3)

-- a subtree with the same cells
plug-same : (at : List Float) (p n : ℕ) (c : Extent) (t : Tree ℕ) (d : Extent) (u v : Tree ℕ) → Reaches at p n c t d u → in_cells d v ≡ in_cells d u → in_cells c (plug at p n c t v) ≡ in_cells c t
plug-same at p zero c t d u v r e = subst (λ (c : Extent). in_cells c v ≡ in_cells c t) (sym r.0) (subst (λ (t : Tree ℕ). in_cells d v ≡ in_cells d t) (sym r.1) e)
plug-same at p (suc n) c none d u v r e = absurd r
plug-same at p (suc n) c (leaf s is) d u v r e = absurd r
plug-same at p (suc n) c (node s t0 t1 t2 t3) d u v r e =
    let q : ℕ = side at p c in
    let k : ℕ → Tree ℕ = pick t0 t1 t2 t3 in
    let w : Tree ℕ = plug at p n (quarter q c) (k q) v in
    let own : (i : ℕ) → in_cells (quarter i c) (upd k q w i) ≡ in_cells (quarter i c) (k i) = upd-all (λ i u. in_cells (quarter i c) u ≡ in_cells (quarter i c) (k i)) k q w (plug-same at p n (quarter q c) (k q) d u v r e) (λ i ne. refl) in
    rw (own 0, own 1, own 2, own 3)

module _ (at : List Float) (m : List ℕ) (c : Extent) (n h : ℕ) (less : h < n) (room : (n + 1) * slot_words ≤ length m) where
  other : h ≡ n → ⊥
  other e = omega arith

  m1 : List ℕ
  m1 = copied m n h

  below : (t : Tree ℕ) → EachSlot (But n h) t → EachSlot (λ j. j < n + 1) t
  below t b = each_map (But n h) (λ j. j < n + 1) (λ j y. y.0) t b

  free : (t : Tree ℕ) → EachSlot (But n h) t → EachSlot (λ j. j ≡ h → ⊥) t
  free t b = each_map (But n h) (λ j. j ≡ h → ⊥) (λ j y. y.1) t b

  -- ---- the root

  pub move_root : (root : ℕ) (t : Tree ℕ) → Occupies at m c root n (But n h) t → lead t ≡ n + 1 → Occupies at (copied m n h) c (h + 1) n (λ j. j < n) (relabel h t)
  move_root root t g e =
      let k : Child (copied m n h) (λ j. j ≡ h) t (relabel h t) = relabel_child m (copied m n h) n h t e g.stored g.once g.fruitful (free t g.slots) (λ _. Unit {0}) (each_true (λ _. Unit {0}) (λ _. tt) t)
      (λ j _ ne. copied-same m n h j ne) (copied-own m n h (omega arith)) in
      record {
        leads = sym (relabel-lead n h t e);
        stored = k.stored;
        most = omega (arith, k.levels, g.most);
        count = relabel-nodes h t ∙ g.count;
        slots = each_map (λ j. (j < n + 1) × (j ≡ n → ⊥)) (λ j. j < n) (λ j y. let (a, b) = y in omega (arith, a, b)) (relabel h t)
            (each_both (λ j. j < n + 1) (λ j. j ≡ n → ⊥) (relabel h t) (k.renew (λ j. j < n + 1) (below t g.slots) (λ j z. omega (arith, z))) (relabel-out n h t e g.once other));
        once = k.once;
        fruitful = k.fruitful;
        ways = relabel_ways at h c t g.ways;
        places = k.relink (HasPlace at) g.places;
      }

  -- ---- a child

  module _ (p root : ℕ) (t : Tree ℕ) (g : Occupies at m c root n (But n h) t) (l : ℕ) (d : Extent) (s : ℕ) (t0 t1 t2 t3 : Tree ℕ) (r : Reaches at p l c t d (node s t0 t1 t2 t3)) (q : ℕ) (lt : q < 4) (e : lead (pick t0 t1 t2 t3 q) ≡ n + 1) (small : n + 1 < 2 ^ 32) where
    abbrev u : Tree ℕ
    u = node s t0 t1 t2 t3

    abbrev y : Tree ℕ
    y = pick t0 t1 t2 t3 q

    abbrev v : Tree ℕ
    v = over s (upd (pick t0 t1 t2 t3) q (relabel h (pick t0 t1 t2 t3 q)))

    abbrev w : List ℕ
    w = put_internal (copied m n h) s (set (kids (copied m n h) s) q (lead (relabel h (pick t0 t1 t2 t3 q))))

    o : Once (node s t0 t1 t2 t3)
    o = reach-once at p l c t d u r g.once

    b : EachSlot (But n h) (node s t0 t1 t2 t3)
    b = reach-each at p l c t d u r (But n h) g.slots

    fruit : Fruitful (node s t0 t1 t2 t3)
    fruit = reach-all at p Fruitful (λ s t0 t1 t2 t3 h. fruit_child s t0 t1 t2 t3 h) l c t d u r g.fruitful

    has : (R : ℕ → Type 0) → EachSlot R (node s t0 t1 t2 t3) → R n
    has R a = lead_each R y n e (each_child t0 t1 t2 t3 s R a q)

    own : s ≡ n → ⊥
    own z = lead_each (λ j. j ≡ s → ⊥) y n e (once_out s t0 t1 t2 t3 o q) (sym z)

    kept : (j : ℕ) → (j ≡ h → ⊥) → (j ≡ s → ⊥) → Same m w j
    kept j a f = same_trans m (copied m n h) w j (copied-same m n h j a) (internal_same (copied m n h) s (set (kids (copied m n h) s) q (lead (relabel h y))) j f)

    at-h : Same (copied m n h) w h
    at-h = internal_same (copied m n h) s (set (kids (copied m n h) s) q (lead (relabel h y))) h (λ z. b.0.1 (sym z))

    child : Child w (λ j. j ≡ h) y (relabel h y)
    child =
        relabel_child m w n h y e (stored_child t0 t1 t2 t3 s m (reach-stored at p l c t d u r m g.stored) q) (once_child s t0 t1 t2 t3 o q) (fruit_child s t0 t1 t2 t3 fruit q) (free y (each_child t0 t1 t2 t3 s (But n h) b q))
        (λ j. j ≡ s → ⊥) (once_out s t0 t1 t2 t3 o q) (λ j a f. kept j f a) (shows_trans (copied-own m n h (omega arith)) at-h)

    st : Stored w v
    st =
        rewire m (copied m n h) s t0 t1 t2 t3 (λ j. j ≡ h → ⊥) (λ j f. copied-same m n h j f) (free u b) (reach-stored at p l c t d u r m g.stored) o (n + 1) small (below u b)
        (subst (λ (x : ℕ). s * slot_words + slot_words ≤ x) (sym (copied-length m n h)) (omega (arith, b.0.0))) q lt (relabel h y) (omega (arith, relabel-lead n h y e)) child.stored

    fits : TakesPlace at w d (λ j. j ≡ h) u v
    fits =
        fits_child at d s t0 t1 t2 t3 o fruit (reach-ways at p l c t d u r g.ways) q lt (λ j. j ≡ h) (free u b) w (relabel h y) child
        (relabel_ways at h (quarter q d) y (way_child at d s t0 t1 t2 t3 (reach-ways at p l c t d u r g.ways) q lt).1) st
        (omega (arith, leaves-upd s (pick t0 t1 t2 t3) q (relabel h y) lt, relabel-leaves h y, fruit.0))

    gone : EachSlot (λ j. j ≡ n → ⊥) v
    gone =
        each_over (λ j. j ≡ n → ⊥) s (upd (pick t0 t1 t2 t3) q (relabel h y)) own
        (upd-below (λ i u. EachSlot (λ j. j ≡ n → ⊥) u) (pick t0 t1 t2 t3) q (relabel h y) (relabel-out n h y e (once_child s t0 t1 t2 t3 o q) other)
        (λ i l ne. lead_each (λ j. EachSlot (λ z. z ≡ j → ⊥) (pick t0 t1 t2 t3 i)) y n e (once_apart s t0 t1 t2 t3 o q i lt l (λ z. ne (sym z)))))

    moved : Occupies at w c root n (λ j. j < n) (plug at p l c t v)
    moved =
        replaced at p m w c root n (But n h) t g l d u v r (λ j. j ≡ h) fits (free t g.slots) (λ j a f. kept j a.1 (λ z. f (ap (λ (x : ℕ). x + 1) (sym z)))) n
        (omega (arith, nodes-upd s (pick t0 t1 t2 t3) q (relabel h y) lt, relabel-nodes h y)) (λ j. j < n)
        (each_map (λ j. (j < n + 1) × (j ≡ n → ⊥)) (λ j. j < n) (λ j y. let (a, b) = y in omega (arith, a, b)) (plug at p l c t v)
        (each_both (λ j. j < n + 1) (λ j. j ≡ n → ⊥) (plug at p l c t v) (plug_each at p (λ j. j < n + 1) l c t v (below t g.slots) (fits.renew (λ j. j < n + 1) (below u b) (λ j z. omega (arith, z))))
        (plug-out at p n l c t d u v r has gone g.once)))

    pub move-child : (W : List ℕ) → W ≡ put_internal (copied m n h) s (set (kids (copied m n h) s) q (h + 1)) → Occupies at W c root n (λ j. j < n) (plug at p l c t v)
    move-child W z = subst (λ (x : List ℕ). Occupies at x c root n (λ j. j < n) (plug at p l c t v)) (ap (λ (x : ℕ). put_internal (copied m n h) s (set (kids (copied m n h) s) q x)) (relabel-lead n h y e) ∙ sym z) moved

    pub move-cells : in_cells c (plug at p l c t v) ≡ in_cells c t
    move-cells = plug-same at p l c t d u v r cells
      where
        own-cells : (i : ℕ) → in_cells (quarter i d) (upd (pick t0 t1 t2 t3) q (relabel h y) i) ≡ in_cells (quarter i d) (pick t0 t1 t2 t3 i)
        own-cells = upd-all (λ i u. in_cells (quarter i d) u ≡ in_cells (quarter i d) (pick t0 t1 t2 t3 i)) (pick t0 t1 t2 t3) q (relabel h y) (relabel_cells h (quarter q d) y) (λ i ne. refl)

        cells : in_cells d v ≡ in_cells d u
        cells = rw (own-cells 0, own-cells 1, own-cells 2, own-cells 3)
