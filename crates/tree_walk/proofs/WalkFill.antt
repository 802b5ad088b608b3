-- A value laid at each node, children first, is the rules' value at each. Assumes nothing.
use mathlib.Core.Path.{◌≡◌, refl, sym, ap, ◌∙◌, subst⁻¹}
use mathlib.Core.List.{List, [], ◌∷◌, ◌++◌}
use Prim.Native.Nat.{ℕ, ◌+◌, ◌*◌, ◌≤◌}
use native.Mathlib.Numerals.{add-one}
use lib.ListN.{length}
use Rattle.rules.specs.declared.Extent.{Extent}
use Rattle.rules.specs.Cell.{quarter}
use Rattle.rules.specs.Tree.{Tree, none, leaf, node}
use Rattle.rules.specs.Walk.{Entry, internal, tip, valued, present_value, parent_last}
use Rattle.rules.specs.Calls.{slot_words}
use Rattle.tree_slots.specs.Trees.{kid, Leads, EachSlot, Apart, Once, in_cells, InSlots, SlotsLent}
use Rattle.tree_walk.specs.Walk.{seen, EachChain}
use Rattle.tree_walk.specs.WalkAfter.{values_at, kid_values}
use Rattle.tree_slots.proofs.Trees.{each_map}
use Rattle.tree_walk.proofs.WalkValues.{Alike, alike_refl, alike_trans, leads-alike, Writes}

module _ {B : Type 0} (read : List ℕ → ℕ → B) where
  -- a node's value, where there is a node
  abbrev reads : List ℕ → Tree ℕ → List B
  reads m none = []
  reads m (leaf s is) = read m s ∷ []
  reads m (node s t0 t1 t2 t3) = read m s ∷ []

  values_reads : (m next : List ℕ) (p : ℕ) (t : Tree ℕ) → Leads m next p t → values_at read m p ≡ reads m t
  values_reads m next p none l = rw l
  values_reads m next p (leaf s is) l = ap (values_at read m) (l.0 ∙ add-one s)
  values_reads m next p (node s t0 t1 t2 t3) l = ap (values_at read m) (l.0 ∙ add-one s)

  reads-frame : (m w : List ℕ) (t : Tree ℕ) → EachSlot (λ i. read w i ≡ read m i) t → reads w t ≡ reads m t
  reads-frame m w none h = refl
  reads-frame m w (leaf s is) h = rw h
  reads-frame m w (node s t0 t1 t2 t3) h = rw h.0

  four : {a0 a1 a2 a3 b0 b1 b2 b3 : List B} → a0 ≡ b0 → a1 ≡ b1 → a2 ≡ b2 → a3 ≡ b3 → a0 ++ a1 ++ a2 ++ a3 ≡ b0 ++ b1 ++ b2 ++ b3
  four e0 e1 e2 e3 = rw (e0, e1, e2, e3)

  -- the values of the children that are there
  kid-reads : (m next : List ℕ) (s : ℕ) (t0 t1 t2 t3 : Tree ℕ) → Leads m next (kid m s 0) t0 → Leads m next (kid m s 1) t1 → Leads m next (kid m s 2) t2 → Leads m next (kid m s 3) t3
      → kid_values read m s ≡ reads m t0 ++ reads m t1 ++ reads m t2 ++ reads m t3
  unfolding kid_values
  kid-reads m next s t0 t1 t2 t3 l0 l1 l2 l3 =
      four (values_reads m next (kid m s 0) t0 l0) (values_reads m next (kid m s 1) t1 l1) (values_reads m next (kid m s 2) t2 l2) (values_reads m next (kid m s 3) t3 l3)

module _ {B : Type 0} (read : List ℕ → ℕ → B) (write : List ℕ → ℕ → B → List ℕ) (of_leaf : List ℕ → B) (of_node : List B → B) where
  -- what is laid at a node, from its chain or from its children's values
  abbrev pub act : Entry ℕ → List ℕ → List ℕ
  act (internal s) m = write m s (of_node (kid_values read m s))
  act (tip s is) m = write m s (of_leaf is)

  abbrev pub fill : List (Entry ℕ) → List ℕ → List ℕ
  fill [] m = m
  fill (e ∷ es) m = fill es (act e m)

  -- the value at each node is that of its chain, or of its children's values
  abbrev pub Kept : List ℕ → Tree ℕ → Type 0
  Kept m none = Unit {0}
  Kept m (leaf s is) = read m s ≡ of_leaf is
  Kept m (node s t0 t1 t2 t3) =
      (read m s ≡ of_node (reads read m t0 ++ reads read m t1 ++ reads read m t2 ++ reads read m t3)) × Kept m t0 × Kept m t1 × Kept m t2 × Kept m t3

  kept_frame : (m w : List ℕ) (t : Tree ℕ) → EachSlot (λ i. read w i ≡ read m i) t → Kept m t → Kept w t
  kept_frame m w none h k = tt
  kept_frame m w (leaf s is) h k = h ∙ k
  kept_frame m w (node s t0 t1 t2 t3) h k = (
    rw (reads-frame read m w t0 h.1, reads-frame read m w t1 h.2, reads-frame read m w t2 h.3, reads-frame read m w t3 h.4) (h.0 ∙ k.0),
    kept_frame m w t0 h.1 k.1,
    kept_frame m w t1 h.2 k.2,
    kept_frame m w t2 h.3 k.3,
    kept_frame m w t3 h.4 k.4,
  )

  -- then it is the rules' value
  present-seen : (m : List ℕ) (c : Extent) (t : Tree ℕ) → present_value (seen (λ s c. (c, read m s)) c t) ≡ reads read m t
  present-seen m c none = refl
  present-seen m c (leaf s is) = refl
  present-seen m c (node s t0 t1 t2 t3) = refl

  pub kept-valued : (m : List ℕ) (c : Extent) (t : Tree ℕ) → Kept m t → seen (λ s c. (c, read m s)) c t ≡ valued of_leaf of_node (in_cells c t)
  kept-valued m c none k = refl
  kept-valued m c (leaf s is) k = rw k
  kept-valued m c (node s t0 t1 t2 t3) k =
      rw (
        ← kept-valued m (quarter 0 c) t0 k.1,
        ← kept-valued m (quarter 1 c) t1 k.2,
        ← kept-valued m (quarter 2 c) t2 k.3,
        ← kept-valued m (quarter 3 c) t3 k.4,
        present-seen m (quarter 0 c) t0,
        present-seen m (quarter 1 c) t1,
        present-seen m (quarter 2 c) t2,
        present-seen m (quarter 3 c) t3,
        k.0,
      )

  fill-append : (ds es : List (Entry ℕ)) (m : List ℕ) → fill (ds ++ es) m ≡ fill es (fill ds m)
  fill-append [] es m = refl
  fill-append (d ∷ ds) es m = fill-append ds es (act d m)

  fill_node : (s : ℕ) (t0 t1 t2 t3 : Tree ℕ) (m : List ℕ)
      → fill (parent_last (node s t0 t1 t2 t3)) m ≡ act (internal s) (fill (parent_last t3) (fill (parent_last t2) (fill (parent_last t1) (fill (parent_last t0) m))))
  fill_node s t0 t1 t2 t3 m =
      fill-append (parent_last t0 ++ parent_last t1 ++ parent_last t2 ++ parent_last t3) (internal s ∷ []) m
      ∙ ap (act (internal s)) (fill-append (parent_last t0 ++ parent_last t1 ++ parent_last t2) (parent_last t3) m
      ∙ ap (fill (parent_last t3)) (fill-append (parent_last t0 ++ parent_last t1) (parent_last t2) m
      ∙ ap (fill (parent_last t2)) (fill-append (parent_last t0) (parent_last t1) m)))

module _ {B : Type 0} {Fit : B → Type 0} {read : List ℕ → ℕ → B} {write : List ℕ → ℕ → B → List ℕ} (W : Writes Fit read write) (of_leaf : List ℕ → B) (of_node : List B → B) where
  pub act-alike : (e : Entry ℕ) (m : List ℕ) → Alike m (act read write of_leaf of_node e m)
  act-alike (internal s) m = W.alike m s (of_node (kid_values read m s))
  act-alike (tip s is) m = W.alike m s (of_leaf is)

  pub act-long : (e : Entry ℕ) (m : List ℕ) → length (act read write of_leaf of_node e m) ≡ length m
  act-long (internal s) m = W.long m s (of_node (kid_values read m s))
  act-long (tip s is) m = W.long m s (of_leaf is)

  pub fill-alike : (es : List (Entry ℕ)) (m : List ℕ) → Alike m (fill read write of_leaf of_node es m)
  fill-alike [] m = alike_refl m
  fill-alike (e ∷ es) m = alike_trans m (act read write of_leaf of_node e m) _ (act-alike e m) (fill-alike es (act read write of_leaf of_node e m))

  pub fill-long : (es : List (Entry ℕ)) (m : List ℕ) → length (fill read write of_leaf of_node es m) ≡ length m
  fill-long [] m = refl
  fill-long (e ∷ es) m = fill-long es (act read write of_leaf of_node e m) ∙ act-long e m

  -- what is filled in for a tree changes no value elsewhere
  fill-other : (t : Tree ℕ) (m : List ℕ) (r : ℕ) → EachSlot (λ j. j ≡ r → ⊥) t → read (fill read write of_leaf of_node (parent_last t) m) r ≡ read m r
  fill-other none m r h = refl
  fill-other (leaf s is) m r h = W.other m s (of_leaf is) r (λ e. h (sym e))
  fill-other (node s t0 t1 t2 t3) m r h =
      let m1 = fill read write of_leaf of_node (parent_last t0) m in
      let m2 = fill read write of_leaf of_node (parent_last t1) m1 in
      let m3 = fill read write of_leaf of_node (parent_last t2) m2 in
      let m4 = fill read write of_leaf of_node (parent_last t3) m3 in
      ap (λ (w : List ℕ). read w r) (fill_node read write of_leaf of_node s t0 t1 t2 t3 m)
      ∙ W.other m4 s (of_node (kid_values read m4 s)) r (λ e. h.0 (sym e))
      ∙ fill-other t3 m3 r h.4 ∙ fill-other t2 m2 r h.3 ∙ fill-other t1 m1 r h.2 ∙ fill-other t0 m r h.1

  through : (t u : Tree ℕ) (m : List ℕ) → Apart t u → Kept read write of_leaf of_node m t → Kept read write of_leaf of_node (fill read write of_leaf of_node (parent_last u) m) t
  through t u m a k =
      kept_frame read write of_leaf of_node m _ t
      (each_map (λ i. EachSlot (λ j. j ≡ i → ⊥) u) (λ i. read (fill read write of_leaf of_node (parent_last u) m) i ≡ read m i) (λ i h. fill-other u m i h) t a) k

  module _ (P : List ℕ → Type 0) (fit_leaf : (is : List ℕ) → P is → Fit (of_leaf is)) (fit_node : (m : List ℕ) (s : ℕ) → Fit (of_node (kid_values read m s))) (next : List ℕ) where
    lent-long : (m w : List ℕ) (t : Tree ℕ) → length w ≡ length m → SlotsLent m t → SlotsLent w t
    lent-long m w t e h = rw e h

    -- the last write of a node, above its children
    over : (s : ℕ) (t0 t1 t2 t3 : Tree ℕ) (m : List ℕ) → InSlots s m
        → Leads m next (kid m s 0) t0 → Leads m next (kid m s 1) t1 → Leads m next (kid m s 2) t2 → Leads m next (kid m s 3) t3
        → EachSlot (λ j. j ≡ s → ⊥) t0 → EachSlot (λ j. j ≡ s → ⊥) t1 → EachSlot (λ j. j ≡ s → ⊥) t2 → EachSlot (λ j. j ≡ s → ⊥) t3
        → Kept read write of_leaf of_node m t0 → Kept read write of_leaf of_node m t1 → Kept read write of_leaf of_node m t2 → Kept read write of_leaf of_node m t3
        → Kept read write of_leaf of_node (write m s (of_node (kid_values read m s))) (node s t0 t1 t2 t3)
    over s t0 t1 t2 t3 m b l0 l1 l2 l3 n0 n1 n2 n3 k0 k1 k2 k3 =
        let w = write m s (of_node (kid_values read m s)) in (
          W.same m s (of_node (kid_values read m s)) b (fit_node m s)
              ∙ ap of_node (kid-reads read m next s t0 t1 t2 t3 l0 l1 l2 l3
              ∙ sym (four read (reads-frame read m w t0 (still t0 n0)) (reads-frame read m w t1 (still t1 n1)) (reads-frame read m w t2 (still t2 n2)) (reads-frame read m w t3 (still t3 n3)))),
          kept_frame read write of_leaf of_node m _ t0 (still t0 n0) k0,
          kept_frame read write of_leaf of_node m _ t1 (still t1 n1) k1,
          kept_frame read write of_leaf of_node m _ t2 (still t2 n2) k2,
          kept_frame read write of_leaf of_node m _ t3 (still t3 n3) k3,
        )
      where
        still : (t : Tree ℕ) → EachSlot (λ j. j ≡ s → ⊥) t → EachSlot (λ i. read (write m s (of_node (kid_values read m s))) i ≡ read m i) t
        still t h = each_map (λ j. j ≡ s → ⊥) (λ i. read (write m s (of_node (kid_values read m s))) i ≡ read m i) (λ i n. W.other m s (of_node (kid_values read m s)) i n) t h

    pub kept-fill : (t : Tree ℕ) (p : ℕ) (m : List ℕ) → Leads m next p t → Once t → SlotsLent m t → EachChain P t → Kept read write of_leaf of_node (fill read write of_leaf of_node (parent_last t) m) t
    kept-fill none p m l o b c = tt
    kept-fill (leaf s is) p m l o b c = W.same m s (of_leaf is) b (fit_leaf is c)
    kept-fill (node s t0 t1 t2 t3) p m l o b c =
        let F = fill read write of_leaf of_node in
        let m1 = F (parent_last t0) m in
        let m2 = F (parent_last t1) m1 in
        let m3 = F (parent_last t2) m2 in
        let m4 = F (parent_last t3) m3 in
        let a1 : Alike m m1 = fill-alike (parent_last t0) m in
        let a2 : Alike m m2 = alike_trans m m1 m2 a1 (fill-alike (parent_last t1) m1) in
        let a3 : Alike m m3 = alike_trans m m2 m3 a2 (fill-alike (parent_last t2) m2) in
        let a4 : Alike m m4 = alike_trans m m3 m4 a3 (fill-alike (parent_last t3) m3) in
        let e1 : length m1 ≡ length m = fill-long (parent_last t0) m in
        let e2 : length m2 ≡ length m = fill-long (parent_last t1) m1 ∙ e1 in
        let e3 : length m3 ≡ length m = fill-long (parent_last t2) m2 ∙ e2 in
        let e4 : length m4 ≡ length m = fill-long (parent_last t3) m3 ∙ e3 in
        let k0 = kept-fill t0 (kid m s 0) m l.2 o.10 b.1 c.0 in
        let k1 = kept-fill t1 (kid m s 1) m1 (leads-alike m m1 next a1 (kid m s 1) t1 l.3) o.11 (lent-long m m1 t1 e1 b.2) c.1 in
        let k2 = kept-fill t2 (kid m s 2) m2 (leads-alike m m2 next a2 (kid m s 2) t2 l.4) o.12 (lent-long m m2 t2 e2 b.3) c.2 in
        let k3 = kept-fill t3 (kid m s 3) m3 (leads-alike m m3 next a3 (kid m s 3) t3 l.5) o.13 (lent-long m m3 t3 e3 b.4) c.3 in
        let d = leads-alike m m4 next a4 (s + 1) (node s t0 t1 t2 t3) (refl, l.1, l.2, l.3, l.4, l.5) in
        subst⁻¹ (λ (w : List ℕ). Kept read write of_leaf of_node w (node s t0 t1 t2 t3)) (fill_node read write of_leaf of_node s t0 t1 t2 t3 m)
        (over s t0 t1 t2 t3 m4 (subst⁻¹ (λ (n : ℕ). s * slot_words + slot_words ≤ n) e4 b.0) d.2 d.3 d.4 d.5 o.0 o.1 o.2 o.3
        (through t0 t3 m3 o.6 (through t0 t2 m2 o.5 (through t0 t1 m1 o.4 k0))) (through t1 t3 m3 o.8 (through t1 t2 m2 o.7 k1)) (through t2 t3 m3 o.9 k2) k3)
