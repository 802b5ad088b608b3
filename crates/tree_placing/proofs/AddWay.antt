-- A point's way down a tree, and the tree with another subtree where the way has come to.
use mathlib.Core.Path.{◌≡◌, refl, sym, ap, ◌∙◌, subst}
use mathlib.Core.Bool.{Bool, true, false}
use mathlib.Core.List.{List}
use Prim.Native.Nat.{ℕ, zero, suc, ◌+◌, ◌≤◌, ◌<◌, max}
use native.Mathlib.Omega.{arith}
use lib.Dec.{eqb}
use lib.Ieee.{Float}
use borrow.Author.Tests.{eqb-true}
use Rattle.rules.specs.declared.Extent.{Extent}
use Rattle.rules.specs.Plain.{branch}
use Rattle.rules.specs.Number.{x_at, y_at}
use Rattle.rules.specs.Cell.{quarter}
use Rattle.rules.specs.Tree.{Tree, none, leaf, node, depth, nodes, in_quarter}
use Rattle.rules.proofs.CellChain.{EachLeaf}
use Rattle.rules.proofs.CellInsert.{insert_t, into, insert-node}
use Rattle.rules.proofs.CellDeep.{in_quarter-own}
use Rattle.tree_slots.specs.Trees.{EachSlot, Apart, Once, in_cells, lead}
use Rattle.tree_leaves.specs.Leaf.{side}
use Rattle.tree_placing.specs.Add.{Stored, pick, Reaches}
use Rattle.tree_slots.proofs.Slots.{Same, node_shown}
use Rattle.tree_slots.proofs.Trees.{each_map}
use Rattle.tree_placing.proofs.SlotsTree.{each_both, apart_sym, lead_each, over, upd, each_child, stored_child, leaf_child, upd-below, each_over, stored-over, node_leads, leads-keep, depth-upd, nodes-upd, depth_child, once_out, once_apart, once_child, once_over, pair-upd, frame}
use Rattle.tree_cells.proofs.Quadrant.{quadrant_lt}

-- n levels more
abbrev pub up : ℕ → ℕ → ℕ
up zero k = k
up (suc n) k = suc (up n k)

pub up_is : (n k : ℕ) → up n k ≡ n + k
up_is zero k = omega arith
up_is (suc n) k = omega (arith, up_is n k)

-- the same of each of four
pub pick-ap : {A B : Type 0} (f : ℕ → A → B) (a b c d : A) (q : ℕ) → q < 4 → pick (f 0 a) (f 1 b) (f 2 c) (f 3 d) q ≡ f q (pick a b c d q)
pick-ap f a b c d zero l = refl
pick-ap f a b c d (suc zero) l = refl
pick-ap f a b c d (suc (suc zero)) l = refl
pick-ap f a b c d (suc (suc (suc zero))) l = refl
pick-ap f a b c d (suc (suc (suc (suc q)))) l = absurd (omega arith)

-- one level more on both sides
pub deeper : {a b e k : ℕ} → k < a → b ≡ a → suc b ≤ e → suc k < e
deeper x y z = omega arith

-- what holds of the slots of u and of the new ones, N, holds of those of v
abbrev pub Renews : (ℕ → Type 0) → Tree ℕ → Tree ℕ → Type 1
Renews N u v = (P : ℕ → Type 0) → EachSlot P u → ((j : ℕ) → N j → P j) → EachSlot P v

module _ (at : List Float) (p : ℕ) where
  pub side_lt : (c : Extent) → side at p c < 4
  side_lt c = quadrant_lt c (x_at at p) (y_at at p)

  -- ---- what is reached

  -- what each child has of its parent, the tree that is reached has of the whole
  pub reach-all : (P : Tree ℕ → Type 0) → ((s : ℕ) (t0 t1 t2 t3 : Tree ℕ) → P (node s t0 t1 t2 t3) → (r : ℕ) → P (pick t0 t1 t2 t3 r)) → (n : ℕ) (c : Extent) (t : Tree ℕ) (d : Extent) (u : Tree ℕ)
      → Reaches at p n c t d u → P t → P u
  reach-all P f zero c t d u r h = subst P r.1 h
  reach-all P f (suc n) c none d u r h = absurd r
  reach-all P f (suc n) c (leaf s is) d u r h = absurd r
  reach-all P f (suc n) c (node s t0 t1 t2 t3) d u r h =
      reach-all P f n (quarter (side at p c) c) (pick t0 t1 t2 t3 (side at p c)) d u r (f s t0 t1 t2 t3 h (side at p c))

  module _ (n : ℕ) (c : Extent) (t : Tree ℕ) (d : Extent) (u : Tree ℕ) (r : Reaches at p n c t d u) where
    pub reach-each : (P : ℕ → Type 0) → EachSlot P t → EachSlot P u
    reach-each P h = reach-all (EachSlot P) (λ s t0 t1 t2 t3 h. each_child t0 t1 t2 t3 s P h) n c t d u r h

    pub reach-stored : (m : List ℕ) → Stored m t → Stored m u
    reach-stored m h = reach-all (Stored m) (λ s t0 t1 t2 t3 h. stored_child t0 t1 t2 t3 s m h) n c t d u r h

    pub reach-once : Once t → Once u
    reach-once h = reach-all Once (λ s t0 t1 t2 t3 h. once_child s t0 t1 t2 t3 h) n c t d u r h

    pub reach-leaf : (Q : List ℕ → Type 0) → EachLeaf (λ _. Q) t → EachLeaf (λ _. Q) u
    reach-leaf Q h = reach-all (EachLeaf (λ _. Q)) (λ s t0 t1 t2 t3 h. leaf_child t0 t1 t2 t3 s Q h) n c t d u r h

  pub reach-depth : (n : ℕ) (c : Extent) (t : Tree ℕ) (d : Extent) (u : Tree ℕ) → Reaches at p n c t d u → n + depth u ≤ depth t
  reach-depth zero c t d u r = omega (arith, ap depth r.1)
  reach-depth (suc n) c none d u r = absurd r
  reach-depth (suc n) c (leaf s is) d u r = absurd r
  reach-depth (suc n) c (node s t0 t1 t2 t3) d u r =
      let q = side at p c in
      below (depth u) (depth (pick t0 t1 t2 t3 q)) (depth (node s t0 t1 t2 t3)) (reach-depth n (quarter q c) (pick t0 t1 t2 t3 q) d u r) (depth_child s t0 t1 t2 t3 q)
    where
      below : (a b e : ℕ) → n + a ≤ b → suc b ≤ e → suc n + a ≤ e
      below a b e h g = omega arith

  -- one level more
  pub reach-down : (n : ℕ) (c : Extent) (t : Tree ℕ) (d : Extent) (s : ℕ) (u0 u1 u2 u3 : Tree ℕ) → Reaches at p n c t d (node s u0 u1 u2 u3)
      → Reaches at p (suc n) c t (quarter (side at p d) d) (pick u0 u1 u2 u3 (side at p d))
  reach-down zero c t d s u0 u1 u2 u3 r =
      subst (λ (t : Tree ℕ). Reaches at p 1 c t (quarter (side at p d) d) (pick u0 u1 u2 u3 (side at p d))) (sym r.1)
      (ap (λ (c : Extent). quarter (side at p c) c) r.0, ap (λ (c : Extent). pick u0 u1 u2 u3 (side at p c)) r.0)
  reach-down (suc n) c none d s u0 u1 u2 u3 r = absurd r
  reach-down (suc n) c (leaf z is) d s u0 u1 u2 u3 r = absurd r
  reach-down (suc n) c (node z t0 t1 t2 t3) d s u0 u1 u2 u3 r = reach-down n (quarter (side at p c) c) (pick t0 t1 t2 t3 (side at p c)) d s u0 u1 u2 u3 r

  -- ---- another subtree in its place

  abbrev pub plug : ℕ → Extent → Tree ℕ → Tree ℕ → Tree ℕ
  plug zero c t v = v
  plug (suc n) c none v = none
  plug (suc n) c (leaf s is) v = leaf s is
  plug (suc n) c (node s t0 t1 t2 t3) v =
      over s (upd (pick t0 t1 t2 t3) (side at p c) (plug n (quarter (side at p c) c) (pick t0 t1 t2 t3 (side at p c)) v))

  pub plug_each : (P : ℕ → Type 0) (n : ℕ) (c : Extent) (t v : Tree ℕ) → EachSlot P t → EachSlot P v → EachSlot P (plug n c t v)
  plug_each P zero c t v h g = g
  plug_each P (suc n) c none v h g = tt
  plug_each P (suc n) c (leaf s is) v h g = h
  plug_each P (suc n) c (node s t0 t1 t2 t3) v h g =
      let q = side at p c in
      each_over P s (upd (pick t0 t1 t2 t3) q (plug n (quarter q c) (pick t0 t1 t2 t3 q) v)) h.0
      (upd-below (λ r u. EachSlot P u) (pick t0 t1 t2 t3) q (plug n (quarter q c) (pick t0 t1 t2 t3 q) v)
      (plug_each P n (quarter q c) (pick t0 t1 t2 t3 q) v (each_child t0 t1 t2 t3 s P h q) g) (λ r l ne. each_child t0 t1 t2 t3 s P h r))

  pub plug-nodes : (n : ℕ) (c : Extent) (t : Tree ℕ) (d : Extent) (u v : Tree ℕ) → Reaches at p n c t d u → nodes (plug n c t v) + nodes u ≡ nodes t + nodes v
  plug-nodes zero c t d u v r = omega (arith, ap nodes r.1)
  plug-nodes (suc n) c none d u v r = absurd r
  plug-nodes (suc n) c (leaf s is) d u v r = absurd r
  plug-nodes (suc n) c (node s t0 t1 t2 t3) d u v r =
      let q = side at p c in
      let w = plug n (quarter q c) (pick t0 t1 t2 t3 q) v in
      omega (arith, nodes-upd s (pick t0 t1 t2 t3) q w (side_lt c), plug-nodes n (quarter q c) (pick t0 t1 t2 t3 q) d u v r)

  pub plug-depth : (n : ℕ) (c : Extent) (t : Tree ℕ) (d : Extent) (u v : Tree ℕ) (e : ℕ) → Reaches at p n c t d u → depth v ≡ max (depth u) e → depth (plug n c t v) ≡ max (depth t) (up n e)
  plug-depth zero c t d u v e r h = h ∙ ap (λ (t : Tree ℕ). max (depth t) e) (sym r.1)
  plug-depth (suc n) c none d u v e r h = absurd r
  plug-depth (suc n) c (leaf s is) d u v e r h = absurd r
  plug-depth (suc n) c (node s t0 t1 t2 t3) d u v e r h =
      let q = side at p c in
      depth-upd s (pick t0 t1 t2 t3) q (up n e) (plug n (quarter q c) (pick t0 t1 t2 t3 q) v) (side_lt c) (plug-depth n (quarter q c) (pick t0 t1 t2 t3 q) d u v e r h)

  -- ---- no slot twice

  pub plug_renews : (N : ℕ → Type 0) (n : ℕ) (c : Extent) (t : Tree ℕ) (d : Extent) (u v : Tree ℕ) → Reaches at p n c t d u → Renews N u v → Renews N t (plug n c t v)
  plug_renews N n c t d u v r f P h new = plug_each P n c t v h (f P (reach-each n c t d u r P h) new)

  pub plug_once : (N : ℕ → Type 0) (n : ℕ) (c : Extent) (t : Tree ℕ) (d : Extent) (u v : Tree ℕ) → Reaches at p n c t d u → Renews N u v → Once v → EachSlot (λ j. N j → ⊥) t → Once t → Once (plug n c t v)
  plug_once N zero c t d u v r f o b h = o
  plug_once N (suc n) c none d u v r f o b h = tt
  plug_once N (suc n) c (leaf s is) d u v r f o b h = tt
  plug_once N (suc n) c (node s t0 t1 t2 t3) d u v r f o b h =
      let q : ℕ = side at p c in
      let k : ℕ → Tree ℕ = pick t0 t1 t2 t3 in
      let w : Tree ℕ = plug n (quarter q c) (k q) v in
      let renews : Renews N (k q) w = plug_renews N n (quarter q c) (k q) d u v r f in
      let apart : (i : ℕ) → i < 4 → (i ≡ q → ⊥) → Apart w (k i) = λ i l ne.
      renews (λ j. EachSlot (λ z. z ≡ j → ⊥) (k i)) (once_apart s t0 t1 t2 t3 h q i (side_lt c) l (λ e. ne (sym e)))
      (λ j g. each_map (λ z. N z → ⊥) (λ z. z ≡ j → ⊥) (λ z y e. y (subst N (sym e) g)) (k i) (each_child t0 t1 t2 t3 s (λ j. N j → ⊥) b i)) in
      once_over s (upd k q w)
      (upd-below (λ i u. EachSlot (λ j. j ≡ s → ⊥) u) k q w (renews (λ j. j ≡ s → ⊥) (once_out s t0 t1 t2 t3 h q) (λ j g e. b.0 (subst N e g))) (λ i l ne. once_out s t0 t1 t2 t3 h i))
      (pair-upd Apart k q w (once_apart s t0 t1 t2 t3 h) apart (λ i l ne. apart_sym w (k i) (apart i l ne)))
      (upd-below (λ i u. Once u) k q w (plug_once N n (quarter q c) (k q) d u v r f o (each_child t0 t1 t2 t3 s (λ j. N j → ⊥) b q) (once_child s t0 t1 t2 t3 h q)) (λ i l ne. once_child s t0 t1 t2 t3 h i))

  -- ---- the slots hold it

  -- slots that satisfy P keep their words, but for the one that leads to u
  pub plug-stored : (m w : List ℕ) (P : ℕ → Type 0) (n : ℕ) (c : Extent) (t : Tree ℕ) (d : Extent) (u v : Tree ℕ) → Reaches at p n c t d u → lead v ≡ lead u → Stored w v
      → ((j : ℕ) → P j → (lead u ≡ j + 1 → ⊥) → Same m w j) → EachSlot P t → Once t → Stored m t → Stored w (plug n c t v) × (lead (plug n c t v) ≡ lead t)
  plug-stored m w P zero c t d u v r e o f b h g = (o, e ∙ ap lead (sym r.1))
  plug-stored m w P (suc n) c none d u v r e o f b h g = absurd r
  plug-stored m w P (suc n) c (leaf s is) d u v r e o f b h g = absurd r
  plug-stored m w P (suc n) c (node s t0 t1 t2 t3) d u v r e o f b h g =
      let q : ℕ = side at p c in
      let k : ℕ → Tree ℕ = pick t0 t1 t2 t3 in
      let z : Tree ℕ = plug n (quarter q c) (k q) v in
      let rest = plug-stored m w P n (quarter q c) (k q) d u v r e o f (each_child t0 t1 t2 t3 s P b q) (once_child s t0 t1 t2 t3 h q) (stored_child t0 t1 t2 t3 s m g q) in
      let own : Same m w s = f s b.0 (λ y. lead_each (λ j. j ≡ s → ⊥) u s y (reach-each n (quarter q c) (k q) d u r (λ j. j ≡ s → ⊥) (once_out s t0 t1 t2 t3 h q)) refl) in (
        stored-over w s (upd k q z) (node_leads w s k (upd k q z) (leads-keep k q z rest.1) (node_shown own g.0))
            (upd-below (λ i u. Stored w u) k q z rest.0
            (λ i l ne. frame m w (λ j. P j × (lead u ≡ j + 1 → ⊥)) (λ j y. f j y.0 y.1) (k i)
            (each_both P (λ j. lead u ≡ j + 1 → ⊥) (k i) (each_child t0 t1 t2 t3 s P b i)
            (each_map (λ j. EachSlot (λ y. y ≡ j → ⊥) (k q)) (λ j. lead u ≡ j + 1 → ⊥)
            (λ j y a. lead_each (λ y. y ≡ j → ⊥) u j a (reach-each n (quarter q c) (k q) d u r (λ y. y ≡ j → ⊥) y) refl) (k i) (once_apart s t0 t1 t2 t3 h i q l (side_lt c) ne)))
            (stored_child t0 t1 t2 t3 s m g i))),
        refl,
      )

  -- ---- the tree of the cell rule

  -- one child of a node: changed, if p stored there
  pub into-upd : (c : Extent) (k : ℕ) (h : ℕ → Tree ℕ) (w : Tree ℕ) → in_cells (quarter (side at p c) c) w ≡ insert_t at p (quarter (side at p c) c) k (in_cells (quarter (side at p c) c) (h (side at p c)))
      → (i : ℕ) → in_cells (quarter i c) (upd h (side at p c) w i) ≡ into at p c k i (in_cells (quarter i c) (h i))
  unfolding in_quarter
  into-upd c k h w e i = go (eqb i (side at p c)) refl
    where
      go : (b : Bool) → eqb i (side at p c) ≡ b → in_cells (quarter i c) (branch b (λ _. w) (λ _. h i)) ≡ branch b (λ _. insert_t at p (quarter i c) k (in_cells (quarter i c) (h i))) (λ _. in_cells (quarter i c) (h i))
      go true f = subst (λ (j : ℕ). in_cells (quarter j c) w ≡ insert_t at p (quarter j c) k (in_cells (quarter j c) (h j))) (sym (eqb-true i (side at p c) f)) e
      go false f = refl

  pub plug_cells : (n : ℕ) (c : Extent) (t : Tree ℕ) (d : Extent) (u v : Tree ℕ) (k : ℕ) → Reaches at p n c t d u → in_cells d v ≡ insert_t at p d k (in_cells d u)
      → in_cells c (plug n c t v) ≡ insert_t at p c (up n k) (in_cells c t)
  plug_cells zero c t d u v k r e =
      subst (λ (c : Extent). in_cells c v ≡ insert_t at p c k (in_cells c t)) (sym r.0) (subst (λ (t : Tree ℕ). in_cells d v ≡ insert_t at p d k (in_cells d t)) (sym r.1) e)
  plug_cells (suc n) c none d u v k r e = absurd r
  plug_cells (suc n) c (leaf s is) d u v k r e = absurd r
  plug_cells (suc n) c (node s t0 t1 t2 t3) d u v k r e =
      let q : ℕ = side at p c in
      let h : ℕ → Tree ℕ = pick t0 t1 t2 t3 in
      let w : Tree ℕ = plug n (quarter q c) (h q) v in
      let at_i = into-upd c (up n k) h w (plug_cells n (quarter q c) (h q) d u v k r e) in
      rw (at_i 0, at_i 1, at_i 2, at_i 3) (sym (insert-node at p c c (up n k) (in_cells (quarter 0 c) t0) (in_cells (quarter 1 c) t1) (in_cells (quarter 2 c) t2) (in_cells (quarter 3 c) t3)))

  -- past the levels in the subtree, past them in the whole
  pub plug-deep : (n : ℕ) (c : Extent) (t : Tree ℕ) (d : Extent) (u : Tree ℕ) (k : ℕ) → Reaches at p n c t d u → k < depth (insert_t at p d k (in_cells d u)) → up n k < depth (insert_t at p c (up n k) (in_cells c t))
  plug-deep zero c t d u k r h =
      subst (λ (c : Extent). k < depth (insert_t at p c k (in_cells c t))) (sym r.0) (subst (λ (t : Tree ℕ). k < depth (insert_t at p d k (in_cells d t))) (sym r.1) h)
  plug-deep (suc n) c none d u k r h = absurd r
  plug-deep (suc n) c (leaf s is) d u k r h = absurd r
  plug-deep (suc n) c (node s t0 t1 t2 t3) d u k r h =
      let q : ℕ = side at p c in
      let rest = plug-deep n (quarter q c) (pick t0 t1 t2 t3 q) d u k r h in
      let own : into at p c (up n k) q (in_cells (quarter q c) (pick t0 t1 t2 t3 q)) ≡ insert_t at p (quarter q c) (up n k) (in_cells (quarter q c) (pick t0 t1 t2 t3 q)) = rw (in_quarter-own at c p) in
      let f : ℕ → Tree ℕ → Tree Extent = λ i t. into at p c (up n k) i (in_cells (quarter i c) t) in
      rw (insert-node at p c c (up n k) (in_cells (quarter 0 c) t0) (in_cells (quarter 1 c) t1) (in_cells (quarter 2 c) t2) (in_cells (quarter 3 c) t3))
      (deeper rest (ap depth (pick-ap f t0 t1 t2 t3 q (side_lt c) ∙ own)) (depth_child c (f 0 t0) (f 1 t1) (f 2 t2) (f 3 t3) q))
