-- What the three writes do to a tree in slots: a child taken away, a node that becomes its only leaf, a node that takes another slot.
use mathlib.Core.Path.{◌≡◌, refl, sym, ap, ◌∙◌, subst}
use mathlib.Core.List.{List}
use Prim.Native.Nat.{ℕ, zero, suc, ◌+◌, ◌-◌, ◌*◌, ◌^◌, ◌≤◌, ◌<◌}
use native.Mathlib.Omega.{arith}
use lib.ListN.{length, set}
use lib.Ieee.{Float}
use Rattle.rules.specs.declared.Extent.{Extent}
use Rattle.rules.specs.Cell.{quarter}
use Rattle.rules.specs.Tree.{Tree, none, leaf, node, depth, nodes}
use Rattle.rules.specs.Refusal.{most_particles}
use Rattle.rules.specs.Terms.{most_nodes}
use Rattle.rules.specs.Calls.{slot_words}
use Rattle.rules.proofs.CellCount.{leaves, Fruitful}
use Rattle.rules.proofs.CellChain.{EachLeaf}
use Rattle.tree_slots.specs.declared.Quadtree.{Quadtree}
use Rattle.tree_slots.specs.Slots.{kids, put_internal, put_leaf, InSlots}
use Rattle.tree_slots.specs.Trees.{first, EachSlot, Apart, Once, lead}
use Rattle.tree_slots.proofs.Slots.{Shows, Same, same_refl, same_trans, internal_same, node_shown, node_put, leaf_same, leaf_shown, leaf_put}
use Rattle.tree_slots.proofs.Trees.{each_map}
use Rattle.tree_leaves.specs.Leaf.{side}
use Rattle.tree_placing.specs.Add.{Stored, pick, Reaches}
use Rattle.tree_placing.proofs.SlotsTree.{each_both, each_true, lead_le, over, upd, leads, each_child, stored_child, leaf_child, upd-below, each_over, stored-over, leads-upd, leads-small, once_out, once_apart, once_child, once_over, pair-upd, apart_sym, frame, nodes-upd}
use Rattle.tree_placing.proofs.AddWay.{Renews, side_lt, reach-all, reach-each, reach-stored, reach-once, reach-leaf, plug, plug_each, plug-nodes, plug_once, plug-stored}
use Rattle.tree_removing.specs.Remove.{OnWay, Lie, HasPlace, But, Occupies, Hollow, with_less}
use Rattle.tree_removing.proofs.Plug.{Relink, leaf_over, fruit_child, fruit-over, leaves-upd, depth-less, way_child, way-over, reach-ways, plug-less, plug-fruit, plug-leaf, plug-ways}

-- the slot h stands in u
abbrev pub Has : ℕ → Tree ℕ → Type 1
Has h u = (P : ℕ → Type 0) → EachSlot P u → P h

module _ (at : List Float) (p : ℕ) where
  -- a slot that stood only in what is replaced stands there no more
  pub plug-out : (h n : ℕ) (c : Extent) (t : Tree ℕ) (d : Extent) (u v : Tree ℕ) → Reaches at p n c t d u → Has h u → EachSlot (λ j. j ≡ h → ⊥) v → Once t → EachSlot (λ j. j ≡ h → ⊥) (plug at p n c t v)
  plug-out h zero c t d u v r a g o = g
  plug-out h (suc n) c none d u v r a g o = absurd r
  plug-out h (suc n) c (leaf s is) d u v r a g o = absurd r
  plug-out h (suc n) c (node s t0 t1 t2 t3) d u v r a g o =
      let q : ℕ = side at p c in
      let k : ℕ → Tree ℕ = pick t0 t1 t2 t3 in
      let w : Tree ℕ = plug at p n (quarter q c) (k q) v in
      let in-q : (P : ℕ → Type 0) → EachSlot P (k q) → P h = λ P e. a P (reach-each at p n (quarter q c) (k q) d u r P e) in
      each_over (λ j. j ≡ h → ⊥) s (upd k q w) (λ e. in-q (λ j. j ≡ s → ⊥) (once_out s t0 t1 t2 t3 o q) (sym e))
      (upd-below (λ i u. EachSlot (λ j. j ≡ h → ⊥) u) k q w (plug-out h n (quarter q c) (k q) d u v r a g (once_child s t0 t1 t2 t3 o q))
      (λ i l ne. in-q (λ j. EachSlot (λ z. z ≡ j → ⊥) (k i)) (once_apart s t0 t1 t2 t3 o q i (side_lt at p c) l (λ e. ne (sym e)))))

-- v may take the place of u, in the cell d, with new slots N, in the memory w
pub record TakesPlace (at : List Float) (w : List ℕ) (d : Extent) (N : ℕ → Type 0) (u v : Tree ℕ) : Type 1 where
  pub top : lead v ≡ lead u
  pub stored : Stored w v
  pub levels : depth v ≤ depth u
  pub renew : Renews N u v
  pub once : Once v
  pub fruitful : Fruitful v
  pub some : 0 < leaves v
  pub relink : Relink u v
  pub ways : OnWay at d v

module _ (at : List Float) (p : ℕ) (m w : List ℕ) (c : Extent) (root n : ℕ) (P : ℕ → Type 0) (t : Tree ℕ) (h : Occupies at m c root n P t) (l : ℕ) (d : Extent) (u v : Tree ℕ) (r : Reaches at p l c t d u) where
  pub replaced : (N : ℕ → Type 0) → TakesPlace at w d N u v → EachSlot (λ j. N j → ⊥) t → ((j : ℕ) → P j → (lead u ≡ j + 1 → ⊥) → Same m w j) → (n' : ℕ) → nodes v + n ≡ nodes u + n' → (P' : ℕ → Type 0) → EachSlot P' (plug at p l c t v)
      → Occupies at w c root n' P' (plug at p l c t v)
  replaced N f new same n' e P' s =
      let st = plug-stored at p m w P l c t d u v r f.top f.stored same h.slots h.once h.stored in
      record {
        leads = h.leads ∙ sym st.1;
        stored = st.0;
        most = omega (arith, h.most, plug-less at p l c t d u v r f.levels);
        count = omega (arith, h.count, e, plug-nodes at p l c t d u v r);
        slots = s;
        once = plug_once at p N l c t d u v r f.renew f.once new h.once;
        fruitful = (plug-fruit at p l c t d u v r f.fruitful f.some h.fruitful).0;
        ways = plug-ways at p l c t d u v r f.relink f.ways h.ways;
        places = plug-leaf at p (HasPlace at) l c t v h.places (f.relink (HasPlace at) (reach-leaf at p l c t d u r (HasPlace at) h.places));
      }

-- the same, said otherwise of its slots
pub occupies_slots : (at : List Float) (m : List ℕ) (c : Extent) (root n : ℕ) (P Q : ℕ → Type 0) → ((j : ℕ) → P j → Q j) → (t : Tree ℕ) → Occupies at m c root n P t → Occupies at m c root n Q t
occupies_slots at m c root n P Q f t h =
    record {
      leads = h.leads;
      stored = h.stored;
      most = h.most;
      count = h.count;
      slots = each_map P Q f t h.slots;
      once = h.once;
      fruitful = h.fruitful;
      ways = h.ways;
      places = h.places;
    }

-- the slot x has fallen free
pub hollowed : (at : List Float) (m w : List ℕ) (q : Quadtree) (x : ℕ) (t : Tree ℕ) → x < q.nodes → q.nodes * slot_words ≤ length m → q.nodes ≤ most_nodes most_particles → length w ≡ length m
    → Occupies at w q.extent q.root (q.nodes - 1) (λ j. (j < q.nodes) × (j ≡ x → ⊥)) t → Hollow at w (with_less q) x t
hollowed at m w q x t less room few size l =
    record {
      occupies = occupies_slots at w q.extent q.root (q.nodes - 1) (λ j. (j < q.nodes) × (j ≡ x → ⊥)) (But (q.nodes - 1) x) (λ j y. (more j y.0, y.1)) t l;
      least = omega (arith, less);
      room = omega (arith, less, room, size);
      few = omega (arith, few);
    }
  where
    more : (j : ℕ) → j < q.nodes → j < q.nodes - 1 + 1
    more j y = omega (arith, y)

-- ---- one child of a node rewritten

module _ (m m1 : List ℕ) (s : ℕ) (t0 t1 t2 t3 : Tree ℕ) (Q : ℕ → Type 0) (same : (j : ℕ) → Q j → Same m m1 j) (own : EachSlot Q (node s t0 t1 t2 t3)) (st : Stored m (node s t0 t1 t2 t3)) (o : Once (node s t0 t1 t2 t3))
    (X : ℕ) (small : X < 2 ^ 32) (below : EachSlot (λ j. j < X) (node s t0 t1 t2 t3)) (room : InSlots s m1) (q : ℕ) (lt : q < 4) (z : Tree ℕ) (low : lead z ≤ X) where
  abbrev k : ℕ → Tree ℕ
  k = pick t0 t1 t2 t3

  abbrev rewired : List ℕ
  rewired = put_internal m1 s (set (kids m1 s) q (lead z))

  rewired-kids : set (kids m1 s) q (lead z) ≡ leads (upd k q z)
  rewired-kids = ap (λ (ks : List ℕ). set ks q (lead z)) ((same s own.0).kids ∙ st.0.kids) ∙ leads-upd k q (lead z) z lt refl

  pub rewire : Stored rewired z → Stored rewired (over s (upd k q z))
  rewire h =
      let l : ℕ → Tree ℕ = upd k q z in
      stored-over rewired s l
      (node_put m1 s (set (kids m1 s) q (lead z)) (l 0) (l 1) (l 2) (l 3) room
      (leads-small X l small (upd-below (λ r u. lead u ≤ X) k q z low (λ r l ne. lead_le X (k r) (each_child t0 t1 t2 t3 s (λ j. j < X) below r)))) rewired-kids)
      (upd-below (λ r u. Stored rewired u) k q z h
      (λ r l ne. frame m rewired (λ j. Q j × (j ≡ s → ⊥)) (λ j y. same_trans m m1 rewired j (same j y.0) (internal_same m1 s (set (kids m1 s) q (lead z)) j y.1)) (k r)
      (each_both Q (λ j. j ≡ s → ⊥) (k r) (each_child t0 t1 t2 t3 s Q own r) (once_out s t0 t1 t2 t3 o r)) (stored_child t0 t1 t2 t3 s m st r)))

-- a child replaced: no slot twice
once_upd : (s : ℕ) (t0 t1 t2 t3 : Tree ℕ) → Once (node s t0 t1 t2 t3) → (q : ℕ) → q < 4 → (z : Tree ℕ) → EachSlot (λ j. j ≡ s → ⊥) z → ((r : ℕ) → r < 4 → (r ≡ q → ⊥) → Apart z (pick t0 t1 t2 t3 r)) → Once z
    → Once (over s (upd (pick t0 t1 t2 t3) q z))
once_upd s t0 t1 t2 t3 o q l z a b g =
    let k : ℕ → Tree ℕ = pick t0 t1 t2 t3 in
    once_over s (upd k q z) (upd-below (λ i u. EachSlot (λ j. j ≡ s → ⊥) u) k q z a (λ i l ne. once_out s t0 t1 t2 t3 o i))
    (pair-upd Apart k q z (once_apart s t0 t1 t2 t3 o) b (λ i l ne. apart_sym z (k i) (b i l ne)))
    (upd-below (λ i u. Once u) k q z g (λ i l ne. once_child s t0 t1 t2 t3 o i))

-- what is asked of a child z in the place of y
pub record Child (w : List ℕ) (N : ℕ → Type 0) (y z : Tree ℕ) : Type 1 where
  pub stored : Stored w z
  pub levels : depth z ≤ depth y
  pub renew : Renews N y z
  pub once : Once z
  pub fruitful : Fruitful z
  pub relink : Relink y z

module _ (at : List Float) (d : Extent) (s : ℕ) (t0 t1 t2 t3 : Tree ℕ) (o : Once (node s t0 t1 t2 t3)) (f : Fruitful (node s t0 t1 t2 t3)) (ways : OnWay at d (node s t0 t1 t2 t3)) (q : ℕ) (lt : q < 4) (N : ℕ → Type 0) (new : EachSlot (λ j. N j → ⊥) (node s t0 t1 t2 t3)) where
  pub fits_child : (w : List ℕ) (z : Tree ℕ) → Child w N (pick t0 t1 t2 t3 q) z → OnWay at (quarter q d) z → Stored w (over s (upd (pick t0 t1 t2 t3) q z)) → 0 < leaves (over s (upd (pick t0 t1 t2 t3) q z))
      → TakesPlace at w d N (node s t0 t1 t2 t3) (over s (upd (pick t0 t1 t2 t3) q z))
  fits_child w z h g st some =
      let k : ℕ → Tree ℕ = pick t0 t1 t2 t3 in
      record {
        top = refl;
        stored = st;
        levels = depth-less s k q z lt h.levels;
        renew = λ P e new. each_over P s (upd k q z) e.0 (upd-below (λ r u. EachSlot P u) k q z (h.renew P (each_child t0 t1 t2 t3 s P e q) new) (λ r l ne. each_child t0 t1 t2 t3 s P e r));
        once = once_upd s t0 t1 t2 t3 o q lt z (h.renew (λ j. j ≡ s → ⊥) (once_out s t0 t1 t2 t3 o q) (λ j y e. new.0 (subst N e y)))
            (λ r l ne. h.renew (λ j. EachSlot (λ x. x ≡ j → ⊥) (k r)) (once_apart s t0 t1 t2 t3 o q r lt l (λ e. ne (sym e)))
            (λ j y. each_map (λ x. N x → ⊥) (λ x. x ≡ j → ⊥) (λ x n e. n (subst N (sym e) y)) (k r) (each_child t0 t1 t2 t3 s (λ j. N j → ⊥) new r))) h.once;
        fruitful = fruit-over s (upd k q z) some (upd-below (λ r u. Fruitful u) k q z h.fruitful (λ r l ne. fruit_child s t0 t1 t2 t3 f r));
        some = some;
        relink = λ Q e. leaf_over Q s (upd k q z) (upd-below (λ r u. EachLeaf (λ _. Q) u) k q z (h.relink Q (leaf_child t0 t1 t2 t3 s Q e q)) (λ r l ne. leaf_child t0 t1 t2 t3 s Q e r));
        ways = way-over at d s (upd k q z) (upd-below (λ r u. Lie at d r u × OnWay at (quarter r d) u) k q z (h.relink (λ js. side at (first js) d ≡ q) (way_child at d s t0 t1 t2 t3 ways q lt).0, g) (λ r l ne. way_child at d s t0 t1 t2 t3 ways r l));
      }

-- ---- a leaf goes; a node becomes its only leaf

module _ (at : List Float) (p : ℕ) (m : List ℕ) (c : Extent) (root n : ℕ) (P : ℕ → Type 0) (t : Tree ℕ) (h : Occupies at m c root (suc n) P t) (l : ℕ) (d : Extent) (s : ℕ) (t0 t1 t2 t3 : Tree ℕ) (r : Reaches at p l c t d (node s t0 t1 t2 t3))
    (q : ℕ) (lt : q < 4) (x : ℕ) (js : List ℕ) (is : pick t0 t1 t2 t3 q ≡ leaf x js) where
  o : Once (node s t0 t1 t2 t3)
  o = reach-once at p l c t d (node s t0 t1 t2 t3) r h.once

  has : (R : ℕ → Type 0) → EachSlot R (node s t0 t1 t2 t3) → R x
  has R e = subst (EachSlot R) is (each_child t0 t1 t2 t3 s R e q)

  not_own : s ≡ x → ⊥
  not_own e = subst (EachSlot (λ j. j ≡ s → ⊥)) is (once_out s t0 t1 t2 t3 o q) (sym e)

  fruit : Fruitful (node s t0 t1 t2 t3)
  fruit = reach-all at p Fruitful (λ s t0 t1 t2 t3 h. fruit_child s t0 t1 t2 t3 h) l c t d (node s t0 t1 t2 t3) r h.fruitful

  pub cut : (X : ℕ) → X < 2 ^ 32 → EachSlot (λ j. j < X) t → InSlots s m → 2 ≤ leaves (node s t0 t1 t2 t3)
      → Occupies at (put_internal m s (set (kids m s) q 0)) c root n (λ j. P j × (j ≡ x → ⊥)) (plug at p l c t (over s (upd (pick t0 t1 t2 t3) q none)))
  cut X small below room two =
      let k : ℕ → Tree ℕ = pick t0 t1 t2 t3 in
      let u : Tree ℕ = node s t0 t1 t2 t3 in
      let v : Tree ℕ = over s (upd k q none) in
      let w : List ℕ = put_internal m s (set (kids m s) q 0) in
      let st : Stored w v = rewire m m s t0 t1 t2 t3 (λ _. Unit {0}) (λ j _. same_refl m j) (each_true (λ _. Unit {0}) (λ _. tt) u) (reach-stored at p l c t d u r m h.stored) o X small (reach-each at p l c t d u r (λ j. j < X) below) room q lt none (omega arith) tt in
      let gone : EachSlot (λ j. j ≡ x → ⊥) v = each_over (λ j. j ≡ x → ⊥) s (upd k q none) not_own (upd-below (λ i u. EachSlot (λ j. j ≡ x → ⊥) u) k q none tt
      (λ i l ne. subst (EachSlot (λ j. EachSlot (λ z. z ≡ j → ⊥) (k i))) is (once_apart s t0 t1 t2 t3 o q i lt l (λ e. ne (sym e))))) in
      let one : leaves (k q) ≡ 1 = ap leaves is in
      let one' : nodes (k q) ≡ 1 = ap nodes is in
      let f : TakesPlace at w d (λ _. ⊥) u v = fits_child at d s t0 t1 t2 t3 o fruit (reach-ways at p l c t d u r h.ways) q lt (λ _. ⊥) (each_true (λ j. ⊥ → ⊥) (λ j e. e) u) w none
      (record { stored = tt; levels = omega arith; renew = λ P e new. tt; once = tt; fruitful = tt; relink = λ Q e. tt }) tt st (omega (arith, leaves-upd s k q none lt)) in
      replaced at p m w c root (suc n) P t h l d u v r (λ _. ⊥) f (each_true (λ j. ⊥ → ⊥) (λ j e. e) t)
      (λ j a b. internal_same m s (set (kids m s) q 0) j (λ e. b (ap (λ (y : ℕ). y + 1) (sym e)))) n (omega (arith, nodes-upd s k q none lt)) (λ j. P j × (j ≡ x → ⊥))
      (each_both P (λ j. j ≡ x → ⊥) (plug at p l c t v) (plug_each at p P l c t v h.slots (f.renew P (reach-each at p l c t d u r P h.slots) (λ j e. absurd e))) (plug-out at p x l c t d u v r has gone h.once))

  pub fold : InSlots s m → nodes (node s t0 t1 t2 t3) ≡ 2
      → Occupies at (put_leaf m s (first js)) c root n (λ j. P j × (j ≡ x → ⊥)) (plug at p l c t (leaf s js))
  fold room two =
      let u : Tree ℕ = node s t0 t1 t2 t3 in
      let w : List ℕ = put_leaf m s (first js) in
      let f : TakesPlace at w d (λ _. ⊥) u (leaf s js) = record {
        top = refl;
        stored = leaf_put m s (first js) js room refl;
        levels = omega arith;
        renew = λ P e new. e.0;
        once = tt;
        fruitful = tt;
        some = omega arith;
        relink = λ Q e. subst (EachLeaf (λ _. Q)) is (leaf_child t0 t1 t2 t3 s Q e q);
        ways = tt;
      } in
      replaced at p m w c root (suc n) P t h l d u (leaf s js) r (λ _. ⊥) f (each_true (λ j. ⊥ → ⊥) (λ j e. e) t)
      (λ j a b. leaf_same m s (first js) j (λ e. b (ap (λ (y : ℕ). y + 1) (sym e)))) n (omega arith) (λ j. P j × (j ≡ x → ⊥))
      (each_both P (λ j. j ≡ x → ⊥) (plug at p l c t (leaf s js)) (plug_each at p P l c t (leaf s js) h.slots (reach-each at p l c t d u r P h.slots).0) (plug-out at p x l c t d u (leaf s js) r has not_own h.once))

-- ---- a node takes another slot

abbrev pub relabel : ℕ → Tree ℕ → Tree ℕ
relabel h none = none
relabel h (leaf s is) = leaf h is
relabel h (node s t0 t1 t2 t3) = node h t0 t1 t2 t3

pub relabel_child : (m w : List ℕ) (x h : ℕ) (y : Tree ℕ) → lead y ≡ x + 1 → Stored m y → Once y → Fruitful y → EachSlot (λ j. j ≡ h → ⊥) y → (R : ℕ → Type 0) → EachSlot R y → ((j : ℕ) → R j → (j ≡ h → ⊥) → Same m w j)
    → Shows m x w h → Child w (λ j. j ≡ h) y (relabel h y)
relabel_child m w x h none e st o f n R b same a = absurd (omega arith)
relabel_child m w x h (leaf s is) e st o f n R b same a =
    let z : x ≡ s = omega arith in
    record { stored = leaf_shown (subst (λ (j : ℕ). Shows m j w h) z a) st; levels = omega arith; renew = λ P e new. new h refl; once = tt; fruitful = tt; relink = λ Q e. e }
relabel_child m w x h (node s t0 t1 t2 t3) e st o f n R b same a =
    let z : x ≡ s = omega arith in
    let kept : (r : ℕ) → Stored w (pick t0 t1 t2 t3 r) = λ r. frame m w (λ j. R j × (j ≡ h → ⊥)) (λ j y. same j y.0 y.1) (pick t0 t1 t2 t3 r)
    (each_both R (λ j. j ≡ h → ⊥) (pick t0 t1 t2 t3 r) (each_child t0 t1 t2 t3 s R b r) (each_child t0 t1 t2 t3 s (λ j. j ≡ h → ⊥) n r)) (stored_child t0 t1 t2 t3 s m st r) in
    record {
      stored = (node_shown (subst (λ (j : ℕ). Shows m j w h) z a) st.0, kept 0, kept 1, kept 2, kept 3);
      levels = omega arith;
      renew = λ P e new. (new h refl, e.1, e.2, e.3, e.4);
      once = (n.1, n.2, n.3, n.4, o.4, o.5, o.6, o.7, o.8, o.9, o.10, o.11, o.12, o.13);
      fruitful = f;
      relink = λ Q e. e;
    }
