-- What holds of a loop that lays a value at each node, children first, at each of its turns. Assumes nothing.
use mathlib.Core.Path.{◌≡◌, refl, sym, ap, ◌∙◌, subst, subst⁻¹}
use mathlib.Core.List.{List, [], ◌∷◌}
use Prim.Native.Nat.{ℕ, zero, suc, ◌+◌, ◌-◌, ◌≤◌, ◌<◌}
use native.Mathlib.Omega.{arith}
use lib.Dec.{eqb}
use lib.ListN.{length, length-append}
use lib.Ieee.{Float}
use borrow.Author.Tests.{ne_eqb}
use Rattle.rules.specs.declared.Extent.{Extent}
use Rattle.rules.specs.Plain.{branch}
use Rattle.rules.specs.Tree.{Tree, none, leaf, node, depth}
use Rattle.rules.specs.Walk.{Entry, internal, tip, valued, parent_last}
use Rattle.tree_slots.specs.declared.Quadtree.{Quadtree}
use Rattle.tree_slots.specs.Trees.{word, kid, LeafIn, InternalIn, Follows, Leads, Lays, Stands, ChainFrom, InSlots}
use Rattle.tree_walk.specs.Walk.{EachChain}
use Rattle.tree_walk.specs.WalkAfter.{Step, rooted, remaining, remaining_all, Steps, Climbs, EntryAt, KidsIn, EachTip, kid_values, Valued}
use Rattle.tree_walk.specs.Path.{Climbing, Climbed, First, HandsOut}
use Rattle.tree_walk.proofs.WalkClimb.{climb_start}
use Rattle.tree_walk.proofs.WalkTurns.{under, under-nodes}
use Rattle.tree_walk.proofs.WalkValues.{Alike, alike_refl, alike_trans, Writes}
use Rattle.tree_walk.proofs.WalkFill.{act, fill, act-alike, act-long, kept-fill, kept-valued, Kept}
use Rattle.tree_walk.proofs.WalkStands.{found}
use Rattle.tree_walk.proofs.WalkAfter.{length_last, tips_last, climbs_alike, lays_alike}

-- ---- how many nodes are still to be handed out along a path: it falls at each turn

-- from a quadrant on of an internal node, and itself
abbrev pub opened : List ℕ → ℕ → ℕ → ℕ
opened m s zero = under m 64 (kid m s 0) + (under m 64 (kid m s 1) + (under m 64 (kid m s 2) + (under m 64 (kid m s 3) + 1)))
opened m s (suc zero) = under m 64 (kid m s 1) + (under m 64 (kid m s 2) + (under m 64 (kid m s 3) + 1))
opened m s (suc (suc zero)) = under m 64 (kid m s 2) + (under m 64 (kid m s 3) + 1)
opened m s (suc (suc (suc zero))) = under m 64 (kid m s 3) + 1
opened m s (suc (suc (suc (suc q)))) = 1

unfoldable pub at_step : List ℕ → Step → ℕ
at_step m e = branch (eqb (word m e.slot 0) 0) (λ _. opened m e.slot e.quadrant) (λ _. 1)

abbrev pub to_come : List ℕ → List Step → ℕ
to_come m [] = 0
to_come m (e ∷ es) = at_step m e + to_come m es

module _ (m next : List ℕ) where
  kid-count : (p : ℕ) (t : Tree ℕ) → Leads m next p t → depth t ≤ 64 → under m 64 p ≡ length (parent_last t)
  kid-count p t l d = under-nodes m next 64 p t l d ∙ sym (length_last t)

  opened_count : (s q : ℕ) (t0 t1 t2 t3 : Tree ℕ) → Leads m next (kid m s 0) t0 → Leads m next (kid m s 1) t1 → Leads m next (kid m s 2) t2 → Leads m next (kid m s 3) t3
      → depth t0 ≤ 64 → depth t1 ≤ 64 → depth t2 ≤ 64 → depth t3 ≤ 64 → opened m s q ≡ length (remaining q (node s t0 t1 t2 t3))
  opened_count s zero t0 t1 t2 t3 l0 l1 l2 l3 d0 d1 d2 d3 =
      simp length-append (rw (kid-count (kid m s 0) t0 l0 d0, kid-count (kid m s 1) t1 l1 d1, kid-count (kid m s 2) t2 l2 d2, kid-count (kid m s 3) t3 l3 d3))
  opened_count s (suc zero) t0 t1 t2 t3 l0 l1 l2 l3 d0 d1 d2 d3 = simp length-append (rw (kid-count (kid m s 1) t1 l1 d1, kid-count (kid m s 2) t2 l2 d2, kid-count (kid m s 3) t3 l3 d3))
  opened_count s (suc (suc zero)) t0 t1 t2 t3 l0 l1 l2 l3 d0 d1 d2 d3 = simp length-append (rw (kid-count (kid m s 2) t2 l2 d2, kid-count (kid m s 3) t3 l3 d3))
  opened_count s (suc (suc (suc zero))) t0 t1 t2 t3 l0 l1 l2 l3 d0 d1 d2 d3 = simp length-append (rw (kid-count (kid m s 3) t3 l3 d3))
  opened_count s (suc (suc (suc (suc q)))) t0 t1 t2 t3 l0 l1 l2 l3 d0 d1 d2 d3 = refl

  step-count : (e : Step) (t : Tree ℕ) → Leads m next (e.slot + 1) t → depth t ≤ 65 → at_step m e ≡ length (remaining e.quadrant t)
  unfolding at_step
  step-count e none l d = absurd (omega (arith, l))
  step-count e (leaf i is) l d =
      let n : e.slot ≡ i = omega (arith, l.0) in
      rw (n, ne_eqb (word m i 0) 0 (λ z. omega (arith, z, l.1.tag)))
  step-count e (node i t0 t1 t2 t3) l d =
      let n : e.slot ≡ i = omega (arith, l.0) in
      rw (n, l.1.tag) (opened_count i e.quadrant t0 t1 t2 t3 l.2 l.3 l.4 l.5 (omega arith) (omega arith) (omega arith) (omega arith))

  steps-count : (es : List Step) (ts : List (Tree ℕ)) → Steps m next es ts → to_come m es ≡ length (remaining_all es ts)
  steps-count [] [] s = refl
  steps-count [] (t ∷ ts) s = absurd s
  steps-count (e ∷ es) [] s = absurd s
  steps-count (e ∷ es) (t ∷ ts) s = rw (length-append (remaining e.quadrant t) (remaining_all es ts), step-count e t s.0 (omega (arith, s.2)), steps-count es ts s.4)

  climbs-count : {es : List Step} {rest : List (Entry ℕ)} → Climbs m next es rest → to_come m es ≡ length rest
  climbs-count {es} c = steps-count es c.trees c.steps ∙ ap length c.same

-- ---- the loop

-- Values are laid at the nodes of a tree, children first: from the slots m₀ it has come to m, and the nodes that are to come are those along the path p.
pub record Laying {B : Type 0} (read : List ℕ → ℕ → B) (write : List ℕ → ℕ → B → List ℕ) (of_leaf : List ℕ → B) (of_node : List B → B) (P : List ℕ → Type 0) (next : List ℕ) (tree : Tree ℕ) (m₀ m : List ℕ) (p : List Step) : Type 0 where
  pub rest : List (Entry ℕ)
  pub climbs : Climbs m next p rest
  pub same : fill read write of_leaf of_node rest m ≡ fill read write of_leaf of_node (parent_last tree) m₀
  pub good : EachTip P rest
  pub alike : Alike m₀ m
  pub long : length m ≡ length m₀

-- a turn of it, in which the node at the slot s was handed out, and p' is the path since
pub record Taken {B : Type 0} (read : List ℕ → ℕ → B) (write : List ℕ → ℕ → B → List ℕ) (of_leaf : List ℕ → B) (of_node : List B → B) (P : List ℕ → Type 0) (next : List ℕ) (tree : Tree ℕ) (m₀ m : List ℕ) (p p' : List Step) (s : ℕ) : Type 0 where
  pub laying : Laying read write of_leaf of_node P next tree m₀ m p
  pub went : HandsOut m p p' s

module _ {B : Type 0} (read : List ℕ → ℕ → B) (write : List ℕ → ℕ → B → List ℕ) (of_leaf : List ℕ → B) (of_node : List B → B) (P : List ℕ → Type 0) where
  pub start : {t : Tree Extent} {m next : List ℕ} {q : Quadtree} (s : Lays t m next q) → EachChain P s.tree → (p : List Step) → p ≡ rooted q.root
      → Laying read write of_leaf of_node P next s.tree m m p
  start {m = m} {next = next} {q = q} s h p e =
      let f = found s P h in
      record {
        rest = parent_last s.tree;
        climbs = rw e (climb_start m next q.root s.tree s.leads f.1 s.levels);
        same = refl;
        good = tips_last P s.tree h;
        alike = alike_refl m;
        long = refl;
      }

module _ {B : Type 0} {read : List ℕ → ℕ → B} {write : List ℕ → ℕ → B → List ℕ} {of_leaf : List ℕ → B} {of_node : List B → B} {P : List ℕ → Type 0} {next : List ℕ} {tree : Tree ℕ} {m₀ m : List ℕ} {p : List Step}
    (f : Laying read write of_leaf of_node P next tree m₀ m p) where
  -- it goes along a path
  pub climbing : Climbing m p
  climbing = record { next = next; rest = f.rest; climbs = f.climbs }

module _ {B : Type 0} {read : List ℕ → ℕ → B} {write : List ℕ → ℕ → B → List ℕ} {of_leaf : List ℕ → B} {of_node : List B → B} {P : List ℕ → Type 0} {next : List ℕ} {tree : Tree ℕ} {m₀ m : List ℕ} {p p' : List Step} {s : ℕ}
    (t : Taken read write of_leaf of_node P next tree m₀ m p p' s) where
  at : First m next p' s t.laying.rest
  at = t.went.first next t.laying.rest t.laying.climbs

  -- what was handed out is lent
  pub reach : InSlots s m
  reach = at.lent

  -- fewer nodes are to come, once its value is laid
  pub falls : {Fit : B → Type 0} → Writes Fit read write → {w : List ℕ} (b : B) → w ≡ write m s b → to_come w p' < to_come m p
  falls W {w} b e =
      let a : Alike m w = subst⁻¹ (λ (x : List ℕ). Alike m x) e (W.alike m s b) in
      let l : length w ≡ length m = ap length e ∙ W.long m s b in
      omega (arith, climbs-count w next (climbs_alike m w next a l p' at.others at.climbs), climbs-count m next t.laying.climbs, ap length at.split)

  -- the entry is written for
  step : {Fit : B → Type 0} → Writes Fit read write → (w : List ℕ) → w ≡ act read write of_leaf of_node at.entry m → Laying read write of_leaf of_node P next tree m₀ w p'
  step W w e =
      let a : Alike m w = subst⁻¹ (λ (x : List ℕ). Alike m x) e (act-alike W of_leaf of_node at.entry m) in
      let b : length w ≡ length m = ap length e ∙ act-long W of_leaf of_node at.entry m in
      record {
        rest = at.others;
        climbs = climbs_alike m w next a b p' at.others at.climbs;
        same = ap (fill read write of_leaf of_node at.others) e ∙ ap (λ (es : List (Entry ℕ)). fill read write of_leaf of_node es m) (sym at.split) ∙ t.laying.same;
        good = tail at.entry at.others (subst (EachTip P) at.split t.laying.good);
        alike = alike_trans m₀ m w t.laying.alike a;
        long = b ∙ t.laying.long;
      }
    where
      tail : (e : Entry ℕ) (es : List (Entry ℕ)) → EachTip P (e ∷ es) → EachTip P es
      tail (internal s) es h = h
      tail (tip s is) es h = h.1

  module _ (z : InternalIn m s) where
    entry-node : (at.entry ≡ internal s) × KidsIn m s
    entry-node = go at.entry at.stands
      where
        go : (e : Entry ℕ) → EntryAt m next s e → (e ≡ internal s) × KidsIn m s
        go (internal i) h = (ap internal h.0, h.2)
        go (tip i is) h = absurd (omega (arith, z, h.1.tag))

    -- an internal node: its children are lent
    pub kids-lent : KidsIn m s
    kids-lent = entry-node.1

    -- the value of an internal node is laid
    pub turn-node : {Fit : B → Type 0} → Writes Fit read write → (w : List ℕ) → w ≡ write m s (of_node (kid_values read m s)) → Laying read write of_leaf of_node P next tree m₀ w p'
    turn-node W w e = step W w (e ∙ ap (λ (x : Entry ℕ). act read write of_leaf of_node x m) (sym entry-node.0))

  module _ (z : InternalIn m s → ⊥) where
    entry-leaf : (is : List ℕ) × (at.entry ≡ tip s is) × LeafIn m s is × Follows next is × P is
    entry-leaf = go at.entry at.stands (subst (EachTip P) at.split t.laying.good)
      where
        go : (e : Entry ℕ) → EntryAt m next s e → EachTip P (e ∷ at.others) → (is : List ℕ) × (e ≡ tip s is) × LeafIn m s is × Follows next is × P is
        go (internal i) h k = absurd (z h.1)
        go (tip i is) h k = (is, ap (λ (s : ℕ). tip s is) h.0, h.1, h.2, k.0)

    -- a leaf's chain, from its first particle
    pub chain : ChainFrom next P (word m s 0 - 1)
    chain = let e = entry-leaf in record { members = e.0; follows = e.3; starts = omega (arith, e.2.tag); good = e.4 }

    -- the value of a leaf is laid
    pub turn-leaf : {Fit : B → Type 0} → Writes Fit read write → (w : List ℕ)
        → ((is : List ℕ) → Follows next is → LeafIn m s is → P is → w ≡ write m s (of_leaf is)) → Laying read write of_leaf of_node P next tree m₀ w p'
    turn-leaf W w h =
        let e = entry-leaf in
        step W w (h e.0 e.3 e.2 e.4 ∙ ap (λ (x : Entry ℕ). act read write of_leaf of_node x m) (sym e.1))

-- ---- its end

module _ {B : Type 0} {Fit : B → Type 0} {read : List ℕ → ℕ → B} {write : List ℕ → ℕ → B → List ℕ} (W : Writes Fit read write) (of_leaf : List ℕ → B) (of_node : List B → B) (P : List ℕ → Type 0)
    (fit_leaf : (is : List ℕ) → P is → Fit (of_leaf is)) (fit_node : (m : List ℕ) (s : ℕ) → Fit (of_node (kid_values read m s))) where
  -- with no node to come, each has the rules' value
  pub finish-read : {at : List Float} {n : ℕ} {m₀ m next : List ℕ} {q : Quadtree} {p : List Step} (s : Stands at n m₀ next q) → EachChain P s.tree → Climbed m p → Laying read write of_leaf of_node P next s.tree m₀ m p
      → Valued read of_leaf of_node at n m next q
  finish-read {m₀ = m₀} {m = m} {next = next} {q = q} s h c f =
      let e : m ≡ fill read write of_leaf of_node (parent_last s.tree) m₀ = none_left f.rest (c next f.rest f.climbs) f.same in
      record {
        stands = lays_alike s m f.alike f.long;
        values = kept-valued read write of_leaf of_node m q.extent s.tree
            (subst⁻¹ (λ (x : List ℕ). Kept read write of_leaf of_node x s.tree) e
            (kept-fill W of_leaf of_node P fit_leaf fit_node next s.tree q.root m₀ s.leads s.once (found s P h).1 h))
            ∙ ap (valued of_leaf of_node) s.is;
      }
    where
      none_left : (rest : List (Entry ℕ)) → rest ≡ [] → fill read write of_leaf of_node rest m ≡ fill read write of_leaf of_node (parent_last s.tree) m₀
          → m ≡ fill read write of_leaf of_node (parent_last s.tree) m₀
      none_left [] c e = e
      none_left (x ∷ rest) c e = absurd (omega (arith, ap length c))

-- the same where whatever is laid at an internal node fits
pub finish : {B : Type 0} {Fit : B → Type 0} {read : List ℕ → ℕ → B} {write : List ℕ → ℕ → B → List ℕ} → Writes Fit read write → (of_leaf : List ℕ → B) (of_node : List B → B) (P : List ℕ → Type 0)
    → ((is : List ℕ) → P is → Fit (of_leaf is)) → ((bs : List B) → Fit (of_node bs)) → {at : List Float} {n : ℕ} {m₀ m next : List ℕ} {q : Quadtree} {p : List Step} (s : Stands at n m₀ next q) → EachChain P s.tree
    → Climbed m p → Laying read write of_leaf of_node P next s.tree m₀ m p → Valued read of_leaf of_node at n m next q
finish {read = read} W of_leaf of_node P fit_leaf fit_node s h c f = finish-read W of_leaf of_node P fit_leaf (λ m s. fit_node (kid_values read m s)) s h c f
