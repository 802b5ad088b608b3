-- A leaf that is split: the tree that takes its place, what is written, and that this is the tree of the cell rule.
use mathlib.Core.Path.{◌≡◌, refl, sym, ap, ◌∙◌, subst}
use mathlib.Core.Bool.{Bool, true, false}
use mathlib.Core.List.{List, [], ◌∷◌}
use Prim.Native.Nat.{ℕ, zero, suc, ◌+◌, ◌*◌, ◌^◌, ◌≤◌, ◌<◌, max}
use native.Mathlib.Omega.{arith}
use lib.Dec.{eqb}
use lib.ListN.{length, set}
use lib.Ieee.{Float}
use borrow.Author.Tests.{eqb-true, eqb-false, eq-eqb, ne_eqb}
use Rattle.rules.specs.declared.Extent.{Extent}
use Rattle.rules.specs.Plain.{branch}
use Rattle.rules.specs.Number.{x_at, y_at}
use Rattle.rules.specs.Cell.{quadrant, quarter}
use Rattle.rules.specs.Tree.{Tree, none, leaf, depth, nodes, same, in_quarter}
use Rattle.rules.specs.Calls.{slot_words}
use Rattle.rules.proofs.CellInsert.{insert_t, into, moved, tips, below, insert-apart, insert-together, insert-other, insert-node}
use Rattle.rules.proofs.CellDeep.{quarter_of, in_quarter-is, in_quarter-own}
use Rattle.tree_slots.specs.Slots.{put_internal, put_leaf, childless}
use Rattle.tree_slots.specs.Trees.{first, EachSlot, Apart, Once, in_cells, lead}
use Rattle.tree_leaves.specs.Leaf.{side, shared_levels, parted}
use Rattle.tree_placing.specs.Add.{Stored, pick}
use Rattle.tree_slots.proofs.Slots.{Same, Small, same_trans, internal_length, internal_same, node_shown, node_put, leaf_length, leaf_same, leaf_shown, leaf_put}
use Rattle.tree_placing.proofs.SlotsTree.{each_true, apart_sym, over, upd, bare, leads, upd-all, upd-below, each_over, stored-over, leads-upd, leads-small, depth-upd, nodes-upd, depth_child, once_over, pair-upd}
use Rattle.tree_placing.proofs.AddWay.{pick-ap, deeper, side_lt}
use Rattle.tree_cells.proofs.Quadrant.{quadrant_lt}

module _ (at : List Float) (p : ℕ) where
  -- the leaf of the chain `is` and the new leaf of p below g + 1 internal nodes, the first in slot s, the others from slot x on
  abbrev pub split_t : List ℕ → ℕ → Extent → ℕ → ℕ → Tree ℕ
  split_t is zero c s x = over s (upd (upd bare (quarter_of at c (first is)) (leaf x is)) (side at p c) (leaf (x + 1) (p ∷ [])))
  split_t is (suc g) c s x = over s (upd bare (side at p c) (split_t is g (quarter (side at p c) c) x (x + 1)))

  pub split-lead : (is : List ℕ) (g : ℕ) (c : Extent) (s x : ℕ) → lead (split_t is g c s x) ≡ s + 1
  split-lead is zero c s x = refl
  split-lead is (suc g) c s x = refl

  -- ---- slots

  pub split_each : (P : ℕ → Type 0) (is : List ℕ) (g : ℕ) (c : Extent) (s x : ℕ) → P s → ((j : ℕ) → x ≤ j → j < x + (g + 2) → P j) → EachSlot P (split_t is g c s x)
  split_each P is zero c s x h new =
      each_over P s (upd (upd bare (quarter_of at c (first is)) (leaf x is)) (side at p c) (leaf (x + 1) (p ∷ []))) h
      (upd-below (λ r t. EachSlot P t) (upd bare (quarter_of at c (first is)) (leaf x is)) (side at p c) (leaf (x + 1) (p ∷ [])) (new (x + 1) (omega arith) (omega arith))
      (λ r l n. upd-all (λ r t. EachSlot P t) bare (quarter_of at c (first is)) (leaf x is) (new x (omega arith) (omega arith)) (λ r n. tt) r))
  split_each P is (suc g) c s x h new =
      let t = split_t is g (quarter (side at p c) c) x (x + 1) in
      each_over P s (upd bare (side at p c) t) h
      (upd-below (λ r t. EachSlot P t) bare (side at p c) t
      (split_each P is g (quarter (side at p c) c) x (x + 1) (new x (omega arith) (omega arith)) (λ j u v. new j (omega arith) (omega arith))) (λ r l n. tt))

  pub split_once : (is : List ℕ) (g : ℕ) (c : Extent) (s x : ℕ) → s < x → Once (split_t is g c s x)
  split_once is zero c s x lt =
      let k : ℕ → Tree ℕ = upd bare (quarter_of at c (first is)) (leaf x is) in
      let t : Tree ℕ = leaf (x + 1) (p ∷ []) in
      let apart : (r : ℕ) → r < 4 → (r ≡ side at p c → ⊥) → Apart t (k r) = λ r l n.
      upd-all (λ r u. EachSlot (λ j. j ≡ x + 1 → ⊥) u) bare (quarter_of at c (first is)) (leaf x is) (omega arith) (λ r n. tt) r in
      once_over s (upd k (side at p c) t)
      (upd-below (λ r u. EachSlot (λ j. j ≡ s → ⊥) u) k (side at p c) t (omega arith)
      (λ r l n. upd-all (λ r u. EachSlot (λ j. j ≡ s → ⊥) u) bare (quarter_of at c (first is)) (leaf x is) (omega arith) (λ r n. tt) r))
      (pair-upd Apart k (side at p c) t (pair-upd Apart bare (quarter_of at c (first is)) (leaf x is) (λ i j a b n. tt) (λ r l n. tt) (λ r l n. tt)) apart (λ r l n. apart_sym t (k r) (apart r l n)))
      (upd-below (λ r u. Once u) k (side at p c) t tt (λ r l n. upd-all (λ r u. Once u) bare (quarter_of at c (first is)) (leaf x is) tt (λ r n. tt) r))
  split_once is (suc g) c s x lt =
      let t : Tree ℕ = split_t is g (quarter (side at p c) c) x (x + 1) in
      once_over s (upd bare (side at p c) t)
      (upd-below (λ r u. EachSlot (λ j. j ≡ s → ⊥) u) bare (side at p c) t
      (split_each (λ j. j ≡ s → ⊥) is g (quarter (side at p c) c) x (x + 1) (omega arith) (λ j a b. omega arith)) (λ r l n. tt))
      (pair-upd Apart bare (side at p c) t (λ i j a b n. tt) (λ r l n. each_true (λ j. Unit {0}) (λ j. tt) t) (λ r l n. tt))
      (upd-below (λ r u. Once u) bare (side at p c) t (split_once is g (quarter (side at p c) c) x (x + 1) (omega arith)) (λ r l n. tt))

  -- ---- levels and nodes

  pub split-depth : (is : List ℕ) (g : ℕ) (c : Extent) (s x : ℕ) → depth (split_t is g c s x) ≡ g + 2
  split-depth is zero c s x =
      let q = quarter_of at c (first is) in
      let k : ℕ → Tree ℕ = upd bare q (leaf x is) in
      let a : depth (over s k) ≡ 2 = depth-upd s bare q 1 (leaf x is) (quadrant_lt c (x_at at (first is)) (y_at at (first is))) refl in
      let b : depth (k (side at p c)) ≤ 1 = upd-all (λ r u. depth u ≤ 1) bare q (leaf x is) (omega arith) (λ r n. omega arith) (side at p c) in
      depth-upd s k (side at p c) 1 (leaf (x + 1) (p ∷ [])) (side_lt at p c) (omega arith) ∙ rw a
  split-depth is (suc g) c s x =
      let t : Tree ℕ = split_t is g (quarter (side at p c) c) x (x + 1) in
      let a = split-depth is g (quarter (side at p c) c) x (x + 1) in
      depth-upd s bare (side at p c) (depth t) t (side_lt at p c) (none_max (depth t)) ∙ more (depth t) a
    where
      none_max : (d : ℕ) → d ≡ max 0 d
      none_max d = omega arith

      more : (d : ℕ) → d ≡ g + 2 → max 1 (suc d) ≡ suc g + 2
      more d e = omega arith

  -- where the quadrants differ
  pub shared_stop : (n : ℕ) (c : Extent) (i : ℕ) → 0 < n → shared_levels at p n c i ≡ 0 → in_quarter at c (side at p c) i ≡ false
  shared_stop zero c i l e = absurd (omega arith)
  shared_stop (suc n) c i l e = go (in_quarter at c (side at p c) i) refl e
    where
      go : (b : Bool) → in_quarter at c (side at p c) i ≡ b → branch b (λ _. suc (shared_levels at p n (quarter (side at p c) c) i)) (λ _. 0) ≡ 0 → in_quarter at c (side at p c) i ≡ false
      go true f e = absurd (omega arith)
      go false f e = f

  -- where they are the same
  pub shared_more : (n : ℕ) (c : Extent) (i g : ℕ) → shared_levels at p (suc n) c i ≡ suc g → (in_quarter at c (side at p c) i ≡ true) × (shared_levels at p n (quarter (side at p c) c) i ≡ g)
  shared_more n c i g e = go (in_quarter at c (side at p c) i) refl e
    where
      go : (b : Bool) → in_quarter at c (side at p c) i ≡ b → branch b (λ _. suc (shared_levels at p n (quarter (side at p c) c) i)) (λ _. 0) ≡ suc g → (in_quarter at c (side at p c) i ≡ true) × (shared_levels at p n (quarter (side at p c) c) i ≡ g)
      go true f e = (f, omega arith)
      go false f e = absurd (omega arith)

  pub shared_le : (n : ℕ) (c : Extent) (i : ℕ) → shared_levels at p n c i ≤ n
  shared_le zero c i = omega arith
  shared_le (suc n) c i = go (in_quarter at c (side at p c) i) (shared_le n (quarter (side at p c) c) i)
    where
      go : (b : Bool) → shared_levels at p n (quarter (side at p c) c) i ≤ n → branch b (λ _. suc (shared_levels at p n (quarter (side at p c) c) i)) (λ _. 0) ≤ suc n
      go true h = omega arith
      go false h = omega arith

  -- not in p's quarter, so in another
  other-quarter : (c : Extent) (i : ℕ) → in_quarter at c (side at p c) i ≡ false → side at p c ≡ quarter_of at c i → ⊥
  unfolding in_quarter
  other-quarter c i e = eqb-false (side at p c) (quarter_of at c i) e

  pub split-nodes : (is : List ℕ) (g n : ℕ) (c : Extent) (s x : ℕ) → g < n → shared_levels at p n c (first is) ≡ g → nodes (split_t is g c s x) ≡ g + 3
  split-nodes is zero n c s x l e =
      let q = quarter_of at c (first is) in
      let k : ℕ → Tree ℕ = upd bare q (leaf x is) in
      let a : nodes (k (side at p c)) ≡ 0 = rw (ne_eqb (side at p c) q (other-quarter c (first is) (shared_stop n c (first is) l e))) in
      omega (arith, nodes-upd s bare q (leaf x is) (quadrant_lt c (x_at at (first is)) (y_at at (first is))), nodes-upd s k (side at p c) (leaf (x + 1) (p ∷ [])) (side_lt at p c))
  split-nodes is (suc g) zero c s x l e = absurd (omega arith)
  split-nodes is (suc g) (suc n) c s x l e =
      let t : Tree ℕ = split_t is g (quarter (side at p c) c) x (x + 1) in
      omega (arith, nodes-upd s bare (side at p c) t (side_lt at p c), split-nodes is g n (quarter (side at p c) c) x (x + 1) (omega arith) (shared_more n c (first is) g e).1)

  -- ---- what is written

  pub split-length : (f g : ℕ) (c : Extent) (s x : ℕ) (m : List ℕ) → length (parted at p f g c s x m) ≡ length m
  split-length f zero c s x m = simp (leaf_length, internal_length)
  split-length f (suc g) c s x m = split-length f g (quarter (side at p c) c) x (x + 1) _ ∙ simp internal_length

  pub split-same : (f g : ℕ) (c : Extent) (s x : ℕ) (m : List ℕ) (j : ℕ) → (j ≡ s → ⊥) → j < x → Same m (parted at p f g c s x m) j
  split-same f zero c s x m j n l =
      same_trans m _ _ j (same_trans m _ _ j (internal_same m s _ j n) (leaf_same _ x f j (omega arith))) (leaf_same _ (x + 1) p j (omega arith))
  split-same f (suc g) c s x m j n l = same_trans m _ _ j (internal_same m s _ j n) (split-same f g (quarter (side at p c) c) x (x + 1) _ j (omega arith) (omega arith))

  pub split-stored : (is : List ℕ) (f g : ℕ) (c : Extent) (s x : ℕ) (m : List ℕ) → f ≡ first is → s < x → (x + g + 2) * slot_words ≤ length m → x + g + 2 < 2 ^ 32 → Stored (parted at p f g c s x m) (split_t is g c s x)
  split-stored is f zero c s x m e lt room small =
      let q : ℕ = quadrant c (x_at at f) (y_at at f) in
      let k0 : ℕ → Tree ℕ = upd bare q (leaf x is) in
      let k : ℕ → Tree ℕ = upd k0 (side at p c) (leaf (x + 1) (p ∷ [])) in
      let ks : List ℕ = set (set childless q (x + 1)) (side at p c) (x + 2) in
      let numbers : ks ≡ leads k = ap (λ (l : List ℕ). set l (side at p c) (x + 2)) (leads-upd bare q (x + 1) (leaf x is) (quadrant_lt c (x_at at f) (y_at at f)) refl)
      ∙ leads-upd k0 (side at p c) (x + 2) (leaf (x + 1) (p ∷ [])) (side_lt at p c) (omega arith) in
      let m1 : List ℕ = put_internal m s ks in
      let m2 : List ℕ = put_leaf m1 x f in
      let w : List ℕ = put_leaf m2 (x + 1) p in
      let own : Same m1 w s = same_trans m1 m2 w s (leaf_same m1 x f s (omega arith)) (leaf_same m2 (x + 1) p s (omega arith)) in
      let fits : Small (leads k) = leads-small (x + 2) k (omega arith)
      (upd-below (λ r u. lead u ≤ x + 2) k0 (side at p c) (leaf (x + 1) (p ∷ [])) (omega arith) (λ r l n. upd-all (λ r u. lead u ≤ x + 2) bare q (leaf x is) (omega arith) (λ r n. omega arith) r)) in
      let old : Stored w (leaf x is) = leaf_shown (leaf_same m2 (x + 1) p x (omega arith)) (leaf_put m1 x f is (simp internal_length (omega arith)) e) in
      let new : Stored w (leaf (x + 1) (p ∷ [])) = leaf_put m2 (x + 1) p (p ∷ []) (simp (leaf_length, internal_length) (omega arith)) refl in
      subst (λ (i : ℕ). Stored w (over s (upd (upd bare (quadrant c (x_at at i) (y_at at i)) (leaf x is)) (side at p c) (leaf (x + 1) (p ∷ []))))) e
      (stored-over w s k (node_shown own (node_put m s ks (k 0) (k 1) (k 2) (k 3) (omega arith) fits numbers))
      (upd-below (λ r u. Stored w u) k0 (side at p c) (leaf (x + 1) (p ∷ [])) new (λ r l n. upd-all (λ r u. Stored w u) bare q (leaf x is) old (λ r n. tt) r)))
  split-stored is f (suc g) c s x m e lt room small =
      let t : Tree ℕ = split_t is g (quarter (side at p c) c) x (x + 1) in
      let k : ℕ → Tree ℕ = upd bare (side at p c) t in
      let ks : List ℕ = set childless (side at p c) (x + 1) in
      let numbers : ks ≡ leads k = leads-upd bare (side at p c) (x + 1) t (side_lt at p c) (sym (split-lead is g (quarter (side at p c) c) x (x + 1))) in
      let m1 : List ℕ = put_internal m s ks in
      let w : List ℕ = parted at p f g (quarter (side at p c) c) x (x + 1) m1 in
      let own : Same m1 w s = split-same f g (quarter (side at p c) c) x (x + 1) m1 s (omega arith) (omega arith) in
      let fits : Small (leads k) = leads-small (x + 1) k (omega arith)
      (upd-below (λ r u. lead u ≤ x + 1) bare (side at p c) t (omega (arith, split-lead is g (quarter (side at p c) c) x (x + 1))) (λ r l n. omega arith)) in
      stored-over w s k (node_shown own (node_put m s ks (k 0) (k 1) (k 2) (k 3) (omega arith) fits numbers))
      (upd-below (λ r u. Stored w u) bare (side at p c) t (split-stored is f g (quarter (side at p c) c) x (x + 1) m1 e (omega arith) (simp internal_length (omega arith)) (omega arith)) (λ r l n. tt))

  -- ---- the tree of the cell rule

  apart_too : (c : Extent) (i : ℕ) → in_quarter at c (side at p c) i ≡ false → in_quarter at c (quarter_of at c i) p ≡ false
  unfolding in_quarter
  apart_too c i e = ne_eqb (quarter_of at c i) (side at p c) (λ z. eqb-false (side at p c) (quarter_of at c i) e (sym z))

  together_too : (c : Extent) (i : ℕ) → in_quarter at c (side at p c) i ≡ true → in_quarter at c (quarter_of at c i) p ≡ true
  unfolding in_quarter
  together_too c i e = eq-eqb (quarter_of at c i) (side at p c) (sym (eqb-true (side at p c) (quarter_of at c i) e))

  -- two leaves in different quarters
  tips_at : (c : Extent) (i : ℕ) (js : List ℕ) (x r : ℕ)
      → in_cells (quarter r c) (upd (upd bare (quarter_of at c i) (leaf x (i ∷ js))) (side at p c) (leaf (x + 1) (p ∷ [])) r) ≡ tips at p c (i ∷ js) r
  unfolding in_quarter
  tips_at c i js x r = go (eqb r (side at p c)) (eqb r (quarter_of at c i))
    where
      go : (a b : Bool) → in_cells (quarter r c) (branch a (λ _. leaf (x + 1) (p ∷ [])) (λ _. branch b (λ _. leaf x (i ∷ js)) (λ _. none)))
          ≡ branch a (λ _. leaf (quarter r c) (p ∷ [])) (λ _. branch b (λ _. leaf (quarter r c) (i ∷ js)) (λ _. none))
      go true b = refl
      go false true = refl
      go false false = refl

  -- one quarter, in which the split goes on
  below_at : (c : Extent) (k i : ℕ) (js : List ℕ) (t : Tree ℕ) → in_quarter at c (side at p c) i ≡ true
      → in_cells (quarter (side at p c) c) t ≡ insert_t at p (quarter (side at p c) c) k (leaf (quarter (side at p c) c) (i ∷ js))
      → (r : ℕ) → in_cells (quarter r c) (upd bare (side at p c) t r) ≡ below at p c k i js r
  unfolding in_quarter
  below_at c k i js t f h r = subst (λ (q : ℕ). in_cells (quarter r c) (upd bare (side at p c) t r) ≡ branch (eqb r q) (λ _. insert_t at p (quarter r c) k (leaf (quarter r c) (i ∷ js))) (λ _. none)) (eqb-true (side at p c) (quarter_of at c i) f) (go (eqb r (side at p c)) refl)
    where
      go : (b : Bool) → eqb r (side at p c) ≡ b → in_cells (quarter r c) (branch b (λ _. t) (λ _. none)) ≡ branch b (λ _. insert_t at p (quarter r c) k (leaf (quarter r c) (i ∷ js))) (λ _. none)
      go true e = subst (λ (j : ℕ). in_cells (quarter j c) t ≡ insert_t at p (quarter j c) k (leaf (quarter j c) (i ∷ js))) (sym (eqb-true r (side at p c) e)) h
      go false e = refl

  pub split_cells : (i : ℕ) (js : List ℕ) (g n : ℕ) (c d : Extent) (s x : ℕ) → same at i p ≡ false → g < n → shared_levels at p n c i ≡ g → in_cells c (split_t (i ∷ js) g c s x) ≡ insert_t at p c (suc n) (leaf d (i ∷ js))
  split_cells i js zero n c d s x ne l e =
      rw (tips_at c i js x 0, tips_at c i js x 1, tips_at c i js x 2, tips_at c i js x 3) (sym (insert-apart at p c d n i js ne (apart_too c i (shared_stop n c i l e))))
  split_cells i js (suc g) zero c d s x ne l e = absurd (omega arith)
  split_cells i js (suc g) (suc n) c d s x ne l e =
      let h = shared_more n c i g e in
      let q : ℕ = side at p c in
      let at-r = below_at c (suc n) i js (split_t (i ∷ js) g (quarter q c) x (x + 1)) h.0 (split_cells i js g n (quarter q c) (quarter q c) x (x + 1) ne (omega arith) h.1) in
      rw (at-r 0, at-r 1, at-r 2, at-r 3) (sym (insert-together at p c d (suc n) i js ne (together_too c i h.0)))

  last : (c : Extent) (t : Tree Extent) → depth (insert_t at p c zero t) ≡ 1
  unfolding insert_t
  last c t = refl

  -- points that stay together to the last level pass it
  pub split-deep : (i : ℕ) (js : List ℕ) (n : ℕ) (c d : Extent) → same at i p ≡ false → shared_levels at p n c i ≡ n → suc n < depth (insert_t at p c (suc n) (leaf d (i ∷ js)))
  split-deep i js zero c d ne e =
      let q : ℕ = side at p c in
      let t : ℕ → Tree Extent = moved at c (i ∷ js) in
      let f : ℕ → Tree Extent → Tree Extent = into at p c 0 in
      let own : f q (pick (t 0) (t 1) (t 2) (t 3) q) ≡ insert_t at p (quarter q c) 0 (pick (t 0) (t 1) (t 2) (t 3) q) = rw (in_quarter-own at c p) in
      rw (insert-other at p c d 0 i js ne, insert-node at p c c 0 (t 0) (t 1) (t 2) (t 3))
      (two (ap depth (pick-ap f (t 0) (t 1) (t 2) (t 3) q (side_lt at p c) ∙ own) ∙ last (quarter q c) (pick (t 0) (t 1) (t 2) (t 3) q)) (depth_child c (f 0 (t 0)) (f 1 (t 1)) (f 2 (t 2)) (f 3 (t 3)) q))
    where
      two : {b e : ℕ} → b ≡ 1 → suc b ≤ e → 1 < e
      two x y = omega arith
  split-deep i js (suc n) c d ne e =
      let h = shared_more n c i n e in
      let q : ℕ = quarter_of at c i in
      let z : side at p c ≡ q = in_quarter-is at c (side at p c) i h.0 in
      let rest : suc n < depth (insert_t at p (quarter q c) (suc n) (leaf (quarter q c) (i ∷ js))) =
      subst (λ (q : ℕ). suc n < depth (insert_t at p (quarter q c) (suc n) (leaf (quarter q c) (i ∷ js)))) z (split-deep i js n (quarter (side at p c) c) (quarter (side at p c) c) ne h.1) in
      let f : ℕ → ℕ → Tree Extent = λ r _. below at p c (suc n) i js r in
      let own : f q (pick 0 0 0 0 q) ≡ insert_t at p (quarter q c) (suc n) (leaf (quarter q c) (i ∷ js)) = rw (in_quarter-own at c i) in
      rw (insert-together at p c d (suc n) i js ne (together_too c i h.0))
      (deeper rest (ap depth (pick-ap f 0 0 0 0 q (quadrant_lt c (x_at at i) (y_at at i)) ∙ own)) (depth_child c (f 0 0) (f 1 0) (f 2 0) (f 3 0) q))
