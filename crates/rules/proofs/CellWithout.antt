-- One particle less in a cell: how the tree of the cell rule changes.
use mathlib.Core.Path.{◌≡◌, refl, sym, ap, ap₂, ◌∙◌, subst}
use mathlib.Core.Logic.{inl, inr}
use mathlib.Core.Bool.{Bool, true, false, not, cond, true≢false}
use mathlib.Core.List.{List, [], ◌∷◌, ◌++◌, append-nil, Sublistᴰ}
use Prim.Native.Nat.{ℕ, ◌+◌, ◌≤◌, ◌<◌}
use native.Mathlib.Omega.{arith}
use lib.Dec.{eqb}
use lib.ListN.{length}
use lib.Ieee.{Float}
use borrow.Author.Tests.{eqb-true, ne_eqb}
use Rattle.rules.specs.declared.Extent.{Extent}
use Rattle.rules.specs.Plain.{branch, keep, all, others}
use Rattle.rules.specs.Cell.{quarter}
use Rattle.rules.specs.Tree.{Tree, none, leaf, node, depth, nodes, chains_of, same, alike, in_quarter, points_in, tree_in}
use Rattle.rules.specs.Terms.{leaves, distinct}
use Rattle.rules.proofs.CellList.{In, in_some, both, all_in, all-not, keep-keep, keep_in}
use Rattle.rules.proofs.CellPoints.{One, one0, one1, one2, one3, one-quarter, same_sym, same_trans}
use Rattle.rules.proofs.CellIs.{Is, is-unique, grow-is, grown}
use Rattle.rules.proofs.CellCount.{all_same, leaves-distinct, distinct_pos}
use Rattle.rules.proofs.CellInsert.{moved, moved-is}
use Rattle.rules.proofs.CellMore.{NoLarger, alike_sublist}

-- ---- a tree without a particle

-- a leaf with this chain, nothing where the chain is empty
abbrev pub chained : {A : Type 0} → A → List ℕ → Tree A
chained a [] = none
chained a (j ∷ js) = leaf a (j ∷ js)

-- an internal node over these children; where they are one leaf, that leaf in its place
abbrev pub joined : {A : Type 0} → A → Tree A → Tree A → Tree A → Tree A → Tree A
joined a t0 t1 t2 t3 =
    branch (eqb (nodes t0 + nodes t1 + nodes t2 + nodes t3) 1) (λ _. leaf a (chains_of t0 ++ chains_of t1 ++ chains_of t2 ++ chains_of t3)) (λ _. node a t0 t1 t2 t3)

module _ (at : List Float) (i : ℕ) where
  -- The tree of the cell c without the particle i: it leaves the chain of its leaf, an empty leaf goes, and what is left with one leaf below becomes that leaf, up to the root.
  unfoldable pub without : {A : Type 0} → Extent → Tree A → Tree A
  without c none = none
  without c (leaf a js) = chained a (others i js)
  without c (node a t0 t1 t2 t3) =
      joined a (branch (in_quarter at c 0 i) (λ _. without (quarter 0 c) t0) (λ _. t0)) (branch (in_quarter at c 1 i) (λ _. without (quarter 1 c) t1) (λ _. t1))
      (branch (in_quarter at c 2 i) (λ _. without (quarter 2 c) t2) (λ _. t2)) (branch (in_quarter at c 3 i) (λ _. without (quarter 3 c) t3) (λ _. t3))

-- ---- lists

pub keep-sub : (p : ℕ → Bool) (l : List ℕ) → Sublistᴰ (keep p l) l
keep-sub p [] = Sublistᴰ.slnil
keep-sub p (j ∷ l) = go (p j) (keep-sub p l)
  where
    go : (b : Bool) → Sublistᴰ (keep p l) l → Sublistᴰ (cond b (j ∷ keep p l) (keep p l)) (j ∷ l)
    go true s = Sublistᴰ.cons-cons refl s
    go false s = Sublistᴰ.cons s

-- two tests, in either order
pub keep-swap : (p r : ℕ → Bool) (l : List ℕ) → keep p (keep r l) ≡ keep r (keep p l)
keep-swap p r [] = refl
keep-swap p r (j ∷ l) = go (p j) (r j) refl refl (keep-swap p r l)
  where
    go : (a b : Bool) → p j ≡ a → r j ≡ b → keep p (keep r l) ≡ keep r (keep p l) → keep p (cond b (j ∷ keep r l) (keep r l)) ≡ keep r (cond a (j ∷ keep p l) (keep p l))
    go true true e f h = rw (e, f) (ap (λ (k : List ℕ). j ∷ k) h)
    go true false e f h = rw f h
    go false true e f h = rw e h
    go false false e f h = h

-- another number
other_true : (j i : ℕ) → (j ≡ i → ⊥) → not (eqb j i) ≡ true
other_true j i n = ap not (ne_eqb j i n)

-- ---- nodes

pub leaves-nodes : {A : Type 0} (t : Tree A) → leaves t ≤ nodes t
leaves-nodes none = omega arith
leaves-nodes (leaf a js) = omega arith
leaves-nodes (node a t0 t1 t2 t3) = omega (arith, leaves-nodes t0, leaves-nodes t1, leaves-nodes t2, leaves-nodes t3)

module _ {A : Type 0} (a : A) (t0 t1 t2 t3 : Tree A) where
  pub joined_node : (nodes t0 + nodes t1 + nodes t2 + nodes t3 ≡ 1 → ⊥) → joined a t0 t1 t2 t3 ≡ node a t0 t1 t2 t3
  joined_node n = rw (ne_eqb (nodes t0 + nodes t1 + nodes t2 + nodes t3) 1 n)

  -- it has no more nodes and levels than the node
  pub joined-less : NoLarger (joined a t0 t1 t2 t3) (node a t0 t1 t2 t3)
  joined-less = go (eqb (nodes t0 + nodes t1 + nodes t2 + nodes t3) 1)
    where
      go : (b : Bool) → NoLarger (branch b (λ _. leaf a (chains_of t0 ++ chains_of t1 ++ chains_of t2 ++ chains_of t3)) (λ _. node a t0 t1 t2 t3)) (node a t0 t1 t2 t3)
      go true = record { nodes = omega arith; levels = omega arith }
      go false = record { nodes = omega arith; levels = omega arith }

module _ (at : List Float) where
  -- ---- distinct points

  pub two-distinct : (is : List ℕ) → alike at is ≡ false → 2 ≤ distinct at is
  two-distinct [] e = absurd (true≢false e)
  two-distinct (i ∷ []) e = absurd (true≢false e)
  two-distinct (i ∷ j ∷ is) e = go (all (λ k. not (same at i k)) (j ∷ is)) (all (same at j) is) refl refl (two-distinct (j ∷ is)) (distinct_pos at j is)
    where
      go : (a b : Bool) → all (λ k. not (same at i k)) (j ∷ is) ≡ a → all (same at j) is ≡ b → (all (same at j) is ≡ false → 2 ≤ distinct at (j ∷ is)) → 0 < distinct at (j ∷ is) → 2 ≤ cond a 1 0 + distinct at (j ∷ is)
      go true b f g h s = omega arith
      go false false f g h s = omega (arith, h g)
      go false true f g h s = let (k, m, n) = all-not (λ k. not (same at i k)) (j ∷ is) f in absurd (true≢false (sym (whole (meet k m (yes (same at i k) n))) ∙ e))
        where
          yes : (b : Bool) → not b ≡ false → b ≡ true
          yes true e = refl
          yes false e = absurd (true≢false e)

          meet : (k : ℕ) → In k (j ∷ is) → same at i k ≡ true → same at i j ≡ true
          meet k (inl d) y = ap (same at i) (sym d) ∙ y
          meet k (inr m) y = same_trans at i k j y (same_sym at j k (all-in' k m))
            where
              all-in' : (k : ℕ) → In k is → same at j k ≡ true
              all-in' k m = all_in (same at j) is k g m

          whole : same at i j ≡ true → all (same at i) (j ∷ is) ≡ true
          whole y = both (same at i j) (all (same at i) is) y (all_same at j i is (same_sym at i j y) g)

  -- ---- the trees of the four quarters make that of the cell

  -- one leaf, in the one quarter that has the points
  alone : (c : Extent) (l : List ℕ) (b0 b1 b2 b3 : Bool) → One b0 b1 b2 b3
      → joined c (branch b0 (λ _. leaf (quarter 0 c) l) (λ _. none)) (branch b1 (λ _. leaf (quarter 1 c) l) (λ _. none)) (branch b2 (λ _. leaf (quarter 2 c) l) (λ _. none)) (branch b3 (λ _. leaf (quarter 3 c) l) (λ _. none))
      ≡ leaf c l
  alone c l b0 b1 b2 b3 one0 = ap (leaf c) (simp append-nil)
  alone c l b0 b1 b2 b3 one1 = ap (leaf c) (simp append-nil)
  alone c l b0 b1 b2 b3 one2 = ap (leaf c) (simp append-nil)
  alone c l b0 b1 b2 b3 one3 = refl

  -- A cell with one distinct point left is a leaf, and any other with points an internal node.
  pub joined_is : (c : Extent) (t0 t1 t2 t3 : Tree Extent) (is : List ℕ) → 0 < length is
      → Is at (quarter 0 c) t0 (points_in at c 0 is) → Is at (quarter 1 c) t1 (points_in at c 1 is) → Is at (quarter 2 c) t2 (points_in at c 2 is) → Is at (quarter 3 c) t3 (points_in at c 3 is)
      → Is at c (joined c t0 t1 t2 t3) is
  joined_is c t0 t1 t2 t3 [] l h0 h1 h2 h3 = absurd (omega arith)
  joined_is c t0 t1 t2 t3 (i ∷ is) l h0 h1 h2 h3 = go (all (same at i) is) refl
    where
      go : (b : Bool) → all (same at i) is ≡ b → Is at c (joined c t0 t1 t2 t3) (i ∷ is)
      go true e =
          let m : (q : ℕ) (t : Tree Extent) → Is at (quarter q c) t (points_in at c q (i ∷ is)) → t ≡ moved at c (i ∷ is) q = λ q t h. is-unique at t (moved at c (i ∷ is) q) (quarter q c) (points_in at c q (i ∷ is)) h (moved-is at i c i is e q) in
          let w : joined c t0 t1 t2 t3 ≡ leaf c (i ∷ is) = rw (m 0 t0 h0, m 1 t1 h1, m 2 t2 h2, m 3 t3 h3) (alone c (i ∷ is) (in_quarter at c 0 i) (in_quarter at c 1 i) (in_quarter at c 2 i) (in_quarter at c 3 i) (one-quarter at c i)) in
          subst (λ (t : Tree Extent). Is at c t (i ∷ is)) (sym w) (refl, refl, omega arith, e)
      go false e =
          let h : Is at c (node c t0 t1 t2 t3) (i ∷ is) = (refl, e, h0, h1, h2, h3) in
          subst (λ (t : Tree Extent). Is at c t (i ∷ is))
          (sym (joined_node c t0 t1 t2 t3 (λ z. omega (arith, leaves-distinct at (node c t0 t1 t2 t3) c (i ∷ is) h, two-distinct (i ∷ is) e, leaves-nodes t0, leaves-nodes t1, leaves-nodes t2, leaves-nodes t3))))
          h

  module _ (i : ℕ) where
    -- ---- the points of a cell without i

    -- where two were distinct, one is left
    still-some : (is : List ℕ) → same at i i ≡ true → alike at is ≡ false → 0 < length (others i is)
    still-some [] r e = absurd (true≢false e)
    still-some (a ∷ is) r e = go (eqb a i) refl (all-not (same at a) is e)
      where
        go : (b : Bool) → eqb a i ≡ b → (j : ℕ) × In j is × (same at a j ≡ false) → 0 < length (others i (a ∷ is))
        go false f (j, m, n) = in_some a (others i (a ∷ is)) (keep_in (λ j. not (eqb j i)) (a ∷ is) a (inl refl) (ap not f))
        go true f (j, m, n) =
            in_some j (others i (a ∷ is)) (keep_in (λ j. not (eqb j i)) (a ∷ is) j (inr m) (other_true j i (λ z. true≢false (sym r ∙ ap₂ (same at) (sym (eqb-true a i f)) (sym z) ∙ n))))

    points-others : (c : Extent) (q : ℕ) (is : List ℕ) → points_in at c q (others i is) ≡ branch (in_quarter at c q i) (λ _. others i (points_in at c q is)) (λ _. points_in at c q is)
    points-others c q is = go (in_quarter at c q i) refl
      where
        go : (b : Bool) → in_quarter at c q i ≡ b → points_in at c q (others i is) ≡ branch b (λ _. others i (points_in at c q is)) (λ _. points_in at c q is)
        go true e = keep-swap (in_quarter at c q) (λ j. not (eqb j i)) is
        go false e = keep-keep (in_quarter at c q) (λ j. not (eqb j i)) (λ j f. other_true j i (λ z. true≢false (sym f ∙ ap (in_quarter at c q) z ∙ e))) is

    -- ---- the tree

    pub without-leaf : {A : Type 0} (c : Extent) (a : A) (js : List ℕ) → without at i c (leaf a js) ≡ chained a (others i js)
    unfolding without
    without-leaf c a js = refl

    pub without-none : {A : Type 0} (c : Extent) → without at i {A = A} c none ≡ none
    unfolding without
    without-none c = refl

    -- a child, if i lies in that quarter without i
    abbrev pub out : {A : Type 0} → Extent → ℕ → Tree A → Tree A
    out c q t = branch (in_quarter at c q i) (λ _. without at i (quarter q c) t) (λ _. t)

    pub without-node : {A : Type 0} (c : Extent) (a : A) (t0 t1 t2 t3 : Tree A) → without at i c (node a t0 t1 t2 t3) ≡ joined a (out c 0 t0) (out c 1 t1) (out c 2 t2) (out c 3 t3)
    unfolding without
    without-node c a t0 t1 t2 t3 = refl

    out-is : (c : Extent) (q : ℕ) (t : Tree Extent) (is : List ℕ) → Is at (quarter q c) t (points_in at c q is) → Is at (quarter q c) (without at i (quarter q c) t) (others i (points_in at c q is))
        → Is at (quarter q c) (out c q t) (points_in at c q (others i is))
    out-is c q t is h g = subst (Is at (quarter q c) (out c q t)) (sym (points-others c q is)) (go (in_quarter at c q i))
      where
        go : (b : Bool) → Is at (quarter q c) (branch b (λ _. without at i (quarter q c) t) (λ _. t)) (branch b (λ _. others i (points_in at c q is)) (λ _. points_in at c q is))
        go true = g
        go false = h

    chained-is : (c : Extent) (is : List ℕ) → alike at is ≡ true → Is at c (chained c is) is
    chained-is c [] e = refl
    chained-is c (j ∷ is) e = (refl, refl, omega arith, e)

    -- THE THEOREM: without i the tree of the points is the tree of the others.
    pub without_is : (t : Tree Extent) (c : Extent) (is : List ℕ) → same at i i ≡ true → Is at c t is → Is at c (without at i c t) (others i is)
    without_is none c is r h = subst (λ (t : Tree Extent). Is at c t (others i is)) (sym (without-none c)) (ap (others i) h)
    without_is (leaf d js) c is r h =
        subst (λ (t : Tree Extent). Is at c t (others i is)) (sym (without-leaf c d js ∙ ap₂ (λ (a : Extent) (l : List ℕ). chained a (others i l)) h.0 h.1))
        (chained-is c (others i is) (alike_sublist at (keep-sub (λ j. not (eqb j i)) is) h.3))
    without_is (node d t0 t1 t2 t3) c is r h =
        subst (λ (t : Tree Extent). Is at c t (others i is)) (sym (without-node c d t0 t1 t2 t3 ∙ ap (λ (a : Extent). joined a (out c 0 t0) (out c 1 t1) (out c 2 t2) (out c 3 t3)) h.0))
        (joined_is c (out c 0 t0) (out c 1 t1) (out c 2 t2) (out c 3 t3) (others i is) (still-some is r h.1)
        (out-is c 0 t0 is h.2 (without_is t0 (quarter 0 c) (points_in at c 0 is) r h.2))
        (out-is c 1 t1 is h.3 (without_is t1 (quarter 1 c) (points_in at c 1 is) r h.3))
        (out-is c 2 t2 is h.4 (without_is t2 (quarter 2 c) (points_in at c 2 is) r h.4))
        (out-is c 3 t3 is h.5 (without_is t3 (quarter 3 c) (points_in at c 3 is) r h.5)))

    -- ---- it never grows: 6 and 7 can't come from a removal

    pub without-less : {A : Type 0} (t : Tree A) (c : Extent) → NoLarger (without at i c t) t
    without-less {A = A} none c = rw (without-none c) (record { nodes = omega arith; levels = omega arith })
    without-less {A = A} (leaf a js) c = rw (without-leaf c a js) (go (others i js))
      where
        go : (l : List ℕ) → NoLarger (chained a l) (leaf a js)
        go [] = record { nodes = omega arith; levels = omega arith }
        go (j ∷ l) = record { nodes = omega arith; levels = omega arith }
    without-less {A = A} (node a t0 t1 t2 t3) c =
        rw (without-node c a t0 t1 t2 t3)
        (last (joined-less a (out c 0 t0) (out c 1 t1) (out c 2 t2) (out c 3 t3)) (one 0 t0 (without-less t0 (quarter 0 c))) (one 1 t1 (without-less t1 (quarter 1 c))) (one 2 t2 (without-less t2 (quarter 2 c)))
        (one 3 t3 (without-less t3 (quarter 3 c))))
      where
        one : (q : ℕ) (t : Tree A) → NoLarger (without at i (quarter q c) t) t → NoLarger (out c q t) t
        one q t h = go (in_quarter at c q i)
          where
            go : (b : Bool) → NoLarger (branch b (λ _. without at i (quarter q c) t) (λ _. t)) t
            go true = h
            go false = record { nodes = omega arith; levels = omega arith }

        last : {u u0 u1 u2 u3 : Tree A} → NoLarger u (node a u0 u1 u2 u3) → NoLarger u0 t0 → NoLarger u1 t1 → NoLarger u2 t2 → NoLarger u3 t3 → NoLarger u (node a t0 t1 t2 t3)
        last h h0 h1 h2 h3 = record { nodes = omega arith; levels = omega arith }

    -- Within levels 0 to 64: without i the rule's tree of the points is the rule's tree of the others.
    pub without-tree : (c : Extent) (is : List ℕ) → same at i i ≡ true → depth (tree_in at c is) ≤ 65 → without at i c (tree_in at c is) ≡ tree_in at c (others i is)
    unfolding tree_in
    without-tree c is r l =
        let h = without_is (tree_in at c is) c is r (grow-is at 65 c is l) in
        grown at (without at i c (tree_in at c is)) 66 c (others i is) h (omega (arith, (without-less (tree_in at c is) c).levels))

    -- and it passes no level past 64, and needs no slot more
    pub without-fits : (c : Extent) (is : List ℕ) → same at i i ≡ true → depth (tree_in at c is) ≤ 65 → NoLarger (tree_in at c (others i is)) (tree_in at c is)
    without-fits c is r l = subst (λ (t : Tree Extent). NoLarger t (tree_in at c is)) (without-tree c is r l) (without-less (tree_in at c is) c)
