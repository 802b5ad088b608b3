-- Which slots a tree takes: of the first n + 1 all but one, if it has n nodes and not that one. And how the node in a slot is found from a leaf below it.
use mathlib.Core.Path.{◌≡◌, refl, sym, ap, ◌∙◌, subst}
use mathlib.Core.Logic.{inl, inr}
use mathlib.Core.Bool.{Bool, true, false, cond}
use mathlib.Core.List.{List}
use Prim.Native.Nat.{ℕ, zero, suc, ◌+◌, ◌≤◌, ◌<◌}
use native.Mathlib.Omega.{arith}
use lib.Dec.{eqb}
use lib.Ieee.{Float}
use borrow.Author.Tests.{eqb-true, eqb-false, ne_eqb}
use Rattle.rules.specs.declared.Extent.{Extent}
use Rattle.rules.specs.Cell.{quarter}
use Rattle.rules.specs.Tree.{Tree, none, leaf, node, nodes}
use Rattle.tree_slots.specs.Trees.{EachSlot, Apart, Once, lead}
use Rattle.tree_leaves.specs.Leaf.{side}
use Rattle.tree_placing.specs.Add.{pick, Reaches}
use Rattle.tree_removing.specs.Remove.{Lie, OnWay, LeafOf}

-- how often the slot x stands in the tree
abbrev pub count : ℕ → Tree ℕ → ℕ
count x none = 0
count x (leaf s is) = cond (eqb s x) 1 0
count x (node s t0 t1 t2 t3) = cond (eqb s x) 1 0 + count x t0 + count x t1 + count x t2 + count x t3

abbrev sum_to : (ℕ → ℕ) → ℕ → ℕ
sum_to f zero = 0
sum_to f (suc n) = f n + sum_to f n

-- ---- sums

sum-zero : (s n : ℕ) → n ≤ s → sum_to (λ j. cond (eqb s j) 1 0) n ≡ 0
sum-zero s zero l = refl
sum-zero s (suc n) l = rw (ne_eqb s n (λ e. omega arith)) (omega (arith, sum-zero s n (omega arith)))

sum_one : (s n : ℕ) → s < n → sum_to (λ j. cond (eqb s j) 1 0) n ≡ 1
sum_one s zero l = absurd (omega arith)
sum_one s (suc n) l = go (eqb s n) refl (sum_one s n)
  where
    go : (b : Bool) → eqb s n ≡ b → (s < n → sum_to (λ j. cond (eqb s j) 1 0) n ≡ 1) → cond (eqb s n) 1 0 + sum_to (λ j. cond (eqb s j) 1 0) n ≡ 1
    go true e rest = rw e (omega (arith, sum-zero s n (omega (arith, eqb-true s n e))))
    go false e rest = let ne = eqb-false s n e in rw e (omega (arith, rest (omega (arith, ne))))

sum-five : (a b c d e : ℕ → ℕ) (n : ℕ) → sum_to (λ j. a j + b j + c j + d j + e j) n ≡ sum_to a n + sum_to b n + sum_to c n + sum_to d n + sum_to e n
sum-five a b c d e zero = refl
sum-five a b c d e (suc n) = omega (arith, sum-five a b c d e n)

sum-nodes : (n : ℕ) (t : Tree ℕ) → EachSlot (λ j. j < n) t → sum_to (λ j. count j t) n ≡ nodes t
sum-nodes n none h = zeros n
  where
    zeros : (n : ℕ) → sum_to (λ j. 0) n ≡ 0
    zeros zero = refl
    zeros (suc n) = omega (arith, zeros n)
sum-nodes n (leaf s is) h = sum_one s n h
sum-nodes n (node s t0 t1 t2 t3) h =
    omega (arith, sum-five (λ j. cond (eqb s j) 1 0) (λ j. count j t0) (λ j. count j t1) (λ j. count j t2) (λ j. count j t3) n, sum_one s n h.0, sum-nodes n t0 h.1, sum-nodes n t1 h.2, sum-nodes n t2 h.3, sum-nodes n t3 h.4)

-- ---- no slot twice

absent : (x : ℕ) (t : Tree ℕ) → EachSlot (λ j. j ≡ x → ⊥) t → count x t ≡ 0
absent x none h = refl
absent x (leaf s is) h = rw (ne_eqb s x h)
absent x (node s t0 t1 t2 t3) h = rw (ne_eqb s x h.0, absent x t0 h.1, absent x t1 h.2, absent x t2 h.3, absent x t3 h.4)

present : (x : ℕ) (P : ℕ → Type 0) (t : Tree ℕ) → 0 < count x t → EachSlot P t → P x
present x P none l h = absurd (omega arith)
present x P (leaf s is) l h = go (eqb s x) refl l
  where
    go : (b : Bool) → eqb s x ≡ b → 0 < cond b 1 0 → P x
    go true e l = subst P (eqb-true s x e) h
    go false e l = absurd (omega arith)
present x P (node s t0 t1 t2 t3) l h = go (eqb s x) (count x t0) (count x t1) (count x t2) (count x t3) refl refl refl refl refl l (present x P t0) (present x P t1) (present x P t2) (present x P t3)
  where
    go : (b : Bool) (a0 a1 a2 a3 : ℕ) → eqb s x ≡ b → count x t0 ≡ a0 → count x t1 ≡ a1 → count x t2 ≡ a2 → count x t3 ≡ a3 → 0 < cond b 1 0 + a0 + a1 + a2 + a3 → (0 < count x t0 → EachSlot P t0 → P x) → (0 < count x t1 → EachSlot P t1 → P x) → (0 < count x t2 → EachSlot P t2 → P x) → (0 < count x t3 → EachSlot P t3 → P x) → P x
    go true a0 a1 a2 a3 e e0 e1 e2 e3 l g0 g1 g2 g3 = subst P (eqb-true s x e) h.0
    go false (suc a0) a1 a2 a3 e e0 e1 e2 e3 l g0 g1 g2 g3 = g0 (omega arith) h.1
    go false zero (suc a1) a2 a3 e e0 e1 e2 e3 l g0 g1 g2 g3 = g1 (omega arith) h.2
    go false zero zero (suc a2) a3 e e0 e1 e2 e3 l g0 g1 g2 g3 = g2 (omega arith) h.3
    go false zero zero zero (suc a3) e e0 e1 e2 e3 l g0 g1 g2 g3 = g3 (omega arith) h.4
    go false zero zero zero zero e e0 e1 e2 e3 l g0 g1 g2 g3 = absurd (omega arith)

apart-count : (x : ℕ) (t u : Tree ℕ) → Apart t u → 0 < count x t → count x u ≡ 0
apart-count x t u h l = absent x u (present x (λ i. EachSlot (λ j. j ≡ i → ⊥) u) t l h)

once_count : (x : ℕ) (t : Tree ℕ) → Once t → count x t ≤ 1
once_count x none h = omega arith
once_count x (leaf s is) h = go (eqb s x)
  where
    go : (b : Bool) → cond b 1 0 ≤ 1
    go true = omega arith
    go false = omega arith
once_count x (node s t0 t1 t2 t3) h = go (eqb s x) refl (once_count x t0 h.10) (once_count x t1 h.11) (once_count x t2 h.12) (once_count x t3 h.13)
  where
    out : eqb s x ≡ true → (t : Tree ℕ) → EachSlot (λ j. j ≡ s → ⊥) t → count x t ≡ 0
    out e t a = absent x t (subst (λ (y : ℕ). EachSlot (λ j. j ≡ y → ⊥) t) (eqb-true s x e) a)

    four : (a0 a1 a2 a3 : ℕ) → a0 ≤ 1 → a1 ≤ 1 → a2 ≤ 1 → a3 ≤ 1 → (0 < a0 → a1 ≡ 0) → (0 < a0 → a2 ≡ 0) → (0 < a0 → a3 ≡ 0) → (0 < a1 → a2 ≡ 0) → (0 < a1 → a3 ≡ 0) → (0 < a2 → a3 ≡ 0) → a0 + a1 + a2 + a3 ≤ 1
    four zero zero zero a3 l0 l1 l2 l3 h01 h02 h03 h12 h13 h23 = omega arith
    four zero zero (suc a2) a3 l0 l1 l2 l3 h01 h02 h03 h12 h13 h23 = omega (arith, h23 (omega arith))
    four zero (suc a1) a2 a3 l0 l1 l2 l3 h01 h02 h03 h12 h13 h23 = omega (arith, h12 (omega arith), h13 (omega arith))
    four (suc a0) a1 a2 a3 l0 l1 l2 l3 h01 h02 h03 h12 h13 h23 = omega (arith, h01 (omega arith), h02 (omega arith), h03 (omega arith))

    go : (b : Bool) → eqb s x ≡ b → count x t0 ≤ 1 → count x t1 ≤ 1 → count x t2 ≤ 1 → count x t3 ≤ 1 → cond b 1 0 + count x t0 + count x t1 + count x t2 + count x t3 ≤ 1
    go true e l0 l1 l2 l3 = omega (arith, out e t0 h.0, out e t1 h.1, out e t2 h.2, out e t3 h.3)
    go false e l0 l1 l2 l3 =
        omega (
          arith,
          four (count x t0) (count x t1) (count x t2) (count x t3) l0 l1 l2 l3 (apart-count x t0 t1 h.4) (apart-count x t0 t2 h.5)
              (apart-count x t0 t3 h.6) (apart-count x t1 t2 h.7) (apart-count x t1 t3 h.8) (apart-count x t2 t3 h.9),
        )

-- ---- all but one of n + 1 slots

sum_most : (f : ℕ → ℕ) → ((j : ℕ) → f j ≤ 1) → (n : ℕ) → sum_to f n ≤ n
sum_most f h zero = omega arith
sum_most f h (suc n) = omega (arith, h n, sum_most f h n)

sum-short : (f : ℕ → ℕ) → ((j : ℕ) → f j ≤ 1) → (h n : ℕ) → f h ≡ 0 → h < n → sum_to f n < n
sum-short f a h zero e l = absurd (omega arith)
sum-short f a h (suc n) e l = go (eqb h n) refl (sum-short f a h n e)
  where
    go : (b : Bool) → eqb h n ≡ b → (h < n → sum_to f n < n) → f n + sum_to f n < suc n
    go true z rest = omega (arith, sum_most f a n, e, ap f (eqb-true h n z))
    go false z rest = let ne = eqb-false h n z in omega (arith, a n, rest (omega (arith, ne)))

pub last_there : (n h : ℕ) (t : Tree ℕ) → nodes t ≡ n → Once t → EachSlot (λ j. j < suc n) t → EachSlot (λ j. j ≡ h → ⊥) t → h < n → 0 < count n t
last_there n h t e o b g l = go (count n t) refl
  where
    go : (a : ℕ) → count n t ≡ a → 0 < count n t
    go zero z = absurd (omega (arith, sum-nodes (suc n) t b, sum-short (λ j. count j t) (λ j. once_count j t o) h n (absent h t g) l))
    go (suc a) z = omega arith

-- ---- the node in a slot, and the way to it of any leaf below it

pub leaf_in : (s : ℕ) (t0 t1 t2 t3 : Tree ℕ) (f r : ℕ) → LeafOf f (pick t0 t1 t2 t3 r) → LeafOf f (node s t0 t1 t2 t3)
leaf_in s t0 t1 t2 t3 f zero e = inl e
leaf_in s t0 t1 t2 t3 f (suc zero) e = inr (inl e)
leaf_in s t0 t1 t2 t3 f (suc (suc zero)) e = inr (inr (inl e))
leaf_in s t0 t1 t2 t3 f (suc (suc (suc r))) e = inr (inr (inr e))

module _ (at : List Float) where
  lie_of : (c : Extent) (r f : ℕ) (t : Tree ℕ) → Lie at c r t → LeafOf f t → side at f c ≡ r
  lie_of c r f none h m = absurd m
  lie_of c r f (leaf s js) h m = ap (λ (x : ℕ). side at x c) (sym m) ∙ h
  lie_of c r f (node s t0 t1 t2 t3) h (inl m) = lie_of c r f t0 h.0 m
  lie_of c r f (node s t0 t1 t2 t3) h (inr (inl m)) = lie_of c r f t1 h.1 m
  lie_of c r f (node s t0 t1 t2 t3) h (inr (inr (inl m))) = lie_of c r f t2 h.2 m
  lie_of c r f (node s t0 t1 t2 t3) h (inr (inr (inr m))) = lie_of c r f t3 h.3 m

  -- the subtree in the slot x: on the way of each of its leaves, with all that passes from a node to its children
  pub record Sub (c : Extent) (t : Tree ℕ) (x : ℕ) : Type 1 where
    pub tree : Tree ℕ
    pub top : lead tree ≡ x + 1
    pub up : (f : ℕ) → LeafOf f tree → LeafOf f t
    pub part : (P : Tree ℕ → Type 0) → ((s : ℕ) (t0 t1 t2 t3 : Tree ℕ) → P (node s t0 t1 t2 t3) → (r : ℕ) → P (pick t0 t1 t2 t3 r)) → P t → P tree
    pub way : (f : ℕ) → LeafOf f tree → (l : ℕ) × (d : Extent) × Reaches at f l c t d tree

  sub-own : (c : Extent) (t : Tree ℕ) (x : ℕ) → lead t ≡ x + 1 → Sub c t x
  sub-own c t x e = record { tree = t; top = e; up = λ f m. m; part = λ P g h. h; way = λ f m. (0, c, (refl, refl)) }

  sub_child : (x : ℕ) (c : Extent) (s : ℕ) (t0 t1 t2 t3 : Tree ℕ) (r : ℕ) → Lie at c r (pick t0 t1 t2 t3 r) → Sub (quarter r c) (pick t0 t1 t2 t3 r) x → Sub c (node s t0 t1 t2 t3) x
  sub_child x c s t0 t1 t2 t3 r h g =
      record {
        tree = g.tree;
        top = g.top;
        up = λ f m. leaf_in s t0 t1 t2 t3 f r (g.up f m);
        part = λ P e a. g.part P e (e s t0 t1 t2 t3 a r);
        way = λ f m. let (n, d, w) = g.way f m in (suc n, d, subst (λ (j : ℕ). Reaches at f n (quarter j c) (pick t0 t1 t2 t3 j) d g.tree) (sym (lie_of c r f (pick t0 t1 t2 t3 r) h (g.up f m))) w);
      }

  pub sub_of : (x : ℕ) (c : Extent) (t : Tree ℕ) → 0 < count x t → OnWay at c t → Sub c t x
  sub_of x c none l h = absurd (omega arith)
  sub_of x c (leaf s js) l h = go (eqb s x) refl l
    where
      go : (b : Bool) → eqb s x ≡ b → 0 < cond b 1 0 → Sub c (leaf s js) x
      go true e l = sub-own c (leaf s js) x (ap (λ (y : ℕ). y + 1) (eqb-true s x e))
      go false e l = absurd (omega arith)
  sub_of x c (node s t0 t1 t2 t3) l h =
      go (eqb s x) (count x t0) (count x t1) (count x t2) (count x t3) refl refl refl refl refl l (λ l. sub_of x (quarter 0 c) t0 l h.0.1) (λ l. sub_of x (quarter 1 c) t1 l h.1.1) (λ l. sub_of x (quarter 2 c) t2 l h.2.1)
      (λ l. sub_of x (quarter 3 c) t3 l h.3.1)
    where
      go : (b : Bool) (a0 a1 a2 a3 : ℕ) → eqb s x ≡ b → count x t0 ≡ a0 → count x t1 ≡ a1 → count x t2 ≡ a2 → count x t3 ≡ a3 → 0 < cond b 1 0 + a0 + a1 + a2 + a3 → (0 < count x t0 → Sub (quarter 0 c) t0 x) → (0 < count x t1 → Sub (quarter 1 c) t1 x) → (0 < count x t2 → Sub (quarter 2 c) t2 x) → (0 < count x t3 → Sub (quarter 3 c) t3 x) → Sub c (node s t0 t1 t2 t3) x
      go true a0 a1 a2 a3 e e0 e1 e2 e3 l g0 g1 g2 g3 = sub-own c (node s t0 t1 t2 t3) x (ap (λ (y : ℕ). y + 1) (eqb-true s x e))
      go false (suc a0) a1 a2 a3 e e0 e1 e2 e3 l g0 g1 g2 g3 = sub_child x c s t0 t1 t2 t3 0 h.0.0 (g0 (omega arith))
      go false zero (suc a1) a2 a3 e e0 e1 e2 e3 l g0 g1 g2 g3 = sub_child x c s t0 t1 t2 t3 1 h.1.0 (g1 (omega arith))
      go false zero zero (suc a2) a3 e e0 e1 e2 e3 l g0 g1 g2 g3 = sub_child x c s t0 t1 t2 t3 2 h.2.0 (g2 (omega arith))
      go false zero zero zero (suc a3) e e0 e1 e2 e3 l g0 g1 g2 g3 = sub_child x c s t0 t1 t2 t3 3 h.3.0 (g3 (omega arith))
      go false zero zero zero zero e e0 e1 e2 e3 l g0 g1 g2 g3 = absurd (omega arith)
