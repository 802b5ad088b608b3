-- Laws of trees in slots: what holds of each slot, no slot twice, four children by their numbers, and a tree that lives on where its slots keep their words.
use mathlib.Core.Path.{◌≡◌, refl, sym, ◌∙◌, subst}
use mathlib.Core.Bool.{Bool, true, false}
use mathlib.Core.List.{List, [], ◌∷◌}
use Prim.Native.Nat.{ℕ, zero, suc, ◌+◌, ◌^◌, ◌≤◌, ◌<◌, max}
use native.Mathlib.Omega.{arith}
use lib.Dec.{eqb}
use lib.ListN.{get_or, set}
use borrow.Author.Tests.{eqb-true, eqb-false}
use Rattle.rules.specs.Plain.{branch}
use Rattle.rules.specs.Tree.{Tree, none, leaf, node, depth, nodes}
use Rattle.rules.proofs.CellChain.{EachLeaf}
use Rattle.tree_slots.specs.Trees.{NodeIn, Follows, Leads, EachSlot, Apart, Once, lead}
use Rattle.tree_placing.specs.Add.{Stored, pick}
use Rattle.tree_slots.proofs.Trees.{each_map}
use Rattle.tree_slots.proofs.Slots.{Same, Small, leaf_shown, node_shown}
use Rattle.tree_slots.specs.Slots.{kid}

-- ---- each slot

pub each_both : (P Q : ℕ → Type 0) (t : Tree ℕ) → EachSlot P t → EachSlot Q t → EachSlot (λ j. P j × Q j) t
each_both P Q none h g = tt
each_both P Q (leaf s is) h g = (h, g)
each_both P Q (node s t0 t1 t2 t3) h g =
    ((h.0, g.0), each_both P Q t0 h.1 g.1, each_both P Q t1 h.2 g.2, each_both P Q t2 h.3 g.3, each_both P Q t3 h.4 g.4)

pub each_true : (P : ℕ → Type 0) → ((j : ℕ) → P j) → (t : Tree ℕ) → EachSlot P t
each_true P f none = tt
each_true P f (leaf s is) = f s
each_true P f (node s t0 t1 t2 t3) = (f s, each_true P f t0, each_true P f t1, each_true P f t2, each_true P f t3)

pub each_swap : (R : ℕ → ℕ → Type 0) (t u : Tree ℕ) → EachSlot (λ i. EachSlot (R i) u) t → EachSlot (λ j. EachSlot (λ i. R i j) t) u
each_swap R none u h = each_true (λ j. Unit {0}) (λ j. tt) u
each_swap R (leaf s is) u h = h
each_swap R (node s t0 t1 t2 t3) u h =
    let A : Tree ℕ → ℕ → Type 0 = λ t j. EachSlot (λ i. R i j) t in
    each_map (λ j. R s j × (A t0 j × (A t1 j × (A t2 j × A t3 j)))) (A (node s t0 t1 t2 t3)) (λ j g. (g.0, g.1.0, g.1.1.0, g.1.1.1.0, g.1.1.1.1)) u
    (each_both (R s) (λ j. A t0 j × (A t1 j × (A t2 j × A t3 j))) u h.0
    (each_both (A t0) (λ j. A t1 j × (A t2 j × A t3 j)) u (each_swap R t0 u h.1)
    (each_both (A t1) (λ j. A t2 j × A t3 j) u (each_swap R t1 u h.2) (each_both (A t2) (A t3) u (each_swap R t2 u h.3) (each_swap R t3 u h.4)))))

pub apart_sym : (t u : Tree ℕ) → Apart t u → Apart u t
apart_sym t u h =
    each_map (λ j. EachSlot (λ i. j ≡ i → ⊥) t) (λ j. EachSlot (λ i. i ≡ j → ⊥) t) (λ j g. each_map (λ i. j ≡ i → ⊥) (λ i. i ≡ j → ⊥) (λ i n e. n (sym e)) t g) u (each_swap (λ i j. j ≡ i → ⊥) t u h)

-- what holds of each slot holds of the root's
pub lead_each : (P : ℕ → Type 0) (t : Tree ℕ) (j : ℕ) → lead t ≡ j + 1 → EachSlot P t → P j
lead_each P none j e h = absurd (omega arith)
lead_each P (leaf s is) j e h = subst P (let z : s ≡ j = omega arith in z) h
lead_each P (node s t0 t1 t2 t3) j e h = subst P (let z : s ≡ j = omega arith in z) h.0

pub lead_le : (x : ℕ) (t : Tree ℕ) → EachSlot (λ j. j < x) t → lead t ≤ x
lead_le x none h = omega arith
lead_le x (leaf s is) h = omega arith
lead_le x (node s t0 t1 t2 t3) h = omega (arith, h.0)

pub lead-none : (t : Tree ℕ) → lead t ≡ 0 → t ≡ none
lead-none none e = refl
lead-none (leaf s is) e = absurd (omega arith)
lead-none (node s t0 t1 t2 t3) e = absurd (omega arith)

-- ---- four children by their numbers

-- the children k of slot s
abbrev pub over : ℕ → (ℕ → Tree ℕ) → Tree ℕ
over s k = node s (k 0) (k 1) (k 2) (k 3)

-- the children k with t at q
abbrev pub upd : (ℕ → Tree ℕ) → ℕ → Tree ℕ → ℕ → Tree ℕ
upd k q t r = branch (eqb r q) (λ _. t) (λ _. k r)

-- no child
abbrev pub bare : ℕ → Tree ℕ
bare q = none

abbrev pub leads : (ℕ → Tree ℕ) → List ℕ
leads k = lead (k 0) ∷ lead (k 1) ∷ lead (k 2) ∷ lead (k 3) ∷ []

-- one of the four numbers
pub leads-at : (k : ℕ → Tree ℕ) (q : ℕ) → q < 4 → get_or (leads k) q 0 ≡ lead (k q)
leads-at k zero l = refl
leads-at k (suc zero) l = refl
leads-at k (suc (suc zero)) l = refl
leads-at k (suc (suc (suc zero))) l = refl
leads-at k (suc (suc (suc (suc q)))) l = absurd (omega arith)

module _ (t0 t1 t2 t3 : Tree ℕ) where
  pub pick_all : (P : Tree ℕ → Type 0) → P t0 → P t1 → P t2 → P t3 → (q : ℕ) → P (pick t0 t1 t2 t3 q)
  pick_all P a b c d zero = a
  pick_all P a b c d (suc zero) = b
  pick_all P a b c d (suc (suc zero)) = c
  pick_all P a b c d (suc (suc (suc q))) = d

  pub each_child : (s : ℕ) (P : ℕ → Type 0) → EachSlot P (node s t0 t1 t2 t3) → (r : ℕ) → EachSlot P (pick t0 t1 t2 t3 r)
  each_child s P h = pick_all (EachSlot P) h.1 h.2 h.3 h.4

  pub stored_child : (s : ℕ) (m : List ℕ) → Stored m (node s t0 t1 t2 t3) → (r : ℕ) → Stored m (pick t0 t1 t2 t3 r)
  stored_child s m h = pick_all (Stored m) h.1 h.2 h.3 h.4

  pub leaf_child : (s : ℕ) (Q : List ℕ → Type 0) → EachLeaf (λ _. Q) (node s t0 t1 t2 t3) → (r : ℕ) → EachLeaf (λ _. Q) (pick t0 t1 t2 t3 r)
  leaf_child s Q h = pick_all (EachLeaf (λ _. Q)) h.0 h.1 h.2 h.3

-- what holds of a new child and of each other old one holds of each
pub upd-all : (P : ℕ → Tree ℕ → Type 0) (k : ℕ → Tree ℕ) (q : ℕ) (t : Tree ℕ) → P q t → ((r : ℕ) → (r ≡ q → ⊥) → P r (k r)) → (r : ℕ) → P r (upd k q t r)
upd-all P k q t a b r = go (eqb r q) refl
  where
    go : (d : Bool) → eqb r q ≡ d → P r (branch d (λ _. t) (λ _. k r))
    go true e = subst (λ (j : ℕ). P j t) (sym (eqb-true r q e)) a
    go false e = b r (eqb-false r q e)

-- the same below 4
pub upd-below : (P : ℕ → Tree ℕ → Type 0) (k : ℕ → Tree ℕ) (q : ℕ) (t : Tree ℕ) → P q t → ((r : ℕ) → r < 4 → (r ≡ q → ⊥) → P r (k r)) → (r : ℕ) → r < 4 → P r (upd k q t r)
upd-below P k q t a b r = upd-all (λ r u. r < 4 → P r u) k q t (λ l. a) (λ r n l. b r l n) r

pub each_over : (P : ℕ → Type 0) (s : ℕ) (k : ℕ → Tree ℕ) → P s → ((r : ℕ) → r < 4 → EachSlot P (k r)) → EachSlot P (over s k)
each_over P s k h f = (h, f 0 (omega arith), f 1 (omega arith), f 2 (omega arith), f 3 (omega arith))

pub stored-over : (m : List ℕ) (s : ℕ) (k : ℕ → Tree ℕ) → NodeIn m s (k 0) (k 1) (k 2) (k 3) → ((r : ℕ) → r < 4 → Stored m (k r)) → Stored m (over s k)
stored-over m s k e h = (e, h 0 (omega arith), h 1 (omega arith), h 2 (omega arith), h 3 (omega arith))

-- a node whose children are led to by the same numbers
pub node_leads : (m : List ℕ) (s : ℕ) (k l : ℕ → Tree ℕ) → leads l ≡ leads k → NodeIn m s (k 0) (k 1) (k 2) (k 3) → NodeIn m s (l 0) (l 1) (l 2) (l 3)
node_leads m s k l e n = record { tag = n.tag; kids = n.kids ∙ sym e }

-- one number replaced
pub leads-upd : (k : ℕ → Tree ℕ) (q v : ℕ) (t : Tree ℕ) → q < 4 → v ≡ lead t → set (leads k) q v ≡ leads (upd k q t)
leads-upd k zero v t l e = rw e
leads-upd k (suc zero) v t l e = rw e
leads-upd k (suc (suc zero)) v t l e = rw e
leads-upd k (suc (suc (suc zero))) v t l e = rw e
leads-upd k (suc (suc (suc (suc q)))) v t l e = absurd (omega arith)

-- a child replaced by one that is led to by the same number
pub leads-keep : (k : ℕ → Tree ℕ) (q : ℕ) (t : Tree ℕ) → lead t ≡ lead (k q) → leads (upd k q t) ≡ leads k
leads-keep k q t e = rw (at 0, at 1, at 2, at 3)
  where
    at : (r : ℕ) → lead (upd k q t r) ≡ lead (k r)
    at = upd-all (λ r u. lead u ≡ lead (k r)) k q t e (λ r n. refl)

pub leads-small : (x : ℕ) (k : ℕ → Tree ℕ) → x < 2 ^ 32 → ((r : ℕ) → r < 4 → lead (k r) ≤ x) → Small (leads k)
leads-small x k l h = (refl, go)
  where
    go : (i : ℕ) → get_or (leads k) i 0 < 2 ^ 32
    go zero = omega (arith, h 0 (omega arith))
    go (suc zero) = omega (arith, h 1 (omega arith))
    go (suc (suc zero)) = omega (arith, h 2 (omega arith))
    go (suc (suc (suc zero))) = omega (arith, h 3 (omega arith))
    go (suc (suc (suc (suc i)))) = omega arith

-- ---- levels and nodes

max0 : (a b y e : ℕ) → suc (max (max (max a e) b) y) ≡ max (suc (max (max a b) y)) (suc e)
max0 a b y e = omega arith

max1 : (a b y e : ℕ) → suc (max (max a (max b e)) y) ≡ max (suc (max (max a b) y)) (suc e)
max1 a b y e = omega arith

max2 : (x c d e : ℕ) → suc (max x (max (max c e) d)) ≡ max (suc (max x (max c d))) (suc e)
max2 x c d e = omega arith

max3 : (x c d e : ℕ) → suc (max x (max c (max d e))) ≡ max (suc (max x (max c d))) (suc e)
max3 x c d e = omega arith

pub depth-upd : (s : ℕ) (k : ℕ → Tree ℕ) (q e : ℕ) (t : Tree ℕ) → q < 4 → depth t ≡ max (depth (k q)) e → depth (over s (upd k q t)) ≡ max (depth (over s k)) (suc e)
depth-upd s k zero e t l h = rw h (max0 (depth (k 0)) (depth (k 1)) (max (depth (k 2)) (depth (k 3))) e)
depth-upd s k (suc zero) e t l h = rw h (max1 (depth (k 0)) (depth (k 1)) (max (depth (k 2)) (depth (k 3))) e)
depth-upd s k (suc (suc zero)) e t l h = rw h (max2 (max (depth (k 0)) (depth (k 1))) (depth (k 2)) (depth (k 3)) e)
depth-upd s k (suc (suc (suc zero))) e t l h = rw h (max3 (max (depth (k 0)) (depth (k 1))) (depth (k 2)) (depth (k 3)) e)
depth-upd s k (suc (suc (suc (suc q)))) e t l h = absurd (omega arith)

pub nodes-upd : (s : ℕ) (k : ℕ → Tree ℕ) (q : ℕ) (t : Tree ℕ) → q < 4 → nodes (over s (upd k q t)) + nodes (k q) ≡ nodes (over s k) + nodes t
nodes-upd s k zero t l = omega arith
nodes-upd s k (suc zero) t l = omega arith
nodes-upd s k (suc (suc zero)) t l = omega arith
nodes-upd s k (suc (suc (suc zero))) t l = omega arith
nodes-upd s k (suc (suc (suc (suc q)))) t l = absurd (omega arith)

pub depth_child : {A : Type 0} (s : A) (t0 t1 t2 t3 : Tree A) (r : ℕ) → suc (depth (pick t0 t1 t2 t3 r)) ≤ depth (node s t0 t1 t2 t3)
depth_child s t0 t1 t2 t3 zero = omega arith
depth_child s t0 t1 t2 t3 (suc zero) = omega arith
depth_child s t0 t1 t2 t3 (suc (suc zero)) = omega arith
depth_child s t0 t1 t2 t3 (suc (suc (suc r))) = omega arith

-- ---- no slot twice

module _ (s : ℕ) (t0 t1 t2 t3 : Tree ℕ) (h : Once (node s t0 t1 t2 t3)) where
  pub once_out : (r : ℕ) → EachSlot (λ j. j ≡ s → ⊥) (pick t0 t1 t2 t3 r)
  once_out = pick_all t0 t1 t2 t3 (EachSlot (λ j. j ≡ s → ⊥)) h.0 h.1 h.2 h.3

  pub once_apart : (q r : ℕ) → q < 4 → r < 4 → (q ≡ r → ⊥) → Apart (pick t0 t1 t2 t3 q) (pick t0 t1 t2 t3 r)
  once_apart zero zero a b n = absurd (n refl)
  once_apart zero (suc zero) a b n = h.4
  once_apart zero (suc (suc zero)) a b n = h.5
  once_apart zero (suc (suc (suc r))) a b n = h.6
  once_apart (suc zero) zero a b n = apart_sym t0 t1 h.4
  once_apart (suc zero) (suc zero) a b n = absurd (n refl)
  once_apart (suc zero) (suc (suc zero)) a b n = h.7
  once_apart (suc zero) (suc (suc (suc r))) a b n = h.8
  once_apart (suc (suc zero)) zero a b n = apart_sym t0 t2 h.5
  once_apart (suc (suc zero)) (suc zero) a b n = apart_sym t1 t2 h.7
  once_apart (suc (suc zero)) (suc (suc zero)) a b n = absurd (n refl)
  once_apart (suc (suc zero)) (suc (suc (suc r))) a b n = h.9
  once_apart (suc (suc (suc q))) zero a b n = apart_sym t0 t3 h.6
  once_apart (suc (suc (suc q))) (suc zero) a b n = apart_sym t1 t3 h.8
  once_apart (suc (suc (suc q))) (suc (suc zero)) a b n = apart_sym t2 t3 h.9
  once_apart (suc (suc (suc q))) (suc (suc (suc r))) a b n = absurd (n (omega arith))

  pub once_child : (r : ℕ) → Once (pick t0 t1 t2 t3 r)
  once_child = pick_all t0 t1 t2 t3 Once h.10 h.11 h.12 h.13

pub once_over : (s : ℕ) (k : ℕ → Tree ℕ) → ((r : ℕ) → r < 4 → EachSlot (λ j. j ≡ s → ⊥) (k r)) → ((q r : ℕ) → q < 4 → r < 4 → (q ≡ r → ⊥) → Apart (k q) (k r)) → ((r : ℕ) → r < 4 → Once (k r)) → Once (over s k)
once_over s k a b c = (
  a 0 (omega arith),
  a 1 (omega arith),
  a 2 (omega arith),
  a 3 (omega arith),
  b 0 1 (omega arith) (omega arith) (omega arith),
  b 0 2 (omega arith) (omega arith) (omega arith),
  b 0 3 (omega arith) (omega arith) (omega arith),
  b 1 2 (omega arith) (omega arith) (omega arith),
  b 1 3 (omega arith) (omega arith) (omega arith),
  b 2 3 (omega arith) (omega arith) (omega arith),
  c 0 (omega arith),
  c 1 (omega arith),
  c 2 (omega arith),
  c 3 (omega arith),
)

-- one child replaced
pub pair-upd : (R : Tree ℕ → Tree ℕ → Type 0) (k : ℕ → Tree ℕ) (q : ℕ) (t : Tree ℕ) → ((i j : ℕ) → i < 4 → j < 4 → (i ≡ j → ⊥) → R (k i) (k j))
    → ((r : ℕ) → r < 4 → (r ≡ q → ⊥) → R t (k r)) → ((r : ℕ) → r < 4 → (r ≡ q → ⊥) → R (k r) t) → (i j : ℕ) → i < 4 → j < 4 → (i ≡ j → ⊥) → R (upd k q t i) (upd k q t j)
pair-upd R k q t h a b i j =
    upd-all (λ i u. i < 4 → j < 4 → (i ≡ j → ⊥) → R u (upd k q t j)) k q t
    (λ li lj n. upd-all (λ j v. j < 4 → (q ≡ j → ⊥) → R t v) k q t (λ l z. absurd (z refl)) (λ r ne l z. a r l ne) j lj n)
    (λ r ne li lj n. upd-all (λ j v. j < 4 → (r ≡ j → ⊥) → R (k r) v) k q t (λ l z. b r li ne) (λ r' ne' l z. h r r' li l z) j lj n) i

-- ---- a tree lives on where its slots keep their words

pub frame : (m w : List ℕ) (P : ℕ → Type 0) → ((j : ℕ) → P j → Same m w j) → (t : Tree ℕ) → EachSlot P t → Stored m t → Stored w t
frame m w P f none a h = tt
frame m w P f (leaf s is) a h = leaf_shown (f s a) h
frame m w P f (node s t0 t1 t2 t3) a h =
    (node_shown (f s a.0) h.0, frame m w P f t0 a.1 h.1, frame m w P f t1 a.2 h.2, frame m w P f t2 a.3 h.3, frame m w P f t3 a.4 h.4)

-- ---- with and without the chains

pub stored-leads : (m next : List ℕ) (p : ℕ) (t : Tree ℕ) → p ≡ lead t → Stored m t → EachLeaf (λ _. Follows next) t → Leads m next p t
stored-leads m next p none e h f = e
stored-leads m next p (leaf s is) e h f = (e, h, f)
stored-leads m next p (node s t0 t1 t2 t3) e h f =
    let k = h.0.kids in
    (e, h.0, stored-leads m next (kid m s 0) t0 (cc) h.1 f.0, stored-leads m next (kid m s 1) t1 (cc) h.2 f.1, stored-leads m next (kid m s 2) t2 (cc) h.3 f.2, stored-leads m next (kid m s 3) t3 (cc) h.4 f.3)
