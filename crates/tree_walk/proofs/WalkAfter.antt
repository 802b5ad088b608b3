-- What a walk parent last hands out, the values of a node's children, and a path and a tree after a write that they don't see. Assumes nothing.
use mathlib.Core.Path.{◌≡◌, refl, ap, ◌∙◌}
use mathlib.Core.List.{List, [], ◌∷◌, ◌++◌, append_assoc, append-nil}
use Prim.Native.Nat.{ℕ, suc, ◌+◌, ◌-◌, ◌<◌}
use native.Mathlib.Numerals.{add-one}
use native.Mathlib.Omega.{arith}
use lib.ListN.{length, get_or, drop, length-append}
use lib.Seq.{drop-cons}
use Rattle.rules.specs.declared.Extent.{Extent}
use Rattle.rules.specs.Plain.{foldl}
use Rattle.rules.specs.Tree.{Tree, none, leaf, node, nodes}
use Rattle.rules.specs.Walk.{Entry, internal, tip, parent_last}
use Rattle.rules.proofs.CellList.{foldl-append}
use Rattle.tree_slots.specs.declared.Quadtree.{Quadtree}
use Rattle.tree_slots.specs.Trees.{kids, Lays}
use Rattle.tree_walk.specs.Walk.{EachChain}
use Rattle.tree_walk.specs.WalkAfter.{Step, Steps, Climbs, EachTip, values_at, kid_values}
use Rattle.tree_walk.proofs.WalkValues.{Alike, leads-alike}

-- ---- the order

pub length_last : {A : Type 0} (t : Tree A) → length (parent_last t) ≡ nodes t
length_last none = refl
length_last (leaf a is) = refl
length_last (node a t0 t1 t2 t3) =
    rw (
      length-append (parent_last t0 ++ parent_last t1 ++ parent_last t2 ++ parent_last t3) (internal a ∷ []),
      length-append (parent_last t0 ++ parent_last t1 ++ parent_last t2) (parent_last t3),
      length-append (parent_last t0 ++ parent_last t1) (parent_last t2),
      length-append (parent_last t0) (parent_last t1),
      length_last t0,
      length_last t1,
      length_last t2,
      length_last t3,
    )
    (omega arith)

tips_append : (P : List ℕ → Type 0) (ds es : List (Entry ℕ)) → EachTip P ds → EachTip P es → EachTip P (ds ++ es)
tips_append P [] es h k = k
tips_append P (internal s ∷ ds) es h k = tips_append P ds es h k
tips_append P (tip s is ∷ ds) es h k = (h.0, tips_append P ds es h.1 k)

pub tips_last : (P : List ℕ → Type 0) (t : Tree ℕ) → EachChain P t → EachTip P (parent_last t)
tips_last P none h = tt
tips_last P (leaf s is) h = (h, tt)
tips_last P (node s t0 t1 t2 t3) h =
    tips_append P (parent_last t0 ++ parent_last t1 ++ parent_last t2 ++ parent_last t3) (internal s ∷ [])
    (tips_append P (parent_last t0 ++ parent_last t1 ++ parent_last t2) (parent_last t3)
    (tips_append P (parent_last t0 ++ parent_last t1) (parent_last t2) (tips_append P (parent_last t0) (parent_last t1) (tips_last P t0 h.0) (tips_last P t1 h.1)) (tips_last P t2 h.2)) (tips_last P t3 h.3))
    tt

-- ---- the children of a node

pub values_some : {B : Type 0} (read : List ℕ → ℕ → B) (m : List ℕ) (p : ℕ) → (p ≡ 0 → ⊥) → values_at read m p ≡ read m (p - 1) ∷ []
values_some read m p n = let e : p ≡ suc (p - 1) = omega arith in ap (values_at read m) e

-- the values to which numbers of children lead
abbrev pub values_of : {B : Type 0} → (List ℕ → ℕ → B) → List ℕ → List ℕ → List B
values_of read m [] = []
values_of read m (p ∷ ps) = values_at read m p ++ values_of read m ps

pub values_of_kids : {B : Type 0} (read : List ℕ → ℕ → B) (m : List ℕ) (s : ℕ) → values_of read m (kids m s) ≡ kid_values read m s
unfolding kid_values
values_of_kids read m s = simp (append_assoc, append-nil)

-- a fold over the values of the children ks from number k on, which leads to none, or to one
module _ {B S : Type 0} (read : List ℕ → ℕ → B) (f : S → B → S) (m ks : List ℕ) (k : ℕ) (h : k < length ks) (a : S) where
  fold-next : foldl f a (values_of read m (drop k ks)) ≡ foldl f (foldl f a (values_at read m (get_or ks k 0))) (values_of read m (drop (k + 1) ks))
  fold-next = rw (drop-cons ks k 0 h, add-one k) (foldl-append f a (values_at read m (get_or ks k 0)) (values_of read m (drop (suc k) ks)))

  pub fold-none : get_or ks k 0 ≡ 0 → foldl f a (values_of read m (drop k ks)) ≡ foldl f a (values_of read m (drop (k + 1) ks))
  fold-none z = fold-next ∙ rw z

  pub fold-some : (get_or ks k 0 ≡ 0 → ⊥) → foldl f a (values_of read m (drop k ks)) ≡ foldl f (f a (read m (get_or ks k 0 - 1))) (values_of read m (drop (k + 1) ks))
  fold-some n = fold-next ∙ rw (values_some read m (get_or ks k 0) n)

-- ---- a path after a write that a tree does not see

steps_alike : (m w next : List ℕ) → Alike m w → length w ≡ length m → (es : List Step) (ts : List (Tree ℕ)) → Steps m next es ts → Steps w next es ts
steps_alike m w next a e [] [] s = tt
steps_alike m w next a e [] (t ∷ ts) s = s
steps_alike m w next a e (x ∷ es) [] s = s
steps_alike m w next a e (x ∷ es) (t ∷ ts) s = (leads-alike m w next a (x.slot + 1) t s.0, rw e s.1, s.2, s.3, steps_alike m w next a e es ts s.4)

pub climbs_alike : (m w next : List ℕ) → Alike m w → length w ≡ length m → (es : List Step) (rest : List (Entry ℕ)) → Climbs m next es rest → Climbs w next es rest
climbs_alike m w next a e es rest c = record { trees = c.trees; steps = steps_alike m w next a e es c.trees c.steps; same = c.same }

-- the same tree stands in slots that it sees alike
abbrev pub lays_alike : {t : Tree Extent} {m next : List ℕ} {q : Quadtree} (s : Lays t m next q) (w : List ℕ) → Alike m w → length w ≡ length m → Lays t w next q
lays_alike {m = m} {next = next} {q = q} s w a e =
    record {
      tree = s.tree;
      leads = leads-alike m w next a q.root s.tree s.leads;
      is = s.is;
      levels = s.levels;
      count = s.count;
      below = s.below;
      once = s.once;
      room = rw e s.room;
    }
