-- Laws of the slots: what a word, the children, a leaf and a node are after a write.
use mathlib.Core.Path.{◌≡◌, refl, ap, ap₂, ◌∙◌}
use mathlib.Core.List.{List, [], ◌∷◌}
use Prim.Native.Nat.{ℕ, ◌+◌, ◌*◌, ◌/◌, ◌%◌, ◌^◌, ◌<◌}
use native.Mathlib.Omega.{arith}
use lib.ListN.{length, get_or, length-set}
use lib.Seq.{get_or-set_same, get_or-set_other}
use Rattle.rules.specs.Tree.{Tree}
use Rattle.rules.specs.Calls.{slot_words}
use Rattle.tree_slots.specs.Slots.{word, put, kids, put_internal, put_leaf, copied, InSlots}
use Rattle.tree_slots.specs.Trees.{first, lead, InternalIn, LeafIn, NodeIn}

-- ---- words

pub put_same : (m : List ℕ) (s j v : ℕ) → s * slot_words + j < length m → word (put m s j v) s j ≡ v
unfolding word put
put_same m s j v h = get_or-set_same m (s * slot_words + j) v 0 h

pub put_other : (m : List ℕ) (s j v r i : ℕ) → j < slot_words → i < slot_words → (r ≡ s → ⊥) → word (put m s j v) r i ≡ word m r i
unfolding word put
put_other m s j v r i hj hi n = get_or-set_other m (s * slot_words + j) (r * slot_words + i) v 0 (λ e. n (omega arith))

pub put_word : (m : List ℕ) (s j v i : ℕ) → (i ≡ j → ⊥) → word (put m s j v) s i ≡ word m s i
unfolding word put
put_word m s j v i n = get_or-set_other m (s * slot_words + j) (s * slot_words + i) v 0 (λ e. n (omega arith))

pub put-length : (m : List ℕ) (s j v : ℕ) → length (put m s j v) ≡ length m
unfolding put
put-length m s j v = length-set m (s * slot_words + j) v

-- ---- what a tree sees of a slot

-- slot h of w holds what slot x of m does
pub record Shows (m : List ℕ) (x : ℕ) (w : List ℕ) (h : ℕ) : Type 0 where
  pub tag : word w h 0 ≡ word m x 0
  pub kids : kids w h ≡ kids m x

-- the slot j leads on as it did
abbrev pub Same : List ℕ → List ℕ → ℕ → Type 0
Same m w j = Shows m j w j

pub shows_words : (m : List ℕ) (x : ℕ) (w : List ℕ) (h : ℕ) → word w h 0 ≡ word m x 0 → word w h 1 ≡ word m x 1 → word w h 2 ≡ word m x 2 → Shows m x w h
shows_words m x w h e f g = record { tag = e; kids = ap₂ (λ (a b : ℕ). a % 2 ^ 32 ∷ a / 2 ^ 32 ∷ b % 2 ^ 32 ∷ b / 2 ^ 32 ∷ []) f g }

pub shows_trans : {m w u : List ℕ} {x h k : ℕ} → Shows m x w h → Shows w h u k → Shows m x u k
shows_trans a b = record { tag = b.tag ∙ a.tag; kids = b.kids ∙ a.kids }

pub same_refl : (m : List ℕ) (j : ℕ) → Same m m j
same_refl m j = record { tag = refl; kids = refl }

pub same_trans : (m w u : List ℕ) (j : ℕ) → Same m w j → Same w u j → Same m u j
same_trans m w u j a b = shows_trans a b

-- a leaf and a node are there too
pub leaf_shown : {m w : List ℕ} {x h : ℕ} {is : List ℕ} → Shows m x w h → LeafIn m x is → LeafIn w h is
leaf_shown a l = record { tag = a.tag ∙ l.tag }

pub node_shown : {m w : List ℕ} {x h : ℕ} {t0 t1 t2 t3 : Tree ℕ} → Shows m x w h → NodeIn m x t0 t1 t2 t3 → NodeIn w h t0 t1 t2 t3
node_shown a n = record { tag = a.tag ∙ n.tag; kids = a.kids ∙ n.kids }

-- ---- an internal node, a leaf

pub internal_length : (m : List ℕ) (s : ℕ) (ks : List ℕ) → length (put_internal m s ks) ≡ length m
unfolding put_internal
internal_length m s ks = simp put-length

pub internal_same : (m : List ℕ) (s : ℕ) (ks : List ℕ) (r : ℕ) → (r ≡ s → ⊥) → Same m (put_internal m s ks) r
unfolding put_internal
internal_same m s ks r n =
    shows_words m r _ r (other 0 (omega arith)) (other 1 (omega arith)) (other 2 (omega arith))
  where
    other : (i : ℕ) → i < slot_words → word (put (put (put m s 0 0) s 1 (get_or ks 0 0 + get_or ks 1 0 * 2 ^ 32)) s 2 (get_or ks 2 0 + get_or ks 3 0 * 2 ^ 32)) r i ≡ word m r i
    other i h = put_other _ s 2 _ r i (omega arith) h n ∙ put_other _ s 1 _ r i (omega arith) h n ∙ put_other m s 0 0 r i (omega arith) h n

pub internal_tag : (m : List ℕ) (s : ℕ) (ks : List ℕ) → InSlots s m → InternalIn (put_internal m s ks) s
unfolding put_internal
internal_tag m s ks room = put_word _ s 2 _ 0 (omega arith) ∙ put_word _ s 1 _ 0 (omega arith) ∙ put_same m s 0 0 (omega arith)

-- two children in one word
halves : (a b : ℕ) → a < 2 ^ 32 → b < 2 ^ 32 → ((a + b * 2 ^ 32) % 2 ^ 32 ≡ a) × ((a + b * 2 ^ 32) / 2 ^ 32 ≡ b)
halves a b h g = (omega arith, omega arith)

-- four children, each of 32 bits
abbrev pub Small : List ℕ → Type 0
Small ks = (length ks ≡ 4) × ((i : ℕ) → get_or ks i 0 < 2 ^ 32)

four : (ks : List ℕ) → length ks ≡ 4 → get_or ks 0 0 ∷ get_or ks 1 0 ∷ get_or ks 2 0 ∷ get_or ks 3 0 ∷ [] ≡ ks
four [] e = absurd (omega arith)
four (a ∷ []) e = absurd (omega arith)
four (a ∷ b ∷ []) e = absurd (omega arith)
four (a ∷ b ∷ c ∷ []) e = absurd (omega arith)
four (a ∷ b ∷ c ∷ d ∷ []) e = refl
four (a ∷ b ∷ c ∷ d ∷ x ∷ l) e = absurd (omega arith)

internal_kids : (m : List ℕ) (s : ℕ) (ks : List ℕ) → InSlots s m → Small ks → kids (put_internal m s ks) s ≡ ks
unfolding put_internal
internal_kids m s ks room (len, small) =
    let v : ℕ = get_or ks 0 0 + get_or ks 1 0 * 2 ^ 32 in
    let w : ℕ = get_or ks 2 0 + get_or ks 3 0 * 2 ^ 32 in
    let m1 : List ℕ = put (put m s 0 0) s 1 v in
    let e1 : word (put m1 s 2 w) s 1 ≡ v = put_word m1 s 2 w 1 (omega arith) ∙ put_same (put m s 0 0) s 1 v (simp put-length (omega arith)) in
    let e2 : word (put m1 s 2 w) s 2 ≡ w = put_same m1 s 2 w (simp put-length (omega arith)) in
    let a = halves (get_or ks 0 0) (get_or ks 1 0) (small 0) (small 1) in
    let b = halves (get_or ks 2 0) (get_or ks 3 0) (small 2) (small 3) in
    rw (e1, e2, a.0, a.1, b.0, b.1) (four ks len)

-- the node is there
pub node_put : (m : List ℕ) (s : ℕ) (ks : List ℕ) (t0 t1 t2 t3 : Tree ℕ) → InSlots s m → Small (lead t0 ∷ lead t1 ∷ lead t2 ∷ lead t3 ∷ []) → ks ≡ lead t0 ∷ lead t1 ∷ lead t2 ∷ lead t3 ∷ [] → NodeIn (put_internal m s ks) s t0 t1 t2 t3
node_put m s ks t0 t1 t2 t3 room small e = record { tag = internal_tag m s ks room; kids = ap (λ (l : List ℕ). kids (put_internal m s l) s) e ∙ internal_kids m s _ room small }

pub leaf_length : (m : List ℕ) (s f : ℕ) → length (put_leaf m s f) ≡ length m
unfolding put_leaf
leaf_length m s f = put-length m s 0 (f + 1)

pub leaf_same : (m : List ℕ) (s f r : ℕ) → (r ≡ s → ⊥) → Same m (put_leaf m s f) r
unfolding put_leaf
leaf_same m s f r n = shows_words m r _ r (put_other m s 0 (f + 1) r 0 (omega arith) (omega arith) n) (put_other m s 0 (f + 1) r 1 (omega arith) (omega arith) n) (put_other m s 0 (f + 1) r 2 (omega arith) (omega arith) n)

-- the leaf is there
pub leaf_put : (m : List ℕ) (s f : ℕ) (is : List ℕ) → InSlots s m → f ≡ first is → LeafIn (put_leaf m s f) s is
unfolding put_leaf
leaf_put m s f is room e = record { tag = put_same m s 0 (f + 1) (omega arith) ∙ ap (λ (i : ℕ). i + 1) e }

-- ---- a slot copied

pub copied-length : (m : List ℕ) (x h : ℕ) → length (copied m x h) ≡ length m
unfolding copied
copied-length m x h = simp put-length

pub copied-same : (m : List ℕ) (x h r : ℕ) → (r ≡ h → ⊥) → Same m (copied m x h) r
unfolding copied
copied-same m x h r n =
    shows_words m r _ r (other 0 (omega arith)) (other 1 (omega arith)) (other 2 (omega arith))
  where
    other : (i : ℕ) → i < slot_words → word (put (put (put m h 0 (word m x 0)) h 1 (word m x 1)) h 2 (word m x 2)) r i ≡ word m r i
    other i l = put_other _ h 2 _ r i (omega arith) l n ∙ put_other _ h 1 _ r i (omega arith) l n ∙ put_other m h 0 _ r i (omega arith) l n

pub copied-own : (m : List ℕ) (x h : ℕ) → InSlots h m → Shows m x (copied m x h) h
unfolding copied
copied-own m x h room =
    let m1 : List ℕ = put m h 0 (word m x 0) in
    let m2 : List ℕ = put m1 h 1 (word m x 1) in
    let e0 : word (put m2 h 2 (word m x 2)) h 0 ≡ word m x 0 = put_word m2 h 2 _ 0 (omega arith) ∙ put_word m1 h 1 _ 0 (omega arith) ∙ put_same m h 0 _ (omega arith) in
    let e1 : word (put m2 h 2 (word m x 2)) h 1 ≡ word m x 1 = put_word m2 h 2 _ 1 (omega arith) ∙ put_same m1 h 1 _ (simp put-length (omega arith)) in
    let e2 : word (put m2 h 2 (word m x 2)) h 2 ≡ word m x 2 = put_same m2 h 2 _ (simp put-length (omega arith)) in
    shows_words m x _ h e0 e1 e2
