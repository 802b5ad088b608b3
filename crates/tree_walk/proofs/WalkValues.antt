-- Values that are laid in the slots children first are the rules' values, and change nothing that a tree sees. Assumes nothing.
use mathlib.Core.Path.{◌≡◌, sym, ap, ◌∙◌, subst}
use mathlib.Core.List.{List}
use Prim.Native.Nat.{ℕ, ◌+◌, ◌*◌, ◌<◌}
use native.Mathlib.Omega.{arith}
use lib.Dec.{T}
use lib.ListN.{length, get_or}
use lib.Seq.{get_or-set_other}
use lib.Ieee.{Float, fits, binary64}
use lib.Ieee.Bits.{of_bits-to_bits}
use Rattle.rules.specs.Number.{float_of, bits_of}
use Rattle.rules.specs.Tree.{Tree, none, leaf, node}
use Rattle.rules.specs.Calls.{slot_words}
use Rattle.tree_slots.specs.Slots.{word, put, kid, value, put_value, InSlots}
use Rattle.tree_slots.specs.Trees.{Leads}
use Rattle.tree_slots.proofs.Slots.{put_same, put_other, put_word, put-length, Same, shows_words, same_refl, same_trans, leaf_shown, node_shown}

-- ---- what a tree sees

-- every slot leads on as it did
abbrev pub Alike : List ℕ → List ℕ → Type 0
Alike m w = (s : ℕ) → Same m w s

pub alike_refl : (m : List ℕ) → Alike m m
alike_refl m s = same_refl m s

pub alike_trans : (m w u : List ℕ) → Alike m w → Alike w u → Alike m u
alike_trans m w u a b s = same_trans m w u s (a s) (b s)

pub kid-alike : (m w : List ℕ) (s : ℕ) → Same m w s → (kid m s 0 ≡ kid w s 0) × (kid m s 1 ≡ kid w s 1) × (kid m s 2 ≡ kid w s 2) × (kid m s 3 ≡ kid w s 3)
kid-alike m w s a =
    let e = sym a.kids in
    (ap (λ (l : List ℕ). get_or l 0 0) e, ap (λ (l : List ℕ). get_or l 1 0) e, ap (λ (l : List ℕ). get_or l 2 0) e, ap (λ (l : List ℕ). get_or l 3 0) e)

pub leads-alike : (m w next : List ℕ) → Alike m w → (p : ℕ) (t : Tree ℕ) → Leads m next p t → Leads w next p t
leads-alike m w next a p none l = l
leads-alike m w next a p (leaf s is) l = (l.0, leaf_shown (a s) l.1, l.2)
leads-alike m w next a p (node s t0 t1 t2 t3) l =
    let k = kid-alike m w s (a s) in (
      l.0,
      node_shown (a s) l.1,
      subst (λ (p : ℕ). Leads w next p t0) k.0 (leads-alike m w next a (kid m s 0) t0 l.2),
      subst (λ (p : ℕ). Leads w next p t1) k.1 (leads-alike m w next a (kid m s 1) t1 l.3),
      subst (λ (p : ℕ). Leads w next p t2) k.2 (leads-alike m w next a (kid m s 2) t2 l.4),
      subst (λ (p : ℕ). Leads w next p t3) k.3 (leads-alike m w next a (kid m s 3) t3 l.5),
    )

-- ---- one value

kept_word : (m : List ℕ) (s j : ℕ) (x : Float) → j < 3 → (r i : ℕ) → i < 3 → word (put_value m s j x) r i ≡ word m r i
unfolding word put put_value
kept_word m s j x h r i k = get_or-set_other m (s * slot_words + (3 + j)) (r * slot_words + i) (bits_of x) 0 (λ e. omega arith)

module _ (m : List ℕ) (s j : ℕ) (x : Float) (h : j < 3) where
  pub value_same : InSlots s m → T (fits binary64 x) → value (put_value m s j x) s j ≡ x
  unfolding put_value
  value_same b f = ap float_of (put_same m s (3 + j) (bits_of x) (omega arith)) ∙ of_bits-to_bits binary64 x f

  pub value_slot : (r i : ℕ) → i < 3 → (r ≡ s → ⊥) → value (put_value m s j x) r i ≡ value m r i
  unfolding put_value
  value_slot r i k n = ap float_of (put_other m s (3 + j) (bits_of x) r (3 + i) (omega arith) (omega arith) n)

  pub value-other : (i : ℕ) → (i ≡ j → ⊥) → value (put_value m s j x) s i ≡ value m s i
  unfolding put_value
  value-other i n = ap float_of (put_word m s (3 + j) (bits_of x) (3 + i) (λ e. n (omega arith)))

  pub value-alike : Alike m (put_value m s j x)
  value-alike r = shows_words m r (put_value m s j x) r (keep 0 (omega arith)) (keep 1 (omega arith)) (keep 2 (omega arith))
    where
      keep : (i : ℕ) → i < 3 → word (put_value m s j x) r i ≡ word m r i
      keep i k = kept_word m s j x h r i k

  pub value-length : length (put_value m s j x) ≡ length m
  unfolding put_value
  value-length = put-length m s (3 + j) (bits_of x)

-- ---- values of any kind

-- how a value of a node is read and written: a write is read back, and changes no other value and nothing that a tree sees
pub record Writes {B : Type 0} (Fit : B → Type 0) (read : List ℕ → ℕ → B) (write : List ℕ → ℕ → B → List ℕ) : Type 0 where
  pub same : (m : List ℕ) (s : ℕ) (b : B) → InSlots s m → Fit b → read (write m s b) s ≡ b
  pub other : (m : List ℕ) (s : ℕ) (b : B) (r : ℕ) → (r ≡ s → ⊥) → read (write m s b) r ≡ read m r
  pub alike : (m : List ℕ) (s : ℕ) (b : B) → Alike m (write m s b)
  pub long : (m : List ℕ) (s : ℕ) (b : B) → length (write m s b) ≡ length m

-- one number
pub one_value : Writes (λ x. T (fits binary64 x)) (λ m s. value m s 0) (λ m s x. put_value m s 0 x)
one_value =
    record {
      same = λ m s x. value_same m s 0 x (omega arith);
      other = λ m s x r n. value_slot m s 0 x (omega arith) r 0 (omega arith) n;
      alike = λ m s x. value-alike m s 0 x (omega arith);
      long = λ m s x. value-length m s 0 x (omega arith);
    }

-- three numbers, of which a value is made
module _ {B : Type 0} (of : Float → Float → Float → B) (x y z : B → Float) (whole : (b : B) → of (x b) (y b) (z b) ≡ b) where
  abbrev pub read_three : List ℕ → ℕ → B
  read_three m s = of (value m s 0) (value m s 1) (value m s 2)

  abbrev pub put_three : List ℕ → ℕ → B → List ℕ
  put_three m s b = put_value (put_value (put_value m s 0 (x b)) s 1 (y b)) s 2 (z b)

  three : {a b c d e f : Float} → a ≡ d → b ≡ e → c ≡ f → of a b c ≡ of d e f
  three p q r = rw (p, q, r)

  three_back : (m : List ℕ) (s : ℕ) (b : B) → InSlots s m → T (fits binary64 (x b)) × T (fits binary64 (y b)) × T (fits binary64 (z b)) → read_three (put_three m s b) s ≡ b
  three_back m s b h f =
      let m1 = put_value m s 0 (x b) in
      let m2 = put_value m1 s 1 (y b) in
      let l1 : length m1 ≡ length m = value-length m s 0 (x b) (omega arith) in
      let l2 : length m2 ≡ length m = value-length m1 s 1 (y b) (omega arith) ∙ l1 in
      three
      (value-other m2 s 2 (z b) (omega arith) 0 (λ e. omega arith) ∙ value-other m1 s 1 (y b) (omega arith) 0 (λ e. omega arith) ∙ value_same m s 0 (x b) (omega arith) h f.0)
      (value-other m2 s 2 (z b) (omega arith) 1 (λ e. omega arith) ∙ value_same m1 s 1 (y b) (omega arith) (omega arith) f.1)
      (value_same m2 s 2 (z b) (omega arith) (omega arith) f.2)
      ∙ whole b

  three-far : (m : List ℕ) (s : ℕ) (b : B) (r : ℕ) → (r ≡ s → ⊥) → read_three (put_three m s b) r ≡ read_three m r
  three-far m s b r n = three (at 0 (omega arith)) (at 1 (omega arith)) (at 2 (omega arith))
    where
      at : (i : ℕ) → i < 3 → value (put_three m s b) r i ≡ value m r i
      at i k =
          value_slot (put_value (put_value m s 0 (x b)) s 1 (y b)) s 2 (z b) (omega arith) r i k n
          ∙ value_slot (put_value m s 0 (x b)) s 1 (y b) (omega arith) r i k n
          ∙ value_slot m s 0 (x b) (omega arith) r i k n

  pub three_values : Writes (λ b. T (fits binary64 (x b)) × T (fits binary64 (y b)) × T (fits binary64 (z b))) read_three put_three
  three_values =
      record {
        same = three_back;
        other = three-far;
        alike = λ m s b.
            alike_trans m _ _ (value-alike m s 0 (x b) (omega arith))
            (alike_trans _ _ _ (value-alike (put_value m s 0 (x b)) s 1 (y b) (omega arith)) (value-alike (put_value (put_value m s 0 (x b)) s 1 (y b)) s 2 (z b) (omega arith)));
        long = λ m s b. value-length (put_value (put_value m s 0 (x b)) s 1 (y b)) s 2 (z b) (omega arith) ∙ value-length (put_value m s 0 (x b)) s 1 (y b) (omega arith) ∙ value-length m s 0 (x b) (omega arith);
      }
