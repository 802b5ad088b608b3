-- Lists that are written over.
use mathlib.Core.Path.{◌≡◌, refl, sym, ap, ◌∙◌}
use mathlib.Core.List.{List, [], ◌∷◌, ◌++◌, append_assoc, append-nil}
use Prim.Native.Nat.{ℕ, suc, ◌+◌, ◌≤◌}
use native.Mathlib.Nat.{add_assoc, add-zero}
use native.Mathlib.Numerals.{add-one}
use native.Mathlib.Omega.{arith}
use lib.ListN.{length, take, drop, set, length-drop, length-append, length-set, take-append-drop, drop_of_length-le}
use lib.Seq.{length-take-le, drop-append-add, take-append-add, drop-drop, drop_at, take_at, sets-eq}
use Rattle.rules.specs.Plain.{overwritten}

module _ {A : Type 0} where
  -- a list of length 0 is empty
  pub length-zero : (l : List A) → length l ≡ 0 → l ≡ []
  length-zero [] e = refl
  length-zero (a ∷ l) e = absurd (omega arith)

  -- writing over keeps the length
  pub overwritten-length : (l : List A) (at : ℕ) (part : List A) → at + length part ≤ length l → length (overwritten l at part) ≡ length l
  overwritten-length l at part h =
      simp (length-append, length-drop) (omega (arith, length-take-le at l (omega arith)))

  -- what is written over and the next part after it are one part
  pub overwritten-next : (l : List A) (at : ℕ) (a b : List A) → at + length a ≤ length l
      → overwritten (overwritten l at a) (at + length a) b ≡ overwritten l at (a ++ b)
  overwritten-next l at a b h =
      let t : length (take at l) ≡ at = length-take-le at l (omega arith) in
      let f : length (take at l ++ a) ≡ at + length a = length-append (take at l) a ∙ ap (λ (n : ℕ). n + length a) t in
      let e : take (at + length a) (overwritten l at a) ≡ take at l ++ a = take_at (take at l ++ a) (drop (at + length a) l) (at + length a) f in
      let d : drop (at + length a + length b) (overwritten l at a) ≡ drop (at + length a + length b) l =
      sym (drop-drop (length b) (at + length a) (overwritten l at a))
      ∙ ap (drop (length b)) (drop_at (take at l ++ a) (drop (at + length a) l) (at + length a) f)
      ∙ drop-drop (length b) (at + length a) l in
      rw (e, d, length-append, ← add_assoc) (ap (λ (x : List A). x ++ drop (at + length a + length b) l) (append_assoc (take at l) a b))

  -- a list after a front is written over as it is alone
  pub overwritten-after : (p l : List A) (at : ℕ) (part : List A) → overwritten (p ++ l) (length p + at) part ≡ p ++ overwritten l at part
  overwritten-after p l at part =
      rw (take-append-add p l at, add_assoc (length p) at (length part), drop-append-add p l (at + length part)) (simp append_assoc)

  -- nothing is written
  pub overwritten-none : (l : List A) (at : ℕ) → overwritten l at [] ≡ l
  overwritten-none l at = rw (append-nil, add-zero) (take-append-drop at l)

  -- over the whole of a list
  pub overwritten-all : (k v : List A) → length k ≡ length v → overwritten k 0 v ≡ v
  overwritten-all k v e = ap (λ (l : List A). v ++ l) (drop_of_length-le k {i = 0 + length v} (omega arith)) ∙ append-nil v

  -- a part after a front, written over by one of its length
  pub overwritten-part : (p a q : List A) (n : ℕ) (b : List A) → length p ≡ n → length b ≡ length a → overwritten (p ++ (a ++ q)) n b ≡ p ++ (b ++ q)
  overwritten-part p a q n b e h =
      rw (take_at p (a ++ q) n e, ← drop-drop (length b) n (p ++ (a ++ q)), drop_at p (a ++ q) n e, drop_at a q (length b) (sym h)) (append_assoc p b q)

  -- the first of a part, stored, and then the rest
  pub store_first : (l : List A) (k : ℕ) (a : A) (part : List A) → k + length (a ∷ part) ≤ length l → overwritten l k (a ∷ part) ≡ overwritten (set l k a) (k + 1) part
  store_first l k a part h =
      rw add-one (sym (sets-eq (a ∷ part) l k h) ∙ sets-eq part (set l k a) (suc k) (rw length-set (omega arith)))
