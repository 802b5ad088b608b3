-- Lists of pairs, written from the front.
use mathlib.Core.Path.{◌≡◌, sym, ap, ◌∙◌}
use mathlib.Core.List.{List, ◌∷◌, ◌++◌}
use Prim.Native.Nat.{ℕ, ◌+◌, ◌*◌, ◌/◌, ◌<◌}
use native.Mathlib.Omega.{arith}
use lib.ListN.{length, get_or, set, take, drop}
use lib.Seq.{drop-drop, drop-set-lt, get_or-drop}
use Rattle.sheet.proofs.Turns.{two-more, two-off}

next : (i : ℕ) → (i + 1) * 2 ≡ i * 2 + 2
next i = omega arith

module _ {A : Type 0} (l : List A) (i : ℕ) where
  -- pair number i, and those after it
  pub pair-off : (z : A) → i < length l / 2 → drop (i * 2) l ≡ get_or l (i * 2) z ∷ get_or l (i * 2 + 1) z ∷ drop ((i + 1) * 2) l
  pair-off z h = rw (next i) (two-off l (i * 2) z (omega arith))

  -- one pair more
  pub pair_put : (a b : A) (q : List A) → i < length l / 2
      → take ((i + 1) * 2) (set (set l (i * 2) a) (i * 2 + 1) b) ++ q ≡ take (i * 2) l ++ (a ∷ b ∷ q)
  pair_put a b q h = rw (next i) (two-more l (i * 2) a b q (omega arith))

  -- what stands after it stays
  pub pair-rest : (a b : A) → drop ((i + 1) * 2) (set (set l (i * 2) a) (i * 2 + 1) b) ≡ drop ((i + 1) * 2) l
  pair-rest a b =
      drop-set-lt ((i + 1) * 2) (set l (i * 2) a) (i * 2 + 1) b (omega arith) ∙ drop-set-lt ((i + 1) * 2) l (i * 2) a (omega arith)

  -- lists that are the same from a pair on have the same pair
  pub same_first : (m : List A) (z : A) → drop (i * 2) l ≡ drop (i * 2) m → get_or l (i * 2) z ≡ get_or m (i * 2) z
  same_first m z e = go 0 (omega arith)
    where
      go : (j : ℕ) → i * 2 + j ≡ i * 2 → get_or l (i * 2) z ≡ get_or m (i * 2) z
      go j h = rw (← h) (sym (get_or-drop (i * 2) l j z) ∙ ap (λ (l : List A). get_or l j z) e ∙ get_or-drop (i * 2) m j z)

  pub same_second : (m : List A) (z : A) → drop (i * 2) l ≡ drop (i * 2) m → get_or l (i * 2 + 1) z ≡ get_or m (i * 2 + 1) z
  same_second m z e = sym (get_or-drop (i * 2) l 1 z) ∙ ap (λ (l : List A). get_or l 1 z) e ∙ get_or-drop (i * 2) m 1 z

  -- and are the same from the next on
  pub same_rest : (m : List A) → drop (i * 2) l ≡ drop (i * 2) m → drop ((i + 1) * 2) l ≡ drop ((i + 1) * 2) m
  same_rest m e = rw (next i) (sym (drop-drop 2 (i * 2) l) ∙ ap (drop 2) e ∙ drop-drop 2 (i * 2) m)
