-- Words in lists of bytes.
use mathlib.Core.Path.{◌≡◌, refl, sym, ◌∙◌}
use mathlib.Core.List.{List, [], ◌∷◌}
use Prim.Native.Nat.{ℕ, zero, suc, ◌+◌, ◌*◌, ◌/◌, ◌%◌, ◌^◌, ◌≤◌, ◌<◌}
use native.Mathlib.Nat.{add-zero, add-suc, pow-zero, pow-suc, div-lt_iff_lt-mul}
use native.Mathlib.Omega.{arith}
use lib.ListN.{length, get_or, take, drop, length-drop}
use lib.Seq.{drop-cons, get_or-drop, length-take-le}
use Rattle.std.specs.Int.{w64, from_le_bytes}
use Rattle.rules.specs.Sheet.{word_of, bytes_of, word_at}
use Rattle.rules.specs.Terms.{Bytes}

pub bytes_drop : (n : ℕ) (l : List ℕ) → Bytes l → Bytes (drop n l)
bytes_drop n l h i = rw get_or-drop (h (n + i))

pub bytes_take : (n : ℕ) (l : List ℕ) → Bytes l → Bytes (take n l)
bytes_take zero l h i = omega arith
bytes_take (suc n) [] h i = omega arith
bytes_take (suc n) (b ∷ l) h zero = h zero
bytes_take (suc n) (b ∷ l) h (suc i) = bytes_take n l (λ k. h (suc k)) i

-- ---- numbers and the bytes that spell them

-- a number below 256 ^ k is what its k bytes spell
pub word_of-bytes : (k w : ℕ) → w < 256 ^ k → word_of (bytes_of k w) ≡ w
word_of-bytes zero w h = omega (arith, pow-zero 256, h)
word_of-bytes (suc k) w h =
    let h1 : w / 256 < 256 ^ k = (div-lt_iff_lt-mul {k = 256} {x = w} {y = 256 ^ k} (omega arith)).1 (rw pow-suc at h) in
    let e : word_of (bytes_of k (w / 256)) ≡ w / 256 = word_of-bytes k (w / 256) h1 in
    rw e (omega arith)

-- bytes are the bytes of what they spell
pub bytes_of-word : (l : List ℕ) → Bytes l → bytes_of (length l) (word_of l) ≡ l
bytes_of-word [] h = refl
bytes_of-word (b ∷ l) h =
    let e : (b + 256 * word_of l) % 256 ≡ b = omega (arith, h 0) in
    let f : (b + 256 * word_of l) / 256 ≡ word_of l = omega (arith, h 0) in
    rw (e, f, bytes_of-word l (λ i. h (suc i)))

-- what bytes spell is below 256 to the power of how many they are
pub word_bound : (l : List ℕ) → Bytes l → word_of l < 256 ^ length l
word_bound [] h = omega (arith, pow-zero 256)
word_bound (b ∷ l) h = rw pow-suc (omega (arith, h 0, word_bound l (λ i. h (suc i))))

-- what eight bytes are read as is what they spell
spelled : (bs : List ℕ) → length bs ≡ 8 → from_le_bytes w64 bs ≡ word_of bs
spelled [] h = absurd (omega arith)
spelled (b0 ∷ []) h = absurd (omega arith)
spelled (b0 ∷ b1 ∷ []) h = absurd (omega arith)
spelled (b0 ∷ b1 ∷ b2 ∷ []) h = absurd (omega arith)
spelled (b0 ∷ b1 ∷ b2 ∷ b3 ∷ []) h = absurd (omega arith)
spelled (b0 ∷ b1 ∷ b2 ∷ b3 ∷ b4 ∷ []) h = absurd (omega arith)
spelled (b0 ∷ b1 ∷ b2 ∷ b3 ∷ b4 ∷ b5 ∷ []) h = absurd (omega arith)
spelled (b0 ∷ b1 ∷ b2 ∷ b3 ∷ b4 ∷ b5 ∷ b6 ∷ []) h = absurd (omega arith)
spelled (b0 ∷ b1 ∷ b2 ∷ b3 ∷ b4 ∷ b5 ∷ b6 ∷ b7 ∷ []) h = omega arith
spelled (b0 ∷ b1 ∷ b2 ∷ b3 ∷ b4 ∷ b5 ∷ b6 ∷ b7 ∷ b ∷ bs) h = absurd (omega arith)

-- ---- words at places

-- one byte more of what stands from a place on
next : (l : List ℕ) (at k : ℕ) → at + k < length l → drop (at + k) l ≡ get_or l (at + k) 0 ∷ drop (at + suc k) l
next l at k h = drop-cons l (at + k) 0 h ∙ rw add-suc

-- the word at a place is what its eight bytes are read as
pub word_read : (l : List ℕ) (at : ℕ) → at + 8 ≤ length l
    → word_at l at
    ≡ from_le_bytes w64
    (get_or l at 0 ∷ get_or l (at + 1) 0 ∷ get_or l (at + 2) 0 ∷ get_or l (at + 3) 0 ∷ get_or l (at + 4) 0 ∷ get_or l (at + 5) 0 ∷ get_or l (at + 6) 0 ∷ get_or l (at + 7) 0 ∷ [])
unfolding word_at
word_read l at h =
    let e0 : drop at l ≡ get_or l at 0 ∷ drop (at + 1) l = rw add-zero at (next l at 0 (omega arith)) in
    rw (
      e0,
      next l at 1 (omega arith),
      next l at 2 (omega arith),
      next l at 3 (omega arith),
      next l at 4 (omega arith),
      next l at 5 (omega arith),
      next l at 6 (omega arith),
      next l at 7 (omega arith),
    )
    (sym (spelled (get_or l at 0 ∷ get_or l (at + 1) 0 ∷ get_or l (at + 2) 0 ∷ get_or l (at + 3) 0 ∷ get_or l (at + 4) 0 ∷ get_or l (at + 5) 0 ∷ get_or l (at + 6) 0 ∷ get_or l (at + 7) 0 ∷ []) refl))

module _ (l : List ℕ) (at : ℕ) (b : Bytes l) (h : at + 8 ≤ length l) where
  word-length : length (take 8 (drop at l)) ≡ 8
  word-length = length-take-le 8 (drop at l) (simp length-drop (omega arith))

  -- the bytes of a word that was read are those that stand there
  pub word_kept : bytes_of 8 (word_at l at) ≡ take 8 (drop at l)
  unfolding word_at
  word_kept = rw word-length at (bytes_of-word (take 8 (drop at l)) (bytes_take 8 (drop at l) (bytes_drop at l b)))

  -- a word that was read is below 2 ^ 64
  pub word_fits : word_at l at < 2 ^ 64
  unfolding word_at
  word_fits = rw word-length at (word_bound (take 8 (drop at l)) (bytes_take 8 (drop at l) (bytes_drop at l b)))
