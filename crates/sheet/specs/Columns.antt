-- Columns of a sheet: pairs written into bytes, and flags. Definitions only.
use Rattle.std.specs.Prelude.{◌≡◌, List, [], ◌∷◌, ◌++◌, ℕ, ◌+◌, ◌*◌, ◌/◌, ◌%◌, ◌≤◌, length, Float}
use Rattle.rules.specs.Plain.{overwritten}
use Rattle.rules.specs.Sheet.{float_bytes, pair_size}
use Rattle.rules.specs.declared.Particle.{Particle}

-- n numbers are whole pairs, and all of them lie in the bytes s: the last begins one stride before `offset + n / 2 * stride`
pub record PairsFit (s : List ℕ) (stride offset n : ℕ) : Type 0 where
  pub even : n % 2 ≡ 0
  pub reach : offset + n / 2 * stride + pair_size ≤ length s + stride

-- the bytes with these pairs written over, the first at a place and the next each `stride` bytes further on
abbrev pub put_pairs : ℕ → List ℕ → ℕ → List Float → List ℕ
put_pairs stride s at [] = s
put_pairs stride s at (x ∷ []) = s
put_pairs stride s at (x ∷ y ∷ xs) = put_pairs stride (overwritten s at (float_bytes x ++ float_bytes y)) (at + stride) xs

abbrev pub flags_of : List Particle → List ℕ
flags_of [] = []
flags_of (p ∷ ps) = p.flags ∷ flags_of ps
