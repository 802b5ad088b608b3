-- Two lists laid one after the other in a third, and taken apart again.
use mathlib.Core.Path.{◌≡◌}
use mathlib.Core.List.{List, ◌++◌}
use Prim.Native.Nat.{ℕ}
use native.Mathlib.Omega.{arith}
use lib.ListN.{length, take, drop}
use lib.Seq.{take-append_seam, drop-append_seam, take_all}

module _ {A : Type 0} (p v : List A) {l : List A} {n : ℕ} (e : l ≡ p ++ v) (h : length p ≡ n) where
  -- the first of them again, as the code says its length
  pub first_part : take n l ≡ p
  first_part = rw (e, ← h) (take-append_seam p v)

  -- and the second
  pub second_part : {m : ℕ} → length v ≡ m → take m (drop n l) ≡ v
  second_part {m} k = rw (e, ← h, drop-append_seam p v) (take_all m v (omega (arith, k)))
