-- The children of a node laid one by one on what waits in a walk. Assumes nothing.
use mathlib.Core.List.{List}
use Prim.Native.Nat.{ℕ, zero, suc, ◌+◌, ◌≤◌, ◌<◌}
use native.Mathlib.Omega.{arith}
use Rattle.std.proofs.Common.{length, get_or}
use Rattle.rules.specs.declared.Extent.{Extent}
use Rattle.rules.specs.Cell.{quarter}
use Rattle.tree_walk.specs.Walk.{Waiting, lay}

-- the children from a quadrant on laid on what waits, child 3 first
abbrev pub laid_from : List ℕ → Extent → List Waiting → ℕ → List Waiting
laid_from ks c es zero =
    lay (get_or ks 0 0) (quarter 0 c) (lay (get_or ks 1 0) (quarter 1 c) (lay (get_or ks 2 0) (quarter 2 c) (lay (get_or ks 3 0) (quarter 3 c) es)))
laid_from ks c es (suc zero) = lay (get_or ks 1 0) (quarter 1 c) (lay (get_or ks 2 0) (quarter 2 c) (lay (get_or ks 3 0) (quarter 3 c) es))
laid_from ks c es (suc (suc zero)) = lay (get_or ks 2 0) (quarter 2 c) (lay (get_or ks 3 0) (quarter 3 c) es)
laid_from ks c es (suc (suc (suc zero))) = lay (get_or ks 3 0) (quarter 3 c) es
laid_from ks c es (suc (suc (suc (suc q)))) = es

lay_longer : (p : ℕ) (c : Extent) (es : List Waiting) → length es ≤ length (lay p c es)
lay_longer zero c es = omega arith
lay_longer (suc s) c es = omega arith

-- where all find room, each does
pub fits : (ks : List ℕ) (c : Extent) (es : List Waiting) (q n : ℕ) → q < 4 → length (laid_from ks c es 0) ≤ n → length (lay (get_or ks q 0) (quarter q c) (laid_from ks c es (q + 1))) ≤ n
fits ks c es zero n b h = h
fits ks c es (suc zero) n b h = omega (arith, lay_longer (get_or ks 0 0) (quarter 0 c) (laid_from ks c es 1))
fits ks c es (suc (suc zero)) n b h =
    omega (arith, lay_longer (get_or ks 0 0) (quarter 0 c) (laid_from ks c es 1), lay_longer (get_or ks 1 0) (quarter 1 c) (laid_from ks c es 2))
fits ks c es (suc (suc (suc zero))) n b h =
    omega (
      arith,
      lay_longer (get_or ks 0 0) (quarter 0 c) (laid_from ks c es 1),
      lay_longer (get_or ks 1 0) (quarter 1 c) (laid_from ks c es 2),
      lay_longer (get_or ks 2 0) (quarter 2 c) (laid_from ks c es 3),
    )
fits ks c es (suc (suc (suc (suc q)))) n b h = absurd (omega arith)
