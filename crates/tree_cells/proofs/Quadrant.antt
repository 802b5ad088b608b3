-- A quadrant's number is below 4. Assumes nothing.
use Rattle.std.proofs.Common.{◌+◌, ◌<◌, Bool, true, false, cond, arith}
use lib.Ieee.{Float, le}
use Rattle.rules.specs.declared.Extent.{Extent}
use Rattle.rules.specs.Cell.{quadrant, xm, ym}

pub quadrant_lt : (c : Extent) (x y : Float) → quadrant c x y < 4
unfolding quadrant
quadrant_lt c x y = go (le (ym c) y) (le (xm c) x)
  where
    go : (a b : Bool) → cond a 2 0 + cond b 1 0 < 4
    go true true = omega arith
    go true false = omega arith
    go false true = omega arith
    go false false = omega arith
