-- What the loop of `corners_check` keeps: the corners from number i on decide what all do.
use Rattle.std.proofs.Common.{◌≡◌}
use lib.ListN.{drop}
use Rattle.rules.specs.Outcome.{require, check_from}
use Rattle.rules.specs.Outline.{longitude_range}
use Rattle.outline.proofs.check.corners_check.Given as goal

abbrev pub invariant-loop-i : goal.invariant-loop-i
invariant-loop-i l = check_from (λ i a. require (longitude_range a) 5 i) l.i (drop l.i l.corners) ≡ check_from (λ i a. require (longitude_range a) 5 i) 0 l.corners
