-- What the loop of `last` keeps: how far the outline has come, and that the corners left lead to its last number.
use Rattle.std.proofs.Common.{◌≡◌, ◌≤◌, ◌+◌, ◌*◌}
use lib.ListN.{drop}
use lib.IntN.{nat_abs}
use Rattle.rules.specs.Outline.{half_turn, outline, last_from}
use Rattle.outline.proofs.corners.last.Given as goal

abbrev pub invariant-loop-corner : goal.invariant-loop-corner
invariant-loop-corner l = record {
  near : nat_abs l.end ≤ half_turn * (l.corner-index + 1);
  leads : last_from l.fn.centre (outline l.fn.centre l.corners) ≡ last_from l.end (outline l.end (drop l.corner-index l.corners));
}
