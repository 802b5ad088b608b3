-- What the loop of `lay` keeps: how far the outline has come, and that the corners left are still to be laid.
use Rattle.std.proofs.Common.{◌≡◌, ◌≤◌, ◌+◌, ◌*◌, length}
use lib.ListN.{drop}
use lib.IntN.{nat_abs}
use Rattle.rules.specs.Plain.{overwritten}
use Rattle.rules.specs.Outline.{half_turn, outline}
use Rattle.outline.proofs.corners.lay.Given as goal

abbrev pub invariant-loop-i : goal.invariant-loop-i
invariant-loop-i l = record {
  near : nat_abs l.at ≤ half_turn * (l.i + 1);
  room : length l.corners ≤ length l.unwrapped;
  laid : overwritten l.fn.unwrapped 0 (outline l.fn.centre l.corners) ≡ overwritten l.unwrapped l.i (outline l.at (drop l.i l.corners));
}
