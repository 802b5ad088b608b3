-- What the loop of `shift_all` keeps: all that is to be written is what is written so far with the places that are left.
use Rattle.std.proofs.Common.{◌≡◌, ◌*◌, ◌++◌, take, drop}
use Rattle.center.specs.Pairs.{shifted_pairs}
use Rattle.center.proofs.shift_all.Given as goal

abbrev pub invariant-loop-i : goal.invariant-loop-i
invariant-loop-i l =
    shifted_pairs l.shift.x l.shift.y l.initial.places
    ≡ take (l.i * 2) l.places ++ shifted_pairs l.shift.x l.shift.y (drop (l.i * 2) l.places)
