-- What the loop of `close_all` keeps: the columns from i on are as they were, and what is written so far with the moves that are left is all that is to be written.
use Rattle.std.proofs.Common.{◌≡◌, ◌-◌, ◌*◌, ◌++◌, map, length, take, drop}
use Rattle.rules.specs.Plain.{count_from, up_to}
use Rattle.rules.specs.Sheet.{places_of, speeds_of}
use Rattle.closing.proofs.Closing.{closed_at}
use Rattle.closing.proofs.close_all.Given as goal

abbrev pub invariant-loop-i : goal.invariant-loop-i
invariant-loop-i l =
    let closed = closed_at l.decay l.home l.initial.places l.initial.speeds l.flags in
    let n = length l.flags in
    record {
      places_left : drop (l.i * 2) l.places ≡ drop (l.i * 2) l.initial.places;
      speeds_left : drop (l.i * 2) l.speeds ≡ drop (l.i * 2) l.initial.speeds;
      places_done : places_of (map closed (up_to n)) ≡ take (l.i * 2) l.places ++ places_of (map closed (count_from l.i (n - l.i)));
      speeds_done : speeds_of (map closed (up_to n)) ≡ take (l.i * 2) l.speeds ++ speeds_of (map closed (count_from l.i (n - l.i)));
    }
