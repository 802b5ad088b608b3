-- What the loop of `read_pairs` keeps: the pairs before number j are read, and the others are still to be.
use Rattle.std.proofs.Common.{◌≡◌, ◌+◌, ◌-◌, ◌*◌, ◌/◌, ◌++◌, length}
use lib.ListN.{take}
use Rattle.rules.specs.Sheet.{pairs_from}
use Rattle.sheet.proofs.pairs.read_pairs.Given as goal

abbrev pub invariant-loop-j : goal.invariant-loop-j
invariant-loop-j l =
    let n = length l.fn.out / 2 in
    take (l.j * 2) l.out ++ pairs_from l.stride l.s (l.offset + l.j * l.stride) (n - l.j) ≡ pairs_from l.stride l.s l.offset n
