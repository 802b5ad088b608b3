-- What the loop of `write_pairs` keeps: the pairs before number j are written, and the others are still to be.
use Rattle.std.proofs.Common.{◌≡◌, ◌+◌, ◌*◌}
use lib.ListN.{drop}
use Rattle.sheet.specs.Columns.{put_pairs}
use Rattle.sheet.proofs.pairs.write_pairs.Given as goal

abbrev pub invariant-loop-j : goal.invariant-loop-j
invariant-loop-j l = put_pairs l.stride l.fn.s l.offset l.xs ≡ put_pairs l.stride l.s (l.offset + l.j * l.stride) (drop (l.j * 2) l.xs)
