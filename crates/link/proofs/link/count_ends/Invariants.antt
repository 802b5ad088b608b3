-- At each turn the ends of the links so far are counted, and the others are left.
use Rattle.std.proofs.Common.{◌≡◌, ◌*◌, length, drop}
use Rattle.std.specs.Slice.Iter.{chunks_exact_rest, chunks_exact_size}
use Rattle.rules.specs.Force.{ends_from}
use Rattle.link.specs.Links.{tallies}
use Rattle.link.proofs.link.count_ends.Given as goal

abbrev pub invariant-loop-ends : goal.invariant-loop-ends
invariant-loop-ends l =
    (chunks_exact_size l.ends-iterator ≡ 2)
    × (chunks_exact_rest l.ends-iterator ≡ drop (length l.yielded * 2) l.links)
    × (l.counts ≡ tallies (length l.initial.counts) (ends_from l.links (length l.yielded)))
