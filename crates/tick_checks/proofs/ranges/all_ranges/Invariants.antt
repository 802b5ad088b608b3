-- What the loop of `all_ranges` keeps: the entries from this one on, and what is left of the numbers, decide what all do.
use Rattle.rules.specs.Tick.{numbers_needed}
use Rattle.tick_checks.specs.Parts.{own_ranges}
use Rattle.tick_checks.proofs.Parts.{Walked}
use Rattle.tick_checks.proofs.ranges.all_ranges.Given as goal

abbrev pub invariant-loop-e : goal.invariant-loop-e
invariant-loop-e l = Walked (numbers_needed l.n) own_ranges l.entries l.numbers l.e-index l.left
