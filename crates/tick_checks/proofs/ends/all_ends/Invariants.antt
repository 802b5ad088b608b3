-- What the loop of `all_ends` keeps: the entries from this one on, and what is left of the links, decide what all do.
use Rattle.std.proofs.Common.{◌*◌}
use Rattle.rules.specs.Tick.{links_needed}
use Rattle.tick_checks.specs.Parts.{own_ends}
use Rattle.tick_checks.proofs.Parts.{Walked}
use Rattle.tick_checks.proofs.ends.all_ends.Given as goal

abbrev pub invariant-loop-e : goal.invariant-loop-e
invariant-loop-e l = Walked (λ e. links_needed e * 2) (λ _ part. own_ends l.n part) l.entries l.links l.e-index l.left
