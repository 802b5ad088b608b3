-- What the loop of `ends_check` keeps: the links from number k on decide what all do.
use Rattle.std.proofs.Common.{◌≡◌}
use Rattle.rules.specs.Outcome.{require, check_from}
use Rattle.rules.specs.Force.{ends_of, ends_range}
use Rattle.list_checks.proofs.Scans.{ends_left}
use Rattle.list_checks.proofs.ends_check.Given as goal

abbrev pub invariant-loop-k : goal.invariant-loop-k
invariant-loop-k l = check_from (λ i a. require (ends_range l.n a) 3 i) l.k (ends_left l.links l.k) ≡ check_from (λ i a. require (ends_range l.n a) 3 i) 0 (ends_of l.links)
