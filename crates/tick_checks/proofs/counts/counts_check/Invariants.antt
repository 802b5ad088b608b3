-- What the loop of `counts_check` keeps: the entries from this one on decide what all do.
use Rattle.std.proofs.Common.{◌≡◌, drop}
use Rattle.rules.specs.Outcome.{check_from, check_each}
use Rattle.rules.specs.Tick.{entry_counts}
use Rattle.tick_checks.proofs.counts.counts_check.Given as goal

abbrev pub invariant-loop-e : goal.invariant-loop-e
invariant-loop-e l = check_from (λ _ e. entry_counts e) l.e-index (drop l.e-index l.entries) ≡ check_each (λ _ e. entry_counts e) l.entries
