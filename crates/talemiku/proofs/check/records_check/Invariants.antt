-- What the loop of `records_check` keeps: the particles from number i on decide what all do.
use Rattle.std.proofs.Common.{◌≡◌}
use lib.ListN.{drop}
use Rattle.rules.specs.Outcome.{check_from}
use Rattle.rules.specs.Sheet.{record_check}
use Rattle.talemiku.proofs.check.records_check.Given as goal

abbrev pub invariant-loop-i : goal.invariant-loop-i
invariant-loop-i l = check_from record_check l.i (drop l.i l.particles) ≡ check_from record_check 0 l.particles
