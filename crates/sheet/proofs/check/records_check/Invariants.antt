-- What the loop of `records_check` keeps: the records from number i on decide what all do.
use Rattle.std.proofs.Common.{◌≡◌, ◌-◌, ◌*◌, ◌/◌, length}
use Rattle.rules.specs.Outcome.{check_from}
use Rattle.rules.specs.Sheet.{record_size, record_check, records_from}
use Rattle.sheet.proofs.check.records_check.Given as goal

abbrev pub invariant-loop-i : goal.invariant-loop-i
invariant-loop-i l =
    check_from record_check l.i (records_from l.s (l.i * record_size) (length l.s / record_size - l.i))
    ≡ check_from record_check 0 (records_from l.s 0 (length l.s / record_size))
