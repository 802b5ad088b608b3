-- What the loop of `read_flags` keeps: the flags before number i are read, and the others are still to be.
use Rattle.std.proofs.Common.{◌≡◌, ◌-◌, ◌*◌, ◌++◌, length}
use lib.ListN.{take}
use Rattle.rules.specs.Sheet.{record_size, records_from}
use Rattle.sheet.specs.Columns.{flags_of}
use Rattle.sheet.proofs.records.read_flags.Given as goal

abbrev pub invariant-loop-i : goal.invariant-loop-i
invariant-loop-i l = take l.i l.out ++ flags_of (records_from l.s (l.i * record_size) (length l.fn.out - l.i)) ≡ flags_of (records_from l.s 0 (length l.fn.out))
