-- The records so far are laid.
use mathlib.Core.Path.{◌≡◌}
use Rattle.rules.specs.Sheet.{record_size}
use Rattle.talemiku.proofs.Laid.{lay_to, record_of}
use Rattle.talemiku.proofs.writing.lay_records.Given as goal

abbrev pub invariant-loop-i : goal.invariant-loop-i
invariant-loop-i l = l.sheet ≡ lay_to record_size (record_of l.particles) l.i l.initial.sheet
