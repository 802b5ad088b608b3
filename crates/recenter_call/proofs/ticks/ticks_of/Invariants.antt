-- Before each byte `ticks_of` has read the digits before it.
use Rattle.recenter_call.proofs.Digits.{Reading}
use Rattle.recenter_call.proofs.ticks.ticks_of.Given as goal

abbrev pub invariant-loop-b : goal.invariant-loop-b
invariant-loop-b l = Reading l.text l.ticks l.b-index
