-- After each turn `integer_root` has one digit more of the root.
use Rattle.square_root.proofs.Powers.{Inv}
use Rattle.square_root.proofs.digits.integer_root.Given as goal

abbrev pub invariant-loop : goal.invariant-loop
invariant-loop l = Inv l.a l.s.q l.s.rem l.s.rest l.counter
