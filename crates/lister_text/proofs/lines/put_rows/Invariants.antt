-- What `put_rows` has left to put are the rows from i on, with the chains from `from` on.
use Rattle.lister_text.proofs.Rows.{Going}
use Rattle.lister_text.proofs.lines.put_rows.Given as goal

abbrev pub invariant-loop-i : goal.invariant-loop-i
invariant-loop-i l = Going l.nodes l.rows l.chains l.fn.out l.fn.at l.out l.next l.from l.i
