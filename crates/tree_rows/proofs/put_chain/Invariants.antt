-- What is left of the chain is to be written behind what was.
use Rattle.std.proofs.Common.{◌-◌, length}
use Rattle.tree_rows.proofs.ListChain.{Chaining}
use Rattle.tree_rows.proofs.put_chain.Given as goal

abbrev pub invariant-loop-i : goal.invariant-loop-i
invariant-loop-i l = Chaining l.next l.initial.chains l.p l.at l.chains l.link l.end

abbrev pub decreases-loop-i : goal.decreases-loop-i
decreases-loop-i l = length l.initial.chains - l.end
