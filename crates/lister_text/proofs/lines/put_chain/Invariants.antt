-- What `put_chain` has left to put are the chain's numbers from i on, and the line's end.
use Rattle.std.proofs.Common.{drop, map}
use Rattle.rules.specs.Listing.{decimal}
use Rattle.lister_text.specs.Text.{other_words}
use Rattle.lister_text.proofs.Writing.{Left}
use Rattle.lister_text.proofs.lines.put_chain.Given as goal

abbrev pub invariant-loop-i : goal.invariant-loop-i
invariant-loop-i l = Left l.fn.out l.fn.at (other_words (map decimal l.chain)) l.out l.next (other_words (map decimal (drop l.i-index l.chain)))
