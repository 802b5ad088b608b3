-- Each turn of `put_chain` puts the next number.
use Rattle.std.proofs.Common.{◌+◌, ◌∷◌, drop, get_or, map}
use Rattle.rules.specs.Listing.{decimal}
use Rattle.lister_text.specs.Text.{other_words}
use Rattle.lister_text.proofs.Writing.{from_index, left-next}
use Rattle.lister_text.proofs.lines.put_chain.Goals as goal

pub loop-i-preserved : goal.loop-i-preserved
loop-i-preserved c =
    let i = c.loop-i.i-index in
    let chain = c.args.chain.now in
    (left-next (32 ∷ decimal (get_or chain i 0)) (other_words (map decimal (drop (i + 1) chain))) (rw (from_index chain i c.loop-i-test.true) at c.loop-i.invariant)).after c.put_number-next.ensures
