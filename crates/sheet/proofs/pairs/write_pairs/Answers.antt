-- `write_pairs`: a pair more is written.
use Rattle.std.proofs.Common.{◌∙◌, arith}
use Rattle.sheet.proofs.Turns.{write_turn}
use Rattle.sheet.proofs.pairs.write_pairs.Goals as goal

pub loop-j-preserved : goal.loop-j-preserved
loop-j-preserved c =
    let l = c.loop-j in
    let e = c.put_pair.ensures in
    l.invariant ∙ rw e (write_turn c.args.stride c.args.offset c.args.xs.now l.s l.j (omega arith))
