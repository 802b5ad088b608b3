-- `read_pairs`: a pair more is read.
use Rattle.std.proofs.Common.{◌/◌, ◌∙◌, length, arith}
use Rattle.sheet.proofs.Turns.{read-turn}
use Rattle.sheet.proofs.pairs.read_pairs.Goals as goal

pub loop-j-preserved : goal.loop-j-preserved
loop-j-preserved c =
    let l = c.loop-j in
    let a = c.args in
    rw (c.float_of-in-loop-j.ensures, c.word_at-in-loop-j.ensures, c.float_of.ensures, c.word_at.ensures)
    (read-turn a.stride a.s.now a.offset l.out l.j (length a.out.now / 2) (omega arith) (omega arith))
    ∙ l.invariant
