-- `put_pair` writes two numbers side by side, and changes nothing else.
use Rattle.std.proofs.Common.{arith}
use Rattle.sheet.proofs.Turns.{pair_put}
use Rattle.sheet.proofs.pairs.put_pair.Goals as goal

pub returns : goal.returns
returns c =
    pair_put c.args.s.now c.put_word.new.s c.put_word-2.new.s c.args.at c.bits_of.result c.bits_of-2.result c.args.x c.args.y
    c.put_word.ensures c.bits_of.ensures c.put_word-2.ensures c.bits_of-2.ensures (omega arith)
