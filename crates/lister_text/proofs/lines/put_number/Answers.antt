-- `put_number` puts a space and a number.
use Rattle.std.proofs.Common.{[], ◌∷◌, arith}
use Rattle.lister_text.proofs.Writing.{wrote_both}
use Rattle.lister_text.proofs.lines.put_number.Goals as goal

pub returns : goal.returns
returns c = wrote_both c.args.out.now _ (32 ∷ []) _ _ _ _ _ (omega (arith, c.requires.1)) c.put_byte-next.ensures c.put_decimal.ensures
