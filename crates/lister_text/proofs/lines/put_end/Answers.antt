-- `put_end` puts a space and an end of an extent.
use Rattle.std.proofs.Common.{[], ◌∷◌, arith}
use Rattle.lister_text.proofs.Writing.{wrote_both}
use Rattle.lister_text.proofs.lines.put_end.Goals as goal

pub returns : goal.returns
returns c = wrote_both c.args.out.now _ (32 ∷ []) _ _ _ _ _ (omega (arith, c.requires.x_in_bounds)) c.put_byte-next.ensures c.put_whole.ensures
