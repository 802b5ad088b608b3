-- Each turn of `put_rows` puts the next row's line.
use Rattle.lister_text.proofs.Rows.{going-chain, going-row, going_next}
use Rattle.lister_text.proofs.lines.put_rows.Goals as goal

pub slice_bounds-put_row-end : goal.slice_bounds-put_row-end
slice_bounds-put_row-end c = going-chain _ _ _ _ _ _ _ _ _ c.loop-i.invariant c.loop-i-test.true

pub put_row-next-requires : goal.put_row-next-requires
put_row-next-requires c = (going-row _ _ _ _ _ _ _ _ _ c.loop-i.invariant c.loop-i-test.true).room

pub loop-i-preserved : goal.loop-i-preserved
loop-i-preserved c = going_next _ _ _ _ _ _ _ _ _ c.loop-i.invariant c.loop-i-test.true _ _ c.put_row-next.ensures
