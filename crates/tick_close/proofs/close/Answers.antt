-- `close` is the closing move after what the forces came to, and 9 after it.
use Rattle.std.proofs.Common.{◌∙◌}
use Rattle.tick_columns.specs.Stage.{columns}
use Rattle.tick_columns.proofs.Staged.{closed-stages}
use Rattle.tick_close.proofs.Closed.{moved-stages}
use Rattle.tick_close.proofs.close.Goals as goal

pub returns : goal.returns
returns c ds p most o h =
    let a = c.args in
    let to = c.close_all.new.places in
    let vs = c.close_all.new.speeds in
    moved-stages (columns a.places.now a.speeds.now a.flags.now) (columns to vs a.flags.now) ds a.decay a.home.now p a.reached most c.ranged.result o h
    (closed-stages a.home.now a.places.now a.speeds.now to vs ds a.flags.now a.decay p a.reached most c.ranged.result
    c.requires.0 (c.close_all.auto.places ∙ c.requires.1) (c.close_all.auto.speeds ∙ c.requires.2) h.onward h.few c.close_all.ensures.0 c.close_all.ensures.1 c.ranged.ensures)
