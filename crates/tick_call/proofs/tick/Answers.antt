-- A tick that is refused before it begins changes nothing; any other is run on columns.
use Rattle.rules.specs.Tick.{tick_settings}
use Rattle.tick_checks.specs.Input.{lent_sheet}
use Rattle.tick_columns.proofs.Begun.{answered, stopped, past}
use Rattle.tick_call.proofs.TickCalled.{tick-stopped}
use Rattle.tick_call.proofs.tick.Goals as goal

pub with_lists-requires : goal.with_lists-requires
with_lists-requires c =
    let a = c.args in
    let l = lent_sheet a.sheet.now a.alpha.now a.words.now a.numbers.now a.links.now a.draws.now a.work.now in
    past l 0 (tick_settings l a.s) (answered l 0 (tick_settings l a.s) _ (rw c.float_of.ensures at c.tick_check.ensures)) c.in-Ok.is

pub returns-in-Err : goal.returns-in-Err
returns-in-Err c =
    let a = c.args in
    let l = lent_sheet a.sheet.now a.alpha.now a.words.now a.numbers.now a.links.now a.draws.now a.work.now in
    tick-stopped l a.s _ c.refused.result (stopped l 0 (tick_settings l a.s) (answered l 0 (tick_settings l a.s) _ (rw c.float_of.ensures at c.tick_check.ensures)) c.in-Err.is) c.refused.ensures
