-- A step that is refused before its first tick changes nothing; any other is run on columns.
use Rattle.std.proofs.Common.{[], ◌∷◌, ◌++◌}
use Rattle.rules.specs.Tick.{tick_settings}
use Rattle.tick_checks.specs.Input.{lent_sheet}
use Rattle.tick_columns.proofs.Begun.{answered, stopped, past}
use Rattle.step_call.proofs.StepCalled.{step-stopped}
use Rattle.step_call.proofs.step.Goals as goal

pub with_lists-requires : goal.with_lists-requires
with_lists-requires c =
    let a = c.args in
    let l = lent_sheet a.sheet.now a.alpha.now a.words.now a.numbers.now a.links.now a.draws.now a.work.now in
    let settings = tick_settings l a.s ++ (a.alpha_min ∷ []) in
    (past l a.budget settings (answered l a.budget settings _ (rw c.float_of.ensures at c.step_check.ensures)) c.in-Ok.is, c.float_of.ensures)

pub returns-in-Err : goal.returns-in-Err
returns-in-Err c =
    let a = c.args in
    let l = lent_sheet a.sheet.now a.alpha.now a.words.now a.numbers.now a.links.now a.draws.now a.work.now in
    let settings = tick_settings l a.s ++ (a.alpha_min ∷ []) in
    step-stopped l a.s a.alpha_min a.budget _ c.refused_step.result (stopped l a.budget settings (answered l a.budget settings _ (rw c.float_of.ensures at c.step_check.ensures)) c.in-Err.is) c.refused_step.ensures
