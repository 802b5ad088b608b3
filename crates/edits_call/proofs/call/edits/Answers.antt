-- `edits` answers the refusal of the checks, and otherwise what the edits came to.
use mathlib.Core.Path.{sym, ◌∙◌}
use Rattle.rules.specs.Edits.{edit_input_check}
use Rattle.rules.proofs.OutcomeLaws.{ok_fine, err_refused}
use Rattle.edits_call.specs.Call.{lent}
use Rattle.edits_call.proofs.Checks.{few_made}
use Rattle.edits_call.proofs.EditsCalled.{ends_refused}
use Rattle.edits_call.proofs.call.edits.Goals as goal

pub returns-in-Err : goal.returns-in-Err
returns-in-Err c =
    let a = c.args in
    let l = lent a.edits.now a.rows.now a.chains.now a.work.now in
    ends_refused l _ (err_refused (edit_input_check l) _ (sym c.input_check.ensures ∙ c.in-Err.is)) _ _ c.refuse.ensures.0 c.refuse.ensures.1

pub edits_passed-requires-clause-few : goal.edits_passed-requires-clause-few
edits_passed-requires-clause-few c =
    let a = c.args in
    let l = lent a.edits.now a.rows.now a.chains.now a.work.now in
    few_made a.edits.now a.rows.now a.chains.now a.work.now (ok_fine (edit_input_check l) _ (sym c.input_check.ensures ∙ c.in-Ok.is))
