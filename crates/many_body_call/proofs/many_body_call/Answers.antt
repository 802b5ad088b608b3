-- `many_body_call`: a call that 1 or 2 refuse changes nothing.
use mathlib.Core.Path.{sym, ◌∙◌}
use Rattle.rules.specs.Force.{many_body}
use Rattle.rules.specs.Calls.{no_ends, lent_check}
use Rattle.rules.proofs.OutcomeLaws.{err_refused}
use Rattle.rules.proofs.RefusalNumbers.{lent-early}
use Rattle.force_call.specs.Calls.{lent}
use Rattle.force_call.proofs.Called.{result-lent, answered_refused}
use Rattle.many_body_call.proofs.many_body_call.Goals as goal

pub returns-in-Err : goal.returns-in-Err
returns-in-Err c =
    let a = c.args in
    let l = lent a.places.now a.buffer.now a.start a.draws.now a.work.now in
    let f = many_body a.strengths.now in
    let e = err_refused (lent_check l f no_ends) c.in-Err.refusal (sym c.lent_check.ensures ∙ c.in-Err.is) in
    answered_refused l _ c.in-Err.refusal c.refused.result (result-lent l f no_ends a.alpha c.in-Err.refusal e) ((lent-early l f no_ends).by c.in-Err.refusal e) c.refused.ensures
