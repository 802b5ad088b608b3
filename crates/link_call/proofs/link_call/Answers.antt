-- `link_call`: a call that 1, 2 or 3 refuses changes nothing.
use mathlib.Core.Path.{sym, ◌∙◌}
use Prim.Native.Nat.{◌%◌}
use lib.Dec.{eqb}
use lib.ListN.{length}
use Rattle.rules.specs.Force.{link, ends_of}
use Rattle.rules.specs.Calls.{lent_check}
use Rattle.rules.proofs.OutcomeLaws.{err_refused}
use Rattle.rules.proofs.RefusalNumbers.{lent-early}
use Rattle.force_call.specs.Calls.{lent}
use Rattle.force_call.proofs.Called.{result-lent, answered_refused}
use Rattle.link_call.proofs.link_call.Goals as goal

pub returns-in-Err : goal.returns-in-Err
returns-in-Err c =
    let a = c.args in
    let l = lent a.places.now a.buffer.now a.start a.draws.now a.work.now in
    let f = link (ends_of a.links.now) a.strengths.now a.distances.now a.iterations in
    let w = eqb (length a.links.now % 2) 0 in
    let e = err_refused (lent_check l f w) c.in-Err.refusal (sym c.lent_check.ensures ∙ c.in-Err.is) in
    answered_refused l _ c.in-Err.refusal c.refused.result (result-lent l f w a.alpha c.in-Err.refusal e) ((lent-early l f w).by c.in-Err.refusal e) c.refused.ensures
