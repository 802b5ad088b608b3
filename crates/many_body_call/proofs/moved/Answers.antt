-- `moved`: past 4 and 5 ManyBody may run, and what it leaves is what the rules say.
use mathlib.Core.Path.{sym, ◌∙◌}
use Rattle.std.proofs.lemmas.Result.{IfOk-weaker}
use mathlib.Core.List.{[]}
use native.Mathlib.Omega.{arith}
use Rattle.rules.specs.Force.{many_body, run}
use Rattle.rules.specs.Calls.{numbers_check}
use Rattle.rules.proofs.OutcomeLaws.{ok_fine}
use Rattle.force_call.specs.Calls.{lent}
use Rattle.force_call.proofs.Ranged.{places-within}
use Rattle.many_body_call.proofs.moved.Goals as goal

pub many_body-requires-clause-lent : goal.many_body-requires-clause-lent
many_body-requires-clause-lent c =
    let a = c.args in
    let f = many_body a.strengths.now in
    let past = ok_fine (numbers_check a.places.now a.speeds.now f a.draws.now a.alpha) _ (sym c.numbers_check.ensures ∙ c.in_ok-numbers_check.was) in
    record { ranged = places-within (lent a.places.now [] 0 [] []) f a.speeds.now a.draws.now a.alpha past; few = omega arith; links = omega arith; tails = omega arith }

pub returns : goal.returns
unfolding run
returns c =
    let a = c.args in
    let past = ok_fine (numbers_check a.places.now a.speeds.now (many_body a.strengths.now) a.draws.now a.alpha) _ (sym c.numbers_check.ensures ∙ c.in_ok-numbers_check.was) in
    let m = rw (c.begin.ensures, c.standard.ensures) at c.many_body.ensures.runs in
    (past, record { is = m.is; used = IfOk-weaker c.many_body.result _ _ (λ q h. h.draws.reach) m.onward; late = m.late })
