-- `moved`: past 4 and 5 Link may run, and what it leaves is what the rules say.
use mathlib.Core.Path.{sym, ◌∙◌}
use Rattle.std.proofs.lemmas.Result.{IfOk-weaker}
use Rattle.rules.specs.Force.{link, ends_of, run}
use Rattle.rules.specs.Calls.{numbers_check}
use Rattle.rules.proofs.OutcomeLaws.{ok_fine}
use Rattle.link_call.proofs.moved.Goals as goal

pub returns : goal.returns
unfolding run
returns c = λ work.
    let a = c.args in
    let past = ok_fine (numbers_check a.places.now a.speeds.now (link (ends_of a.links.now) a.strengths.now a.distances.now a.iterations) a.draws.now a.alpha) _ (sym c.numbers_check.ensures ∙ c.in_ok-numbers_check.was) in
    let m = rw c.begin.ensures at c.link.ensures in
    (past, record { is = m.is; used = IfOk-weaker c.link.result _ _ (λ q h. h.draws.reach) m.onward; late = m.late })
