-- `link_stage` is the rules' stage of Link.
use Rattle.std.proofs.Common.{drop, arith}
use Rattle.std.proofs.lemmas.Result.{err_from_is_err_and}
use Rattle.rules.specs.Flow.{flow}
use Rattle.rules.specs.Link.{run_link}
use Rattle.rules.specs.Force.{link, ends_of, run}
use Rattle.tick_columns.proofs.Staged.{visits_kept, pushed-refused, pushed-stages}
use Rattle.tick_stage.proofs.stage.link_stage.Goals as goal

pub returns-in_err-reached : goal.returns-in_err-reached
unfolding run
returns-in_err-reached c t flags slots l =
    let a = c.args in
    let e = err_from_is_err_and c.from_residual.result c.from_residual.ensures.1 in
    rw (e.1, e.2)
    (pushed-refused a.places.now a.speeds.now c.link.new.vs a.draws.now flags l (omega (arith, c.requires.0.places, c.requires.0.speeds)) (omega (arith, c.requires.0.places, c.requires.0.speeds, c.link.auto.vs))
    t (link (ends_of a.links.now) a.strengths.now a.distances.now a.iterations) slots a.p _ _ c.in_err-reached.ensures)

pub returns : goal.returns
unfolding run
returns c t flags slots l =
    let a = c.args in
    let few =
    visits_kept c.link.new.vs a.draws.now c.in_ok-reached.reached a.p.visits
    (run_link a.places.now (ends_of a.links.now) a.strengths.now a.distances.now a.iterations a.p.alpha (flow a.speeds.now (drop a.p.used a.draws.now)))
    c.in_ok-reached.ensures.is in
    pushed-stages a.places.now a.speeds.now c.link.new.vs a.draws.now flags l (omega (arith, c.requires.0.places, c.requires.0.speeds)) (omega (arith, c.requires.0.places, c.requires.0.speeds, c.link.auto.vs))
    t (link (ends_of a.links.now) a.strengths.now a.distances.now a.iterations) slots a.p _ _ c.ranged.result (omega (arith, few)) c.in_ok-reached.ensures c.ranged.ensures
