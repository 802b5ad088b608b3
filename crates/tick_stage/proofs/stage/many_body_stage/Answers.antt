-- `many_body_stage` is the rules' stage of ManyBody.
use Rattle.std.proofs.Common.{arith}
use Rattle.std.proofs.lemmas.Result.{err_from_is_err_and}
use Rattle.rules.specs.Calls.{slots_of}
use Rattle.rules.specs.Force.{many_body, run}
use Rattle.tick_columns.proofs.Staged.{pushed-refused, pushed-stages}
use Rattle.tick_stage.proofs.EntryLists.{can_build}
use Rattle.tick_stage.proofs.stage.many_body_stage.Goals as goal

pub many_body-requires-clause-lent : goal.many_body-requires-clause-lent
many_body-requires-clause-lent c = can_build c.requires.0 c.requires.1

pub returns-in_err-reached : goal.returns-in_err-reached
unfolding run
returns-in_err-reached c flags l =
    let a = c.args in
    let e = err_from_is_err_and c.from_residual.result c.from_residual.ensures.1 in
    rw (e.1, e.2)
    (pushed-refused a.places.now a.speeds.now c.many_body.new.vs a.draws.now flags l (omega (arith, c.requires.0.places, c.requires.0.speeds)) (omega (arith, c.requires.0.places, c.requires.0.speeds, c.many_body.auto.vs))
    a.t (many_body a.strengths.now) (slots_of a.work.now) a.p _ _ c.in_err-reached.ensures.runs)

pub returns : goal.returns
unfolding run
returns c flags l =
    let a = c.args in
    pushed-stages a.places.now a.speeds.now c.many_body.new.vs a.draws.now flags l (omega (arith, c.requires.0.places, c.requires.0.speeds)) (omega (arith, c.requires.0.places, c.requires.0.speeds, c.many_body.auto.vs))
    a.t (many_body a.strengths.now) (slots_of a.work.now) a.p _ _ c.ranged.result (omega (arith, c.in_ok-reached.ensures.count)) c.in_ok-reached.ensures.runs c.ranged.ensures
