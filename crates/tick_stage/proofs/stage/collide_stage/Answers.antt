-- `collide_stage` is the rules' stage of Collide.
use Rattle.std.proofs.Common.{arith}
use Rattle.std.proofs.lemmas.Result.{err_from_is_err_and}
use Rattle.rules.specs.Calls.{slots_of}
use Rattle.rules.specs.Force.{collide, run}
use Rattle.tick_columns.proofs.Staged.{pushed-refused, pushed-stages}
use Rattle.tick_stage.proofs.EntryLists.{can_build}
use Rattle.tick_stage.proofs.stage.collide_stage.Goals as goal

pub collide-requires : goal.collide-requires
collide-requires c =
    let p = c.requires in
    (can_build p.0 p.1, record { places = p.0.places; speeds = p.0.speeds; drawn = p.0.drawn }, p.2, p.3)

pub returns-in_err-reached : goal.returns-in_err-reached
unfolding run
returns-in_err-reached c t flags l =
    let a = c.args in
    let e = err_from_is_err_and c.from_residual.result c.from_residual.ensures.1 in
    rw (e.1, e.2)
    (pushed-refused a.places.now a.speeds.now c.collide.new.vs a.draws.now flags l (omega (arith, c.requires.0.places, c.requires.0.speeds)) (omega (arith, c.requires.0.places, c.requires.0.speeds, c.collide.auto.vs))
    t (collide a.radii.now a.strength a.iterations) (slots_of a.work.now) a.p _ _ c.in_err-reached.ensures.is)

pub returns : goal.returns
unfolding run
returns c t flags l =
    let a = c.args in
    pushed-stages a.places.now a.speeds.now c.collide.new.vs a.draws.now flags l (omega (arith, c.requires.0.places, c.requires.0.speeds)) (omega (arith, c.requires.0.places, c.requires.0.speeds, c.collide.auto.vs))
    t (collide a.radii.now a.strength a.iterations) (slots_of a.work.now) a.p _ _ c.ranged.result c.in_ok-reached.ensures.few c.in_ok-reached.ensures.is c.ranged.ensures
