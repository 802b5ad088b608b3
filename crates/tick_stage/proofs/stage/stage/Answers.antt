-- `stage` is the rules' stage of one force slot.
use Rattle.std.proofs.Common.{length, arith}
use Rattle.rules.specs.Calls.{slots_of}
use Rattle.tick_columns.proofs.Staged.{idle-stages}
use Rattle.tick_stage.proofs.EntryLists.{many_body_of, collide_of, center_of, none_of}
use Rattle.tick_stage.proofs.stage.stage.Goals as goal

pub returns-in-ManyBody : goal.returns-in-ManyBody
returns-in-ManyBody c =
    let a = c.args in
    rw (many_body_of (length a.flags.now) a.e a.numbers.now a.links.now c.in-ManyBody.ensures) (c.many_body_stage.ensures a.flags.now c.requires.0.places)

pub returns-in-Collide : goal.returns-in-Collide
returns-in-Collide c =
    let a = c.args in
    rw (collide_of (length a.flags.now) a.e a.numbers.now a.links.now c.in-Collide.ensures) (c.collide_stage.ensures a.t a.flags.now c.requires.0.places)

pub returns-in-Center : goal.returns-in-Center
returns-in-Center c =
    let a = c.args in
    rw (center_of (length a.flags.now) a.e a.numbers.now a.links.now c.in-Center.ensures) (c.center_stage.ensures a.t a.flags.now (slots_of a.work.now) a.draws.now c.requires.0.drawn c.requires.0.places)

pub returns-in-Empty : goal.returns-in-Empty
returns-in-Empty c =
    let a = c.args in
    idle-stages a.places.now a.speeds.now a.draws.now a.flags.now _ a.p _ _ c.requires.0 (omega arith)
    (none_of (length a.flags.now) a.e a.numbers.now a.links.now c.from.result c.from.ensures c.in-Empty.is a.t (slots_of a.work.now) _)

pub returns-in-Link : goal.returns-in-Link
returns-in-Link c = c.link_force.ensures c.args.t c.args.flags.now (slots_of c.args.work.now) c.requires.0.places
