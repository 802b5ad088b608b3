-- The charges are laid in the slots, then every particle is pulled; few nodes are handed out.
use Rattle.std.proofs.Common.{length, arith}
use Rattle.force.proofs.Stages.{ran_ended, ended_few}
use Rattle.many_body.proofs.ManyBodyRun.{all_fit}
use Rattle.many_body.proofs.many_body.many_body_on.Goals as goal

pub pull_all-end-requires-clause-bodies : goal.pull_all-end-requires-clause-bodies
pull_all-end-requires-clause-bodies c =
    let b = c.requires.bodies in
    (b.0, omega (arith, all_fit c.args.at.now (length c.args.strengths.now) c.requires.stands b.0.few, b.2))

pub returns-clause-runs : goal.returns-clause-runs
returns-clause-runs c =
    let e = c.new-draws.ensures in
    let r = c.pull_all-end in
    rw c.ended.ensures
    (ran_ended r.new.vs c.args.draws.now c.args.p c.new-draws.result r.new.draws e.lent e.used r.ensures.further r.new.visits r.result r.ensures.dry (rw (e.lent, e.used) at r.ensures.is))

pub returns-clause-count : goal.returns-clause-count
returns-clause-count c =
    let r = c.pull_all-end in
    rw c.ended.ensures
    (ended_few r.result c.args.p r.new.draws r.new.visits (omega (arith, r.ensures.count, all_fit c.args.at.now (length c.args.strengths.now) c.requires.stands c.requires.bodies.0.few)))
