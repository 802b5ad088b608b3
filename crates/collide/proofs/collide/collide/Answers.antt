-- How the force ends, with the draws and the visits that it came to.
use Rattle.force.proofs.Stages.{ran_ended_late}
use Rattle.collide.proofs.collide.collide.Goals as goal

pub returns-clause-is : goal.returns-clause-is
returns-clause-is c =
    let begun = c.new-draws.ensures in
    let end = c.run-end.ensures in
    let is = rw (begun.lent, begun.used) at end.is in
    rw c.ended.ensures (ran_ended_late _ _ _ _ _ begun.lent begun.used end.further _ _ end.late is)
