-- `settle` writes the velocities where the force stands, and clears the work slots.
use Rattle.std.proofs.Common.{refl, sym, ◌∙◌}
use Rattle.force_call.proofs.Called.{settled_refused, settled_done}
use Rattle.force_call.proofs.settle.Goals as goal

pub returns-in-Err : goal.returns-in-Err
returns-in-Err c =
    let a = c.args in
    settled_refused _ a.speeds.now a.start a.buffer.now a.work.now c.refused.result a.buffer.now c.clear.new.m c.clear.ensures
    c.in-Err.refusal (sym c.stands.ensures ∙ c.in-Err.is) c.refused.ensures refl

pub returns-in-Ok : goal.returns-in-Ok
returns-in-Ok c =
    let a = c.args in
    settled_done _ a.speeds.now a.start a.buffer.now a.work.now c.counted.result c.write_pairs.new.s c.clear.new.m c.clear.ensures
    c.in-Ok.p (sym c.stands.ensures ∙ c.in-Ok.is) c.counted.ensures c.write_pairs.ensures c.requires.0 c.requires.1
