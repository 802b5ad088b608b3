-- `step_on` is the rules' ticks of a step, and puts back what a refused tick changed.
use Rattle.std.proofs.Common.{refl, sym, ◌∙◌, arith}
use Rattle.step.proofs.Keeping.{first_part, second_part}
use Rattle.step.proofs.Stepping.{running_end, running_low, running_stop, running_on}
use Rattle.step.proofs.step_on.Goals as goal

pub returns-then-not-plan-p : goal.returns-then-not-plan-p
returns-then-not-plan-p c = running_low c.loop-ticks.invariant c.loop-ticks-test.true _ tt refl c.if-not-plan-p.true

pub returns-in-Err : goal.returns-in-Err
returns-in-Err c =
    let l = c.loop-ticks in
    let kept = c.keep.ensures in
    let auto = c.tick_on.auto in
    running_stop l.invariant c.loop-ticks-test.true c.if-not-plan-p.false (first_part _ _ kept l.auto.places) l.invariant.lent.places (rw l.auto.work at c.in-Err.ensures)
    (c.put_back.ensures.0 ∙ first_part _ _ kept (sym auto.places)) (c.put_back.ensures.1 ∙ second_part _ _ kept (sym auto.places) (sym auto.speeds))

pub loop-ticks-preserved : goal.loop-ticks-preserved
loop-ticks-preserved c =
    let l = c.loop-ticks in
    let auto = c.tick_on.auto in
    running_on l.invariant c.loop-ticks-test.true c.if-not-plan-p.false (first_part _ _ c.keep.ensures l.auto.places) l.invariant.lent.places (rw l.auto.work at c.in-Ok.ensures)
    refl auto.places auto.speeds

pub returns : goal.returns
returns c = running_end c.loop-ticks.invariant (omega (arith, c.loop-ticks-test.false, c.loop-ticks.auto.ticks-end))
