-- What the loop of `step_on` keeps: what the ticks before left decides what all of the budget do.
use Rattle.std.proofs.Common.{length}
use Rattle.rules.specs.Calls.{slots_of}
use Rattle.rules.specs.Tick.{entries_of, forces_from, ticks_from}
use Rattle.tick_columns.specs.Stage.{columns, state_of}
use Rattle.step.specs.Step.{start}
use Rattle.step.proofs.Stepping.{Running}
use Rattle.step.proofs.step_on.Given as goal

abbrev pub invariant-loop-ticks : goal.invariant-loop-ticks
invariant-loop-ticks l =
    let fs = forces_from (length l.flags) (entries_of l.words) l.numbers l.links in
    Running l.plan.settings l.plan.alpha_min fs (slots_of l.fn.work) l.plan.budget (length l.flags) l.draws
    (ticks_from l.plan.settings l.plan.alpha_min fs (slots_of l.fn.work) l.plan.budget 0 (state_of (columns l.fn.places l.fn.speeds l.flags) l.draws (start l.plan.alpha)))
    l.ticks (columns l.places l.speeds l.flags) l.p
