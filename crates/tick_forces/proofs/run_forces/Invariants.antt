-- What the loop of `run_forces` keeps: what is left of the entries and their lists decides, with the columns as they are, what all do.
use Rattle.std.proofs.Common.{drop, length}
use Rattle.rules.specs.Outcome.{fold_stages}
use Rattle.rules.specs.Calls.{slots_of}
use Rattle.rules.specs.Tick.{forces_from, force_stage}
use Rattle.tick_columns.specs.Stage.{columns, state_of}
use Rattle.tick_forces.proofs.EntriesLeft.{Going}
use Rattle.tick_forces.proofs.run_forces.Given as goal

abbrev pub invariant-loop-e : goal.invariant-loop-e
invariant-loop-e l =
    Going (length l.flags) l.t (slots_of l.fn.work) l.draws l.fn.p
    (fold_stages (force_stage l.t (slots_of l.fn.work)) (state_of (columns l.fn.places l.fn.speeds l.flags) l.draws l.fn.p) (forces_from (length l.flags) l.e-items l.fn.numbers l.fn.links))
    l.e-index (drop l.e-index l.e-items) l.numbers l.links (columns l.places l.speeds l.flags) l.at
