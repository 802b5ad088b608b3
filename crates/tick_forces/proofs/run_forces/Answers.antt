-- `run_forces` is the rules' stages of the eight force slots, one after the other.
use Rattle.std.proofs.Common.{refl, ◌∙◌, arith}
use Rattle.std.proofs.lemmas.Result.{err_from_is_err_and}
use native.Mathlib.Nat.{lt_of_le_of_lt}
use Rattle.rules.specs.Calls.{slots_of}
use Rattle.tick_forces.proofs.EntriesLeft.{entry_left, entries_done, going_first, going_slot, going_numbers, going_links, going_stop, going_on, going_end}
use Rattle.tick_forces.proofs.run_forces.Goals as goal

pub loop-e-init : goal.loop-e-init
loop-e-init c = going_first c.args.t (slots_of c.args.work.now) (rw c.entries-entries.ensures c.requires.fits) c.requires.columns_fit.0

pub stage-requires : goal.stage-requires
stage-requires c =
    let g = c.loop-e.invariant in (
      g.lent,
      record { links = c.loop-e.auto.next ∙ c.requires.columns_fit.1.links; tails = c.loop-e.auto.tail ∙ c.requires.columns_fit.1.tails },
      going_slot g (entry_left _ _ _ _ c.entries-entries.ensures c.loop-e-test.true),
      omega (arith, g.few, c.requires.columns_fit.2),
    )

pub returns-in_err-at : goal.returns-in_err-at
returns-in_err-at c =
    let e = err_from_is_err_and c.from_residual.result c.from_residual.ensures.1 in
    rw (e.1, e.2)
    (rw c.entries-entries.ensures at (going_stop c.loop-e.invariant (entry_left _ _ _ _ c.entries-entries.ensures c.loop-e-test.true) (rw c.loop-e.auto.work at c.in_err-at.ensures)))

pub numbers_needed-requires : goal.numbers_needed-requires
numbers_needed-requires c = lt_of_le_of_lt (going_numbers c.loop-e.invariant (entry_left _ _ _ _ c.entries-entries.ensures c.loop-e-test.true) refl).1 (omega arith)

pub split_at-requires : goal.split_at-requires
split_at-requires c = (going_numbers c.loop-e.invariant (entry_left _ _ _ _ c.entries-entries.ensures c.loop-e-test.true) c.numbers_needed.ensures).0

pub overflow_mul-links_needed : goal.overflow_mul-links_needed
overflow_mul-links_needed c = omega (arith, (going_links c.loop-e.invariant (entry_left _ _ _ _ c.entries-entries.ensures c.loop-e-test.true) c.links_needed.ensures).1)

pub split_at-requires-in-loop-e : goal.split_at-requires-in-loop-e
split_at-requires-in-loop-e c = (going_links c.loop-e.invariant (entry_left _ _ _ _ c.entries-entries.ensures c.loop-e-test.true) c.links_needed.ensures).0

pub loop-e-preserved : goal.loop-e-preserved
loop-e-preserved c =
    let l = c.loop-e in
    let kept = c.stage.auto in
    rw (c.split_at.ensures.back, c.split_at-in-loop-e.ensures.back, c.numbers_needed.ensures, c.links_needed.ensures)
    (going_on l.invariant (entry_left _ _ _ _ c.entries-entries.ensures c.loop-e-test.true) (rw l.auto.work at c.in_ok-at.ensures) kept.places kept.speeds)

pub returns : goal.returns
returns c = rw c.entries-entries.ensures at (going_end c.loop-e.invariant (entries_done _ _ _ c.entries-entries.ensures c.loop-e-test.false) (omega arith))
