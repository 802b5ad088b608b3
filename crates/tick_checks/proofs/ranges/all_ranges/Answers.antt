-- `all_ranges`: an Err stays, and after an Ok the next entry decides.
use Rattle.std.proofs.Common.{arith, refl}
use Rattle.std.proofs.lemmas.Result.{err_from_is_err_and}
use native.Mathlib.Nat.{lt_of_le_of_lt}
use Rattle.list_checks.proofs.Scans.{list_left}
use Rattle.tick_checks.proofs.Parts.{walk_room, walk_stops, walk_goes_on, walk_end}
use Rattle.tick_checks.proofs.ranges.all_ranges.Goals as goal

pub loop-e-init : goal.loop-e-init
loop-e-init c = record { fits = c.requires; short = omega arith; same = refl }

pub numbers_needed-requires : goal.numbers_needed-requires
numbers_needed-requires c = lt_of_le_of_lt (walk_room c.loop-e.invariant (list_left c.args.entries.now c.loop-e.e-index _ c.loop-e-test.true) refl).1 (omega arith)

pub split_at-requires : goal.split_at-requires
split_at-requires c = (walk_room c.loop-e.invariant (list_left c.args.entries.now c.loop-e.e-index _ c.loop-e-test.true) c.numbers_needed.ensures).0

pub entry_ranges-requires : goal.entry_ranges-requires
entry_ranges-requires c = λ z. omega (arith, c.split_at.ensures.front_len, rw z at c.numbers_needed.ensures)

pub returns-in_err-entry_ranges : goal.returns-in_err-entry_ranges
returns-in_err-entry_ranges c =
    let p = err_from_is_err_and c.from_residual.result c.from_residual.ensures.1 in
    rw (p.1, p.2)
    (walk_stops c.loop-e.invariant (list_left c.args.entries.now c.loop-e.e-index _ c.loop-e-test.true) c.numbers_needed.ensures
    c.split_at.ensures.front c.split_at.ensures.back c.entry_ranges.ensures c.in_err-entry_ranges.was)

pub loop-e-preserved : goal.loop-e-preserved
loop-e-preserved c =
    walk_goes_on c.loop-e.invariant (list_left c.args.entries.now c.loop-e.e-index _ c.loop-e-test.true) c.numbers_needed.ensures
    c.split_at.ensures.front c.split_at.ensures.back c.entry_ranges.ensures c.in_ok-entry_ranges.was

pub returns : goal.returns
returns c = walk_end c.loop-e.invariant c.loop-e-test.false
