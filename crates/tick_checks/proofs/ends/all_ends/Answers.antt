-- `all_ends`: an Err stays, and after an Ok the next entry decides.
use Rattle.std.proofs.Common.{◌*◌, arith, ap, refl, ℕ}
use Rattle.std.proofs.lemmas.Result.{err_from_is_err_and}
use Rattle.list_checks.proofs.Scans.{list_left}
use Rattle.tick_checks.proofs.Entries.{sum_twice}
use Rattle.tick_checks.proofs.Parts.{walk_room, walk_stops, walk_goes_on, walk_end}
use Rattle.tick_checks.proofs.ends.all_ends.Goals as goal

pub loop-e-init : goal.loop-e-init
loop-e-init c = record { fits = omega (arith, sum_twice c.args.entries.now); short = omega arith; same = refl }

pub overflow_mul-links_needed : goal.overflow_mul-links_needed
overflow_mul-links_needed c =
    omega (arith, (walk_room c.loop-e.invariant (list_left c.args.entries.now c.loop-e.e-index _ c.loop-e-test.true) (ap (λ (k : ℕ). k * 2) c.links_needed.ensures)).1)

pub split_at-requires : goal.split_at-requires
split_at-requires c = (walk_room c.loop-e.invariant (list_left c.args.entries.now c.loop-e.e-index _ c.loop-e-test.true) (ap (λ (k : ℕ). k * 2) c.links_needed.ensures)).0

pub returns-in_err-ends_check : goal.returns-in_err-ends_check
returns-in_err-ends_check c =
    let p = err_from_is_err_and c.from_residual.result c.from_residual.ensures.1 in
    rw (p.1, p.2)
    (walk_stops c.loop-e.invariant (list_left c.args.entries.now c.loop-e.e-index _ c.loop-e-test.true) (ap (λ (k : ℕ). k * 2) c.links_needed.ensures)
    c.split_at.ensures.front c.split_at.ensures.back c.ends_check.ensures c.in_err-ends_check.was)

pub loop-e-preserved : goal.loop-e-preserved
loop-e-preserved c =
    walk_goes_on c.loop-e.invariant (list_left c.args.entries.now c.loop-e.e-index _ c.loop-e-test.true) (ap (λ (k : ℕ). k * 2) c.links_needed.ensures)
    c.split_at.ensures.front c.split_at.ensures.back c.ends_check.ensures c.in_ok-ends_check.was

pub returns : goal.returns
returns c = walk_end c.loop-e.invariant c.loop-e-test.false
