-- `pairs_check`: an Err stays, and after an Ok the next pair decides.
use Rattle.std.proofs.Common.{ap, sym, ◌∙◌, length, ◌/◌, ◌-◌}
use Rattle.std.proofs.lemmas.Result.{err_from_is_err_and}
use Rattle.rules.specs.Plain.{count_from}
use Rattle.rules.specs.Number.{x_at, y_at}
use Rattle.rules.specs.Outcome.{result_of, check_from}
use Rattle.list_checks.proofs.Scans.{scan_ends, scan_goes_on, count_left, count_none}
use Rattle.list_checks.proofs.pairs_check.Goals as goal

pub returns-in_err-check : goal.returns-in_err-check
returns-in_err-check g c = λ ck fits.
    let l = c.args.l.now in
    let i = c.loop-i.i in
    let n = length l / 2 in
    let answered = fits i (x_at l i) (y_at l i) c.check.result c.check.ensures in
    let p = err_from_is_err_and c.from_residual.result c.from_residual.ensures.1 in
    rw (p.1, p.2) (scan_ends (λ i _. ck i (x_at l i) (y_at l i)) (λ i. count_from i (n - i)) i i (count_left n i c.loop-i-test.true) answered c.in_err-check.was ∙ ap result_of (c.loop-i.invariant ck fits))

pub loop-i-preserved : goal.loop-i-preserved
loop-i-preserved g c = λ ck fits.
    let l = c.args.l.now in
    let i = c.loop-i.i in
    let n = length l / 2 in
    let answered = fits i (x_at l i) (y_at l i) c.check.result c.check.ensures in
    scan_goes_on (λ i _. ck i (x_at l i) (y_at l i)) (λ i. count_from i (n - i)) i i (count_left n i c.loop-i-test.true) answered c.in_ok-check.was ∙ c.loop-i.invariant ck fits

pub returns : goal.returns
returns g c = λ ck fits.
    let l = c.args.l.now in
    let i = c.loop-i.i in
    ap result_of (ap (check_from (λ i _. ck i (x_at l i) (y_at l i)) i) (sym (count_none (length l / 2) i c.loop-i-test.false)) ∙ c.loop-i.invariant ck fits)
