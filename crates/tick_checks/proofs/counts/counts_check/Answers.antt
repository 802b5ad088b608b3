-- `counts_check`: an Err stays, and after an Ok the next entry decides.
use Rattle.std.proofs.Common.{drop, ap, sym, ◌∙◌}
use Rattle.std.proofs.lemmas.Result.{err_from_is_err_and}
use lib.ListN.{drop_of_length-le}
use Rattle.rules.specs.Outcome.{result_of, check_from}
use Rattle.rules.specs.Tick.{entry_counts}
use Rattle.list_checks.proofs.Scans.{scan_ends, scan_goes_on, list_left}
use Rattle.tick_checks.proofs.counts.counts_check.Goals as goal

pub returns-in_err-entry_counts : goal.returns-in_err-entry_counts
returns-in_err-entry_counts c =
    let l = c.args.entries.now in
    let i = c.loop-e.e-index in
    let p = err_from_is_err_and c.from_residual.result c.from_residual.ensures.1 in
    rw (p.1, p.2) (scan_ends (λ _ e. entry_counts e) (λ i. drop i l) i _ (list_left l i _ c.loop-e-test.true) c.entry_counts.ensures c.in_err-entry_counts.was ∙ ap result_of c.loop-e.invariant)

pub loop-e-preserved : goal.loop-e-preserved
loop-e-preserved c =
    let l = c.args.entries.now in
    let i = c.loop-e.e-index in
    scan_goes_on (λ _ e. entry_counts e) (λ i. drop i l) i _ (list_left l i _ c.loop-e-test.true) c.entry_counts.ensures c.in_ok-entry_counts.was ∙ c.loop-e.invariant

pub returns : goal.returns
returns c =
    let l = c.args.entries.now in
    let i = c.loop-e.e-index in
    ap result_of (ap (check_from (λ _ e. entry_counts e) i) (sym (drop_of_length-le l {i = i} c.loop-e-test.false)) ∙ c.loop-e.invariant)
