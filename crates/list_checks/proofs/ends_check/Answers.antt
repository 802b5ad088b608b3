-- `ends_check`: an Err stays, and after an Ok the next link decides.
use Rattle.std.proofs.Common.{Bool, ap, ◌∙◌}
use Rattle.std.proofs.lemmas.Result.{err_from_is_err_and}
use Rattle.rules.specs.Outcome.{require, result_of}
use Rattle.rules.specs.Force.{ends_range}
use Rattle.list_checks.specs.Checks.{ends_at}
use Rattle.list_checks.proofs.Scans.{scan_ends, scan_goes_on, ends_left, ends-left}
use Rattle.list_checks.proofs.ends_check.Goals as goal

pub returns-in_err-require : goal.returns-in_err-require
returns-in_err-require c =
    let l = c.args.links.now in
    let k = c.loop-k.k in
    let tested = c.require.ensures ∙ ap (λ (b : Bool). result_of (require b 3 k)) c.ends_range-within.ensures in
    let p = err_from_is_err_and c.from_residual.result c.from_residual.ensures.1 in
    rw (p.1, p.2) (scan_ends (λ i a. require (ends_range c.args.n a) 3 i) (ends_left l) k (ends_at l k) (ends-left l k c.loop-k-test.true) tested c.in_err-require.was ∙ ap result_of c.loop-k.invariant)

pub loop-k-preserved : goal.loop-k-preserved
loop-k-preserved c =
    let l = c.args.links.now in
    let k = c.loop-k.k in
    let tested = c.require.ensures ∙ ap (λ (b : Bool). result_of (require b 3 k)) c.ends_range-within.ensures in
    scan_goes_on (λ i a. require (ends_range c.args.n a) 3 i) (ends_left l) k (ends_at l k) (ends-left l k c.loop-k-test.true) tested c.in_ok-require.was ∙ c.loop-k.invariant
