-- `records_check` answers the first bad record's refusal: an Err stays, and after an Ok the records from the next one on decide.
use Rattle.std.proofs.Common.{◌/◌, length, arith, ap, sym, ◌∙◌}
use Rattle.std.proofs.lemmas.Result.{err_from_is_err_and}
use Rattle.rules.specs.Outcome.{result_of}
use Rattle.rules.specs.Sheet.{record_size, records_check, particles_of}
use Rattle.sheet.proofs.Turns.{check_bad, check_on, check_none}
use Rattle.sheet.proofs.check.records_check.Goals as goal

pub returns-in_err-record_check : goal.returns-in_err-record_check
unfolding records_check particles_of
returns-in_err-record_check c =
    let s = c.args.s.now in
    let bad = check_bad s c.loop-i.i (length s / record_size) (omega arith) c.record_at.ensures c.record_check.ensures c.in_err-record_check.was in
    let p = err_from_is_err_and c.from_residual.result c.from_residual.ensures.1 in
    rw (p.1, p.2) (bad ∙ ap result_of c.loop-i.invariant)

pub loop-i-preserved : goal.loop-i-preserved
loop-i-preserved c =
    let s = c.args.s.now in
    check_on s c.loop-i.i (length s / record_size) (omega arith) c.record_at.ensures c.record_check.ensures c.in_ok-record_check.was ∙ c.loop-i.invariant

pub returns : goal.returns
unfolding records_check particles_of
returns c =
    let s = c.args.s.now in
    ap result_of (sym (check_none s c.loop-i.i (length s / record_size) (omega arith)) ∙ c.loop-i.invariant)
