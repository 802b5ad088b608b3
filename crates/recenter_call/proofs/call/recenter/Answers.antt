-- `recenter` answers for an input, kept or not.
use Rattle.std.proofs.Common.{sym, ◌∙◌}
use Rattle.std.proofs.lemmas.Result.{err_from_is_err_and}
use Rattle.rules.proofs.OutcomeLaws.{ok_fine, err_refused}
use Rattle.recenter_call.proofs.Inputs.{unchanged, whole, few, bad_input, many-input, kept-input, kept-past}
use Rattle.recenter_call.proofs.call.recenter.Goals as goal

pub returns-in_err-require : goal.returns-in_err-require
returns-in_err-require c = λ sheet n k.
    let p = err_from_is_err_and c.from_residual.result c.from_residual.ensures.1 in
    let bad = err_refused (whole c.args.total) _ (sym c.require.ensures ∙ c.in_err-require.was) in
    rw (p.1, p.2) (unchanged sheet _ _ _ (bad_input sheet _ n _ bad))

pub returns-in_err-require-2 : goal.returns-in_err-require-2
returns-in_err-require-2 c = λ sheet n k.
    let p = err_from_is_err_and c.from_residual-in_err-require-2.result c.from_residual-in_err-require-2.ensures.1 in
    let good = ok_fine (whole c.args.total) _ (sym c.require.ensures ∙ c.in_ok-require.was) in
    let many = err_refused (few c.args.total) _ (sym c.require-2.ensures ∙ c.in_err-require-2.was) in
    rw (p.1, p.2) (unchanged sheet _ _ _ (many-input sheet _ n _ good many))

pub recenter_records-requires : goal.recenter_records-requires
recenter_records-requires c =
    let good = ok_fine (whole c.args.total) _ (sym c.require.ensures ∙ c.in_ok-require.was) in
    let short = ok_fine (few c.args.total) _ (sym c.require-2.ensures ∙ c.in_ok-require-2.was) in
    kept-past c.args.kept.now c.args.total c.requires good short

pub returns : goal.returns
returns c = λ sheet n k.
    let good = ok_fine (whole c.args.total) _ (sym c.require.ensures ∙ c.in_ok-require.was) in
    let short = ok_fine (few c.args.total) _ (sym c.require-2.ensures ∙ c.in_ok-require-2.was) in
    rw (kept-input sheet c.args.ticks n good short _ k) c.recenter_records.ensures
