-- `input_check`: the first half that refuses is answered, and the last one decides.
use Rattle.std.proofs.Common.{◌≡◌, Bool, [], ap, sym, ◌∙◌}
use Rattle.std.proofs.lemmas.Result.{err_from_is_err_and}
use Rattle.rules.specs.Outcome.{result_of}
use Rattle.rules.specs.Refusal.{lengths_check}
use Rattle.rules.specs.Tick.{tick_lengths}
use Rattle.tick_checks.specs.Input.{lent_sheet}
use Rattle.tick_checks.proofs.Whole.{sizes_refused, lengths_refused, contents-decide}
use Rattle.tick_checks.proofs.check.input_check.Goals as goal

pub returns-in_err-sizes_check : goal.returns-in_err-sizes_check
returns-in_err-sizes_check c =
    let p = err_from_is_err_and c.from_residual.result c.from_residual.ensures.1 in
    let l = lent_sheet c.args.sheet.now 0 c.args.words.now c.args.numbers.now c.args.links.now c.args.draws.now [] in
    rw (p.1, p.2) (sizes_refused l c.args.ticks _ (sym c.sizes_check.ensures ∙ c.in_err-sizes_check.was))

pub returns-in_err-lengths_check : goal.returns-in_err-lengths_check
returns-in_err-lengths_check c =
    let p = err_from_is_err_and c.from_residual-in_err-lengths_check.result c.from_residual-in_err-lengths_check.ensures.1 in
    let l = lent_sheet c.args.sheet.now 0 c.args.words.now c.args.numbers.now c.args.links.now c.args.draws.now [] in
    let agree : c.lengths_agree-agree.result ≡ tick_lengths l = rw c.entries.ensures at c.lengths_agree-agree.ensures in
    let answered = c.lengths_check.ensures ∙ ap (λ (b : Bool). result_of (lengths_check b)) agree in
    rw (p.1, p.2) (lengths_refused l c.args.ticks _ (sym c.sizes_check.ensures ∙ c.in_ok-sizes_check.was) _ (sym answered ∙ c.in_err-lengths_check.was))

pub returns : goal.returns
returns c =
    let l = lent_sheet c.args.sheet.now 0 c.args.words.now c.args.numbers.now c.args.links.now c.args.draws.now [] in
    let agree : c.lengths_agree-agree.result ≡ tick_lengths l = rw c.entries.ensures at c.lengths_agree-agree.ensures in
    let answered = c.lengths_check.ensures ∙ ap (λ (b : Bool). result_of (lengths_check b)) agree in
    c.contents_check.ensures
    ∙ ap result_of (sym (contents-decide l c.args.ticks _ (sym c.sizes_check.ensures ∙ c.in_ok-sizes_check.was) _ (sym answered ∙ c.in_ok-lengths_check.was)))
