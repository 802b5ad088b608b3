-- `tick_on` is the rules' tick, with a home for held axes: alpha is tested, then the forces run, then the closing move.
use Rattle.std.proofs.Common.{ap, sym, ◌∙◌, length, Bool}
use Rattle.std.proofs.lemmas.Result.{err_from_is_err_and}
use Rattle.rules.specs.Number.{within}
use Rattle.rules.specs.Outcome.{require, result_of}
use Rattle.rules.specs.Refusal.{alpha_check}
use Rattle.rules.specs.Calls.{slots_of}
use Rattle.rules.specs.Tick.{entries_of, forces_from, next_alpha}
use Rattle.rules.proofs.OutcomeLaws.{ok_fine, err_refused}
use Rattle.tick_columns.specs.Stage.{columns}
use Rattle.tick.proofs.Ticking.{hot_tick, stopped_tick, cool_tick}
use Rattle.tick.proofs.tick_on.Goals as goal

pub returns-in_err-require : goal.returns-in_err-require
returns-in_err-require c =
    let a = c.args in
    let k = columns a.places.now a.speeds.now a.flags.now in
    let fs = forces_from (length a.flags.now) (entries_of a.words.now) a.numbers.now a.links.now in
    let tested = ap (λ (b : Bool). result_of (require b 9 0)) (c.within.ensures ∙ ap within c.next_alpha.ensures) in
    let e = err_from_is_err_and c.from_residual.result c.from_residual.ensures.1 in
    rw (e.1, e.2)
    (hot_tick a.turn.settings a.home.now fs (slots_of a.work.now) k a.draws.now a.turn.progress _ k _
    (err_refused (alpha_check (next_alpha a.turn.settings a.turn.progress.alpha)) _ (sym (c.require.ensures ∙ tested) ∙ c.in_err-require.was)))

pub returns-in_err-reached : goal.returns-in_err-reached
returns-in_err-reached c =
    let a = c.args in
    let k = columns a.places.now a.speeds.now a.flags.now in
    let fs = forces_from (length a.flags.now) (entries_of a.words.now) a.numbers.now a.links.now in
    let tested = ap (λ (b : Bool). result_of (require b 9 0)) (c.within.ensures ∙ ap within c.next_alpha.ensures) in
    let e = err_from_is_err_and c.from_residual-in_err-reached.result c.from_residual-in_err-reached.ensures.1 in
    rw (e.1, e.2)
    (stopped_tick a.turn.settings a.home.now fs (slots_of a.work.now) k a.draws.now a.turn.progress _
    (ok_fine (alpha_check (next_alpha a.turn.settings a.turn.progress.alpha)) _ (sym (c.require.ensures ∙ tested) ∙ c.in_ok-require.was))
    (columns c.run_forces.new.places c.run_forces.new.speeds a.flags.now) _ (rw c.next_alpha.ensures at c.in_err-reached.ensures))

pub returns : goal.returns
returns c =
    let a = c.args in
    let k = columns a.places.now a.speeds.now a.flags.now in
    let to = columns c.close.new.places c.close.new.speeds a.flags.now in
    let fs = forces_from (length a.flags.now) (entries_of a.words.now) a.numbers.now a.links.now in
    let tested = ap (λ (b : Bool). result_of (require b 9 0)) (c.within.ensures ∙ ap within c.next_alpha.ensures) in
    cool_tick a.turn.settings a.home.now fs (slots_of a.work.now) k a.draws.now a.turn.progress _
    (ok_fine (alpha_check (next_alpha a.turn.settings a.turn.progress.alpha)) _ (sym (c.require.ensures ∙ tested) ∙ c.in_ok-require.was)) to c.close.result
    (rw c.next_alpha.ensures at (c.close.ensures a.draws.now _ _ _ c.in_ok-reached.ensures))
