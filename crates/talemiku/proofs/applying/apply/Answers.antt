-- `apply` answers and leaves what the rules say of the closing move.
use mathlib.Core.Path.{sym, ◌∙◌}
use mathlib.Core.List.{[], ◌∷◌}
use borrow.Author.Rules.{rules}
use lib.ListN.{length}
use Rattle.std.proofs.lemmas.Result.{err_from_is_err_and}
use Rattle.rules.specs.Outcome.{◌then◌}
use Rattle.rules.specs.Refusal.{most_particles, count_check, settings_check}
use Rattle.rules.specs.Sheet.{places_of, records_check}
use Rattle.rules.specs.Particle.{closing}
use Rattle.rules.proofs.OutcomeLaws.{ok_fine, err_refused}
use Rattle.list_checks.proofs.Checks.{then_both}
use Rattle.talemiku.specs.Pass.{moved_alone}
use Rattle.talemiku.proofs.Passes.{closing_each}
use Rattle.talemiku.proofs.Outcomes.{stops, changes}
use Rattle.talemiku.proofs.applying.apply.Goals as goal

pub returns-in_err-input_check : goal.returns-in_err-input_check
returns-in_err-input_check c =
    let ps = c.args.particles.now in
    let decay = c.args.decay in
    let p = err_from_is_err_and c.from_residual.result c.from_residual.ensures.1 in
    let input = count_check most_particles (length ps) then records_check ps in
    let e = err_refused (input then settings_check (decay ∷ [])) _ (sym c.input_check.ensures ∙ c.in_err-input_check.was) in
    rw (p.1, p.2) (stops (decay ∷ []) (closing decay (places_of ps)) ps (moved_alone decay) (closing_each decay ps) _ e)

pub returns : goal.returns
returns c =
    let ps = c.args.particles.now in
    let decay = c.args.decay in
    let input = count_check most_particles (length ps) then records_check ps in
    let both = then_both input (settings_check (decay ∷ [])) (ok_fine (input then settings_check (decay ∷ [])) _ (sym c.input_check.ensures ∙ c.in_ok-input_check.was)) in
    let m = c.change_tested.ensures (moved_alone decay) (λ p q k. search rules) in
    changes (decay ∷ []) (closing decay (places_of ps)) ps (moved_alone decay) (closing_each decay ps) both.0 both.1 _ _ m.0 m.1
