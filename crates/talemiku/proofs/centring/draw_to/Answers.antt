-- `draw_to` answers and leaves what the rules say of Center.
use mathlib.Core.Path.{◌≡◌, sym, ap, ◌∙◌}
use mathlib.Core.List.{[], ◌∷◌, map}
use borrow.Author.Rules.{rules}
use lib.ListN.{length}
use Rattle.std.proofs.lemmas.Result.{err_from_is_err_and}
use Rattle.rules.specs.Outcome.{◌then◌}
use Rattle.rules.specs.Refusal.{most_particles, count_check, settings_check}
use Rattle.rules.specs.Sheet.{records_check}
use Rattle.rules.specs.Particle.{shifted, centered}
use Rattle.rules.proofs.OutcomeLaws.{ok_fine, err_refused}
use Rattle.talemiku.proofs.Passes.{shift, shift_is, centered_each}
use Rattle.center.specs.declared.Pair.{Pair}
use Rattle.talemiku.proofs.Outcomes.{stops-input, stops-settings, changes}
use Rattle.talemiku.proofs.centring.draw_to.Goals as goal

pub returns-in_err-particles_check : goal.returns-in_err-particles_check
returns-in_err-particles_check c =
    let a = c.args in
    let ps = a.particles.now in
    let t = shift a.x a.y a.strength ps in
    let p = err_from_is_err_and c.from_residual.result c.from_residual.ensures.1 in
    let e = err_refused (count_check most_particles (length ps) then records_check ps) _ (sym c.particles_check.ensures ∙ c.in_err-particles_check.was) in
    rw (p.1, p.2) (stops-input (a.x ∷ a.y ∷ a.strength ∷ []) (centered a.x a.y a.strength) ps (shifted t.x t.y) (centered_each a.x a.y a.strength ps) _ e)

pub returns-in_err-settings_check : goal.returns-in_err-settings_check
returns-in_err-settings_check c =
    let a = c.args in
    let ps = a.particles.now in
    let t = shift a.x a.y a.strength ps in
    let q = c.from_residual-in_err-settings_check in
    let p = err_from_is_err_and q.result q.ensures.1 in
    let input = ok_fine (count_check most_particles (length ps) then records_check ps) _ (sym c.particles_check.ensures ∙ c.in_ok-particles_check.was) in
    let e = err_refused (settings_check (a.x ∷ a.y ∷ a.strength ∷ [])) _ (sym c.settings_check.ensures ∙ c.in_err-settings_check.was) in
    rw (p.1, p.2) (stops-settings (a.x ∷ a.y ∷ a.strength ∷ []) (centered a.x a.y a.strength) ps (shifted t.x t.y) (centered_each a.x a.y a.strength ps) input _ e)

pub returns : goal.returns
returns c =
    let a = c.args in
    let ps = a.particles.now in
    let t = c.offsets-shift.result in
    let is = c.offsets-shift.ensures ∙ shift_is a.x a.y a.strength ps c.summed.result c.summed.ensures in
    let each : centered a.x a.y a.strength ps ≡ map (shifted t.x t.y) ps = centered_each a.x a.y a.strength ps ∙ ap (λ (s : Pair). map (shifted s.x s.y) ps) (sym is) in
    let input = ok_fine (count_check most_particles (length ps) then records_check ps) _ (sym c.particles_check.ensures ∙ c.in_ok-particles_check.was) in
    let set = ok_fine (settings_check (a.x ∷ a.y ∷ a.strength ∷ [])) _ (sym c.settings_check.ensures ∙ c.in_ok-settings_check.was) in
    let m = c.change_tested.ensures (shifted t.x t.y) (λ p q k. search rules) in
    changes (a.x ∷ a.y ∷ a.strength ∷ []) (centered a.x a.y a.strength) ps (shifted t.x t.y) each input set _ _ m.0 m.1
