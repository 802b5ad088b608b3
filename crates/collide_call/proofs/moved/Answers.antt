-- `moved`: past 4 and 5 Collide may run, and what it leaves is what the rules say.
use mathlib.Core.Path.{sym, ◌∙◌}
use Rattle.std.proofs.lemmas.Result.{IfOk-weaker}
use mathlib.Core.List.{[]}
use native.Mathlib.Omega.{arith}
use Rattle.rules.specs.Force.{collide, run}
use Rattle.rules.specs.Calls.{no_alpha, numbers_check}
use Rattle.rules.proofs.OutcomeLaws.{ok_fine}
use Rattle.force_call.specs.Calls.{lent}
use Rattle.force_call.proofs.Ranged.{places-within}
use Rattle.collide_call.proofs.moved.Goals as goal

pub collide-requires : goal.collide-requires
collide-requires c =
    let a = c.args in
    let r = c.requires.lent in
    let f = collide a.radii.now a.strength a.iterations in
    let past = ok_fine (numbers_check a.places.now a.speeds.now f a.draws.now no_alpha) _ (sym c.numbers_check.ensures ∙ c.in_ok-numbers_check.was) in
    rw c.begin-p.ensures (
      record { ranged = places-within (lent a.places.now [] 0 [] []) f a.speeds.now a.draws.now no_alpha past; few = omega arith; links = omega arith; tails = omega arith },
      record { places = r.0; speeds = omega arith; drawn = omega arith },
      r.2,
      omega arith,
    )

pub returns : goal.returns
unfolding run
returns c =
    let a = c.args in
    let f = collide a.radii.now a.strength a.iterations in
    let past = ok_fine (numbers_check a.places.now a.speeds.now f a.draws.now no_alpha) _ (sym c.numbers_check.ensures ∙ c.in_ok-numbers_check.was) in
    let m = rw c.begin-p.ensures at c.collide.ensures.is in (
      past,
      record {
        is = m.is;
        used = IfOk-weaker c.collide.result _ _ (λ q h. h.draws.reach) m.onward;
        late = m.late;
      },
    )
