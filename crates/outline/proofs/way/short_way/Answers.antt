-- `short_way` takes the short step, and no number on the way is too large for the machine.
use Rattle.std.proofs.Common.{ap, ◌∙◌, ◌≡◌, arith, pos, ◌-ℤ◌, ◌+ℤ◌, ℤ}
use Rattle.std.proofs.lemmas.Int.{ints}
use Rattle.rules.specs.Outline.{half_turn, mod_turn, short_step, short_way}
use Rattle.rules.proofs.Outline.{longitude_size}
use Rattle.outline.proofs.Steps.{rem_is}
use Rattle.outline.proofs.way.short_way.Goals as goal

pub overflow_sub-corner : goal.overflow_sub-corner
overflow_sub-corner c = omega (arith, ints, longitude_size c.args.corner c.requires.1)

pub overflow_add-corner : goal.overflow_add-corner
overflow_add-corner c = omega (arith, ints, longitude_size c.args.corner c.requires.1)

pub returns : goal.returns
unfolding short_step short_way
returns c =
    let e : c.rem_euclid-past.result ≡ pos (mod_turn (c.args.corner -ℤ c.args.from +ℤ pos half_turn)) =
    c.rem_euclid-past.ensures.value ∙ rem_is _ ∙ ap (λ (z : ℤ). pos (mod_turn z)) (omega (arith, ints, longitude_size c.args.corner c.requires.1)) in
    omega (arith, ints, e)
