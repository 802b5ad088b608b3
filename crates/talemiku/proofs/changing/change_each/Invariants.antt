-- What the loop of `change_each` keeps, for every function that the closure is: the particles so far are changed, and those that are left are still to be.
use Rattle.std.proofs.Common.{◌≡◌, ◌++◌, map, take, drop}
use Rattle.rules.specs.declared.Particle.{Particle}
use Rattle.talemiku.proofs.changing.change_each.Given as goal

abbrev pub invariant-loop-p : goal.invariant-loop-p
invariant-loop-p t l =
    (g : Particle → Particle) → ((p q : Particle) → goal.F-post t l.changed p q → q ≡ g p)
    → map g l.fn.particles ≡ take l.p-index l.particles ++ map g (drop l.p-index l.particles)
