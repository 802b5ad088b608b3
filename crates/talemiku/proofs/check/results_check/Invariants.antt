-- What the loop of `results_check` keeps, for every function that the closure is: the particles that are left decide what all do.
use Rattle.std.proofs.Common.{◌≡◌}
use lib.ListN.{drop}
use Rattle.rules.specs.declared.Particle.{Particle}
use Rattle.rules.specs.Outcome.{check_from}
use Rattle.talemiku.specs.Pass.{result_of}
use Rattle.talemiku.proofs.check.results_check.Given as goal

abbrev pub invariant-loop-p : goal.invariant-loop-p
invariant-loop-p t l =
    (g : Particle → Particle) → ((p q : Particle) → goal.F-post t l.changed p q → q ≡ g p)
    → check_from (λ _ p. result_of (g p)) l.p-index (drop l.p-index l.particles) ≡ check_from (λ _ p. result_of (g p)) 0 l.particles
