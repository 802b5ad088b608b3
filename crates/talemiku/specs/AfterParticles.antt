-- How a call on a lent list of particles ended. Definitions only.
use Rattle.std.specs.Prelude.{◌≡◌, List}
use Rattle.rules.specs.declared.Particle.{Particle}
use Rattle.rules.specs.declared.Refusal.{Refusal}
use Rattle.rules.specs.Outcome.{Outcome}
use Rattle.rules.specs.Calls.{particles_answer, particles_after}

-- The call on the particles ps answered r for the outcome o, and left the particles `after`.
pub record AfterParticles (o : Outcome (List Particle)) (ps : List Particle) (r : Refusal) (after : List Particle) : Type 0 where
  pub answer : r ≡ particles_answer o
  pub particles : after ≡ particles_after o ps
