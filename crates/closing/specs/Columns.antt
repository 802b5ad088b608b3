-- Particles by columns: places and speeds in pairs, and flags. Definitions only.
use Rattle.std.specs.Prelude.{List, map, ℕ, length, get_or, Float}
use Rattle.rules.specs.declared.Particle.{Particle}
use Rattle.rules.specs.Plain.{up_to}
use Rattle.rules.specs.Number.{x_at, y_at}
use Rattle.rules.specs.Sheet.{particle}

-- particle number i
abbrev pub particle_at : List Float → List Float → List ℕ → ℕ → Particle
particle_at places speeds flags i = particle (x_at places i) (y_at places i) (x_at speeds i) (y_at speeds i) (get_or flags i 0)

-- one for each flag
unfoldable pub particles_from : List Float → List Float → List ℕ → List Particle
particles_from places speeds flags = map (particle_at places speeds flags) (up_to (length flags))
