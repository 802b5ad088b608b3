-- The closing move after the forces. Definitions only.
use Rattle.std.specs.Prelude.{List, Float}
use Rattle.rules.specs.Outcome.{Outcome, ◌>>=◌}
use Rattle.rules.specs.Particle.{closing}
use Rattle.rules.specs.Tick.{State, if_in_range}

-- after what the forces came to: the closing move, held axes returning home, and 9
abbrev pub closed : Float → List Float → Outcome State → Outcome State
closed decay home o = o >>= λ m. if_in_range (closing decay home m.particles) m
