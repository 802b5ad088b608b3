-- What a pass over the list asks of one particle, what the closing move makes of it, and what Center keeps of those that it has passed. Definitions only.
use Rattle.std.specs.Prelude.{[], ◌∷◌, Float}
use Rattle.rules.specs.declared.Particle.{Particle}
use Rattle.rules.specs.Outcome.{Check}
use Rattle.rules.specs.Sheet.{places_of, speeds_of}
use Rattle.rules.specs.Refusal.{result_check}
use Rattle.rules.specs.Particle.{moved}
use Rattle.center.specs.declared.Pair.{Pair}
use Rattle.center.specs.Pairs as Pairs

-- 9, of one particle
abbrev pub result_of : Particle → Check
result_of p = result_check (places_of (p ∷ [])) (speeds_of (p ∷ []))

-- a particle that is moved by itself: its home is where it stands
abbrev pub moved_alone : Float → Particle → Particle
moved_alone decay p = moved decay p.x p.y p

-- the sums with one particle more
abbrev pub added_to : Pair → Particle → Pair
added_to sums p = Pairs.added_to sums p.x p.y
