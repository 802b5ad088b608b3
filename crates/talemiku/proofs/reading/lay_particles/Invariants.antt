-- The particles so far are laid.
use mathlib.Core.Path.{◌≡◌}
use Rattle.talemiku.proofs.Laid.{lay_to, particle_at}
use Rattle.talemiku.proofs.reading.lay_particles.Given as goal

abbrev pub invariant-loop-i : goal.invariant-loop-i
invariant-loop-i l = l.particles ≡ lay_to 1 (particle_at l.sheet) l.i l.initial.particles
