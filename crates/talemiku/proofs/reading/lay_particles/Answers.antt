-- A sheet is laid into the list, particle after particle.
use mathlib.Core.Path.{◌≡◌, ap, ◌∙◌, subst}
use mathlib.Core.List.{List}
use Prim.Native.Nat.{ℕ, ◌<◌, ◌*◌}
use native.Mathlib.Numerals.{add-one}
use native.Mathlib.Omega.{arith}
use lib.ListN.{length}
use Rattle.rules.specs.declared.Particle.{Particle}
use Rattle.rules.specs.Sheet.{record_size, count_of, record_at, particles_of}
use Rattle.talemiku.proofs.Laid.{lay_to, particle_at, list_laid, stored}
use Rattle.talemiku.proofs.reading.lay_particles.Goals as goal

pub loop-i-preserved : goal.loop-i-preserved
loop-i-preserved c =
    let s = c.args.sheet.now in
    let ps = c.args.particles.now in
    let i = c.loop-i.i in
    let h : i < length c.loop-i.particles = omega arith in
    rw (add-one, c.record_at.ensures, c.loop-i.invariant)
    (stored (lay_to 1 (particle_at s) i ps) i (record_at s (i * record_size)) (subst (λ (l : List Particle). i < length l) c.loop-i.invariant h))

pub returns : goal.returns
unfolding particles_of
returns c =
    let s = c.args.sheet.now in
    let ps = c.args.particles.now in
    let all : c.loop-i.i ≡ count_of s = omega arith in
    c.loop-i.invariant ∙ ap (λ (i : ℕ). lay_to 1 (particle_at s) i ps) all ∙ list_laid s (count_of s) ps c.requires
