-- The force begins with a list of counts that are all zero, which is the tally of no links.
use Rattle.std.proofs.Common.{ℕ, ◌/◌, length, arith}
use mathlib.Core.Path.{subst⁻¹}
use Rattle.rules.specs.Refusal.{most_particles}
use Rattle.tree_slots.proofs.Fill.{room}
use Rattle.link.specs.Links.{EndsLent}
use Rattle.link.proofs.Tallies.{zeros_tallied}
use Rattle.link.proofs.Linked.{ran_unvisited}
use Rattle.link.proofs.link.link.Goals as goal

pub iterate-end-requires : goal.iterate-end-requires
iterate-end-requires c =
    let n = length c.args.vs.now / 2 in
    let e = room {A = ℕ} n most_particles 0 (omega (arith, c.requires.4)) in (
      subst⁻¹ (λ (k : ℕ). EndsLent k c.args.links.now) e c.requires.0,
      c.requires.1,
      zeros_tallied n most_particles (omega (arith, c.requires.4)),
      omega (arith, e, c.requires.2, c.requires.3),
      omega (arith, e, c.requires.3),
    )

pub returns : goal.returns
returns c =
    let begun = c.new-draws.ensures in
    let end = c.iterate-end.ensures in
    let is = rw (begun.lent, begun.used) at end.is in
    rw c.ended.ensures (ran_unvisited _ _ _ _ _ begun.lent begun.used end.further _ end.dry is)
