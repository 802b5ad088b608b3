-- One particle's walk after the other.
use Rattle.std.proofs.Common.{sym, ◌∙◌, arith, rules, length}
use Rattle.rules.specs.Walk.{counted}
use Rattle.rules.specs.Flow.{flow}
use Rattle.force.specs.Draws.{left}
use Rattle.force.proofs.Stages.{left-first, left-goes}
use Rattle.collide.specs.Collide.{walk_for, walk_all}
use Rattle.collide.proofs.collide.walk_all.Goals as goal

pub loop-i-init : goal.loop-i-init
unfolding walk_all
loop-i-init c =
    let a = c.args in
    (search rules, omega arith, sym (left-first (walk_for a.at.now a.radii.now a.strength) (length a.radii.now) (counted (flow a.vs.now (left a.draws.now)) a.visits.now)))

pub loop-i-preserved : goal.loop-i-preserved
loop-i-preserved c =
    let a = c.args in
    let l = c.loop-i in (
      search rules,
      omega (arith, l.invariant.1, c.in_ok-walk_for.ensures.few),
      sym
          (left-goes (walk_for a.at.now a.radii.now a.strength) (length a.radii.now) l.i c.loop-i-test.true (counted (flow l.vs (left l.draws)) l.visits) (sym c.in_ok-walk_for.ensures.is))
          ∙ l.invariant.2,
    )
