-- One iteration after the other.
use Rattle.std.proofs.Common.{sym, ◌∙◌, arith, rules}
use Rattle.rules.specs.Walk.{counted}
use Rattle.rules.specs.Flow.{flow}
use Rattle.force.specs.Draws.{left}
use Rattle.force.proofs.Stages.{left-first, left-goes}
use Rattle.collide.specs.Collide.{walk_all, walk_times}
use Rattle.collide.proofs.collide.iterate.Goals as goal

pub loop-init : goal.loop-init
unfolding walk_times
loop-init c =
    let a = c.args in
    (search rules, omega arith, sym (left-first (λ m _. walk_all a.at.now a.radii.now a.strength m) a.iterations (counted (flow a.vs.now (left a.draws.now)) a.visits.now)))

pub loop-preserved : goal.loop-preserved
loop-preserved c =
    let a = c.args in
    let l = c.loop in (
      search rules,
      omega (arith, l.invariant.1, c.in_ok-walk_all.ensures.few),
      sym
          (left-goes (λ m _. walk_all a.at.now a.radii.now a.strength m) a.iterations l.counter c.loop-test.true (counted (flow l.vs (left l.draws)) l.visits) (sym c.in_ok-walk_all.ensures.is))
          ∙ l.invariant.2,
    )
