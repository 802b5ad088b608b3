-- The walks of all particles: at each turn what is left of them comes to what all come to.
use Rattle.std.proofs.Common.{◌≡◌, ◌+◌, ◌*◌, ◌≤◌, length}
use Rattle.rules.specs.Tree.{nodes}
use Rattle.rules.specs.Walk.{counted}
use Rattle.rules.specs.Flow.{flow}
use Rattle.rules.specs.Collide.{radius_tree}
use Rattle.force.specs.Draws.{left, Further}
use Rattle.force.proofs.Stages as Stages
use Rattle.collide.specs.Collide.{walk_for, walk_all}
use Rattle.collide.proofs.collide.walk_all.Given as goal

abbrev pub invariant-loop-i : goal.invariant-loop-i
invariant-loop-i l =
    Further l.initial.draws l.draws
    × (l.visits ≤ l.initial.visits + l.i * nodes (radius_tree l.at l.radii))
    × (Stages.left (walk_for l.at l.radii l.strength) (length l.radii) l.i (counted (flow l.vs (left l.draws)) l.visits)
    ≡ walk_all l.at l.radii l.strength (counted (flow l.initial.vs (left l.initial.draws)) l.initial.visits))
