-- The iterations: at each turn what is left of them comes to what all come to.
use Rattle.std.proofs.Common.{◌≡◌, ◌+◌, ◌*◌, ◌≤◌, length}
use Rattle.rules.specs.Tree.{nodes}
use Rattle.rules.specs.Walk.{counted}
use Rattle.rules.specs.Flow.{flow}
use Rattle.rules.specs.Collide.{radius_tree}
use Rattle.force.specs.Draws.{left, Further}
use Rattle.force.proofs.Stages as Stages
use Rattle.collide.specs.Collide.{walk_all, walk_times}
use Rattle.collide.proofs.collide.iterate.Given as goal

abbrev pub invariant-loop : goal.invariant-loop
invariant-loop l =
    Further l.initial.draws l.draws
    × (l.visits ≤ l.initial.visits + l.counter * (length l.radii * nodes (radius_tree l.at l.radii)))
    × (Stages.left (λ m _. walk_all l.at l.radii l.strength m) l.iterations l.counter (counted (flow l.vs (left l.draws)) l.visits)
    ≡ walk_times l.at l.radii l.strength l.iterations (counted (flow l.initial.vs (left l.initial.draws)) l.initial.visits))
