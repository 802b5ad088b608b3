-- The walk of particle i: what it has come to at each node, from what it found.
use Rattle.std.proofs.Common.{List, ℕ}
use Rattle.rules.specs.Walk.{counted}
use Rattle.rules.specs.Flow.{flow}
use Rattle.force.specs.Draws.{left, Further}
use Rattle.tree_walk.proofs.Visits.{left_of}
use Rattle.collide.proofs.CollideSteps.{Goes}
use Rattle.collide.proofs.collide.walk_for.Given as goal

abbrev pub invariant-loop-node : goal.invariant-loop-node
invariant-loop-node l =
    Further l.initial.draws l.draws
    × ((next : List ℕ)
    × Goes l.at l.radii l.strength l.i l.m next (counted (flow l.initial.vs (left l.initial.draws)) l.initial.visits) l.walk (counted (flow l.vs (left l.draws)) l.visits))

abbrev pub decreases-loop-node : goal.decreases-loop-node
decreases-loop-node l = left_of l.m l.walk
