-- The walk of the particle i has come as far as the rules' walk; and fewer nodes are left at each turn.
use Rattle.std.proofs.Common.{length}
use Rattle.rules.specs.Flow.{flow}
use Rattle.rules.specs.Walk.{counted}
use Rattle.rules.specs.ManyBody.{charged_tree, many_body_step}
use Rattle.tree_walk.proofs.Visits.{Visiting, left_of}
use Rattle.force.specs.Draws.{left, Further}
use Rattle.many_body_chains.specs.Chain.{Few}
use Rattle.many_body_node.specs.NodePull.{node_at}
use Rattle.many_body.proofs.many_body.pull.Given as goal

abbrev pub invariant-loop-node : goal.invariant-loop-node
invariant-loop-node l =
    record {
      further : Further l.initial.draws l.draws;
      walking : Visiting (many_body_step l.t l.at l.strengths l.alpha l.i) (node_at l.m) (Few (length l.strengths)) l.m l.next (charged_tree l.at l.strengths) (counted (flow l.initial.vs (left l.initial.draws)) l.initial.visits) l.walk (counted (flow l.vs (left l.draws)) l.visits);
    }

abbrev pub decreases-loop-node : goal.decreases-loop-node
decreases-loop-node l = left_of l.m l.walk
