-- The walks of the particles from i on are left.
use Rattle.std.proofs.Common.{◌≡◌, ◌+◌, ◌*◌, ◌≤◌, length}
use Rattle.rules.specs.Flow.{flow}
use Rattle.rules.specs.Walk.{counted}
use Rattle.force.specs.Draws as Draws
use Rattle.force.specs.Draws.{Further}
use Rattle.force.proofs.Stages.{left}
use Rattle.many_body.specs.ManyBody.{pulled_for}
use Rattle.many_body.proofs.many_body.pull_all.Given as goal

abbrev pub invariant-loop-i : goal.invariant-loop-i
invariant-loop-i l =
    let n = length l.strengths in
    let walks = left (pulled_for l.t l.at l.strengths l.alpha) n in
    record {
      further : Further l.initial.draws l.draws;
      few : l.visits ≤ l.initial.visits + l.i * l.q.nodes;
      same : walks 0 (counted (flow l.initial.vs (Draws.left l.initial.draws)) l.initial.visits) ≡ walks l.i (counted (flow l.vs (Draws.left l.draws)) l.visits);
    }
