-- All links in order: at each turn what is left of them comes to what all come to.
use Rattle.std.proofs.Common.{◌≡◌}
use Rattle.rules.specs.Flow.{flow}
use Rattle.force.specs.Draws.{left, Further}
use Rattle.link.specs.Links.{pull_each}
use Rattle.link.proofs.Linked.{pull_left}
use Rattle.link.proofs.link.pull_all.Given as goal

abbrev pub invariant-loop-k : goal.invariant-loop-k
invariant-loop-k l =
    Further l.initial.draws l.draws
    × (pull_left l.at l.links l.strengths l.distances l.alpha l.k (flow l.vs (left l.draws))
    ≡ pull_each l.at l.links l.strengths l.distances l.alpha (flow l.initial.vs (left l.initial.draws)))
