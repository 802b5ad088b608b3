-- The iterations: at each turn what is left of them comes to what all come to.
use Rattle.std.proofs.Common.{◌≡◌}
use Rattle.rules.specs.Flow.{flow}
use Rattle.rules.specs.Link.{run_link}
use Rattle.rules.specs.Force.{ends_of}
use Rattle.force.specs.Draws.{left, Further}
use Rattle.link.specs.Links.{LinksReady}
use Rattle.link.proofs.Linked.{times_left}
use Rattle.link.proofs.link.iterate.Given as goal

abbrev pub invariant-loop : goal.invariant-loop
invariant-loop l =
    LinksReady l.vs l.links l.counts
    × Further l.initial.draws l.draws
    × (times_left l.at l.links l.strengths l.distances l.alpha l.iterations l.counter (flow l.vs (left l.draws))
    ≡ run_link l.at (ends_of l.links) l.strengths l.distances l.iterations l.alpha (flow l.initial.vs (left l.initial.draws)))
