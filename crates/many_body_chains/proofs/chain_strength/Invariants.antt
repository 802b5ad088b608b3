-- Whatever the chain's rest is, its members up to the link are added; and fewer links are left at each turn.
use Rattle.std.proofs.Common.{List, ℕ, length}
use Rattle.many_body_chains.specs.Chain.{Few}
use Rattle.many_body_chains.proofs.Chains.{Trails, Along, links_left}
use Rattle.many_body_chains.proofs.Strengths.{added}
use Rattle.many_body_chains.proofs.chain_strength.Given as goal

abbrev pub invariant-loop-link : goal.invariant-loop-link
invariant-loop-link l =
    (is : List ℕ) → Trails l.next l.initial.link is → Few (length l.strengths) is
    → Along (added l.strengths) l.next (length l.strengths) (added l.strengths l.initial.rest is) l.link l.rest

abbrev pub decreases-loop-link : goal.decreases-loop-link
decreases-loop-link l = links_left l.next (length l.strengths) l.link
