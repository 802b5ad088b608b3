-- Whatever the chain is, its members up to the link have acted; and fewer links are left at each turn.
use Rattle.std.proofs.Common.{List, ℕ, length}
use Rattle.many_body_chains.specs.Chain.{Few}
use Rattle.many_body_chains.proofs.Chains.{Trails, Along, links_left}
use Rattle.many_body_pulls.proofs.MemberLaws.{all_pull}
use Rattle.many_body_pulls.proofs.members.pull_members.Given as goal

abbrev pub invariant-loop-link : goal.invariant-loop-link
invariant-loop-link l =
    let act = all_pull l.strengths l.alpha l.i l.aim in
    (is : List ℕ) → Trails l.next l.initial.link is → Few (length l.strengths) is → Along act l.next (length l.strengths) (act l.initial.vs is) l.link l.vs

abbrev pub decreases-loop-link : goal.decreases-loop-link
decreases-loop-link l = links_left l.next (length l.strengths) l.link
