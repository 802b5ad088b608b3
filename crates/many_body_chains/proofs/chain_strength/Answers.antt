-- At each turn the strengths of the chain so far are added.
use Rattle.std.proofs.Common.{length, rules, arith}
use Rattle.rules.specs.Number.{0·}
use Rattle.many_body_chains.proofs.Chains.{Along, along, in_reach, fewer, ends, rest_of, rest_trails, rest-few}
use Rattle.many_body_chains.proofs.Strengths.{added, chain-sum}
use Rattle.many_body_chains.proofs.chain_strength.Goals as goal
use Rattle.many_body_chains.proofs.chain_strength.Goals.{In-loop-link}

-- of the chain that was handed in
mine : (c : In-loop-link)
    → Along (added c.args.strengths.now) c.args.next.now (length c.args.strengths.now) (added c.args.strengths.now 0· (rest_of c.requires.0.members)) c.loop-link.link c.loop-link.rest
mine c = c.loop-link.invariant _ (rest_trails c.requires.0) (rest-few c.requires.0)

pub strength_of-rest-requires : goal.strength_of-rest-requires
strength_of-rest-requires c = in_reach (mine c) c.loop-link-test.true

pub bounds-next-j : goal.bounds-next-j
bounds-next-j c = omega (arith, in_reach (mine (goal.at.bounds-next-j c).In-loop-link) c.loop-link-test.true)

pub loop-link-smaller : goal.loop-link-smaller
loop-link-smaller c = fewer (mine (goal.at.loop-link-smaller c).In-loop-link) c.loop-link-test.true

pub loop-link-preserved : goal.loop-link-preserved
loop-link-preserved c = λ is t k. along (c.loop-link.invariant is t k) c.loop-link-test.true _ (λ js. rw c.strength_of-rest.ensures)

pub returns : goal.returns
returns c =
    λ h. chain-sum h _ _ _ c.strength_of-own.ensures (ends (c.loop-link.invariant _ (rest_trails h) (rest-few h)) (search rules))
