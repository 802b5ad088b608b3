-- At each turn the members of the chain so far have pulled.
use Rattle.std.proofs.Common.{length, rules, arith}
use Rattle.many_body_chains.proofs.Chains.{Along, along, in_reach, fewer, ends, chain_trails}
use Rattle.many_body_pulls.specs.Aims.{gap_of}
use Rattle.many_body_pulls.proofs.MemberLaws.{all_pull, member_on}
use Rattle.many_body_pulls.proofs.members.pull_members.Goals as goal
use Rattle.many_body_pulls.proofs.members.pull_members.Goals.{In-loop-link}

-- of the chain that was handed in
mine : (c : In-loop-link)
    → let act = all_pull c.args.strengths.now c.args.alpha c.args.i c.args.aim in
    Along act c.args.next.now (length c.args.strengths.now) (act c.args.vs.now c.requires.1.members) c.loop-link.link c.loop-link.vs
mine c = c.loop-link.invariant c.requires.1.members (chain_trails c.requires.1) c.requires.1.good

pub pull_member-requires : goal.pull_member-requires
pull_member-requires c = (omega arith, in_reach (mine (goal.at.pull_member-requires c).In-loop-link) c.loop-link-test.true)

pub bounds-next-j : goal.bounds-next-j
bounds-next-j c = omega (arith, in_reach (mine (goal.at.bounds-next-j c).In-loop-link) c.loop-link-test.true)

pub loop-link-smaller : goal.loop-link-smaller
loop-link-smaller c = fewer (mine (goal.at.loop-link-smaller c).In-loop-link) c.loop-link-test.true

pub loop-link-preserved : goal.loop-link-preserved
loop-link-preserved c = λ is t k.
    along (c.loop-link.invariant is t k) c.loop-link-test.true c.pull_member.new.vs
    (λ js. member_on c.args.strengths.now c.args.alpha c.args.i (gap_of c.args.aim.gap) c.args.aim.l c.loop-link.vs _ _ c.pull_member.ensures js)

pub returns : goal.returns
returns c = λ h. ends (c.loop-link.invariant h.members (chain_trails h) h.good) (search rules)
