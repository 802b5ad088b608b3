-- A near leaf does nothing to a particle that is alone or too far away; otherwise a draw is lacking or its members pull.
use Rattle.std.proofs.Common.{arith, rules, length}
use Rattle.std.proofs.lemmas.Grind.{common_steps}
use Rattle.rules.specs.ManyBody.{act_near}
use Rattle.many_body_pulls.specs.Aims.{aimed}
use Rattle.many_body_node.proofs.act_near.Goals as goal

pub returns-then-is_alone-clause-is : goal.returns-then-is_alone-clause-is
unfolding act_near
returns-then-is_alone-clause-is c = λ h.
    let e = c.is_alone.ensures (length c.args.strengths.now) h in
    grind (arith, common_steps)

pub returns-in_err-aim-clause-is : goal.returns-in_err-aim-clause-is
unfolding act_near aimed
returns-in_err-aim-clause-is c = λ h.
    let e = c.is_alone.ensures (length c.args.strengths.now) h in
    search rules

pub returns-clause-is : goal.returns-clause-is
unfolding act_near aimed
returns-clause-is c = λ h.
    let e = c.is_alone.ensures (length c.args.strengths.now) h in
    let p = c.pull_members.ensures h in
    search rules
