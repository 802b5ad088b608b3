-- In a near leaf, what `act_near` does is the step.
use Rattle.std.proofs.Common.{rules}
use Rattle.rules.specs.ManyBody.{many_body_step}
use Rattle.many_body_node.proofs.many_body_step.Goals as goal

pub returns-in_err-act_near-clause-leaf : goal.returns-in_err-act_near-clause-leaf
unfolding many_body_step
returns-in_err-act_near-clause-leaf c = λ z h.
    let e = (rw c.tag-tag.ensures at c.act_near.ensures.is) h in
    search rules

pub returns-in_ok-act_near-clause-leaf : goal.returns-in_ok-act_near-clause-leaf
unfolding many_body_step
returns-in_ok-act_near-clause-leaf c = λ z h.
    let e = (rw c.tag-tag.ensures at c.act_near.ensures.is) h in
    search rules
