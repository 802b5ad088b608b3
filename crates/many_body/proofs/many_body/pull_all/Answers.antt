-- One walk after the other.
use Rattle.std.proofs.Common.{length, sym, ◌∙◌, rules, arith}
use Rattle.rules.specs.Flow.{flow}
use Rattle.rules.specs.Walk.{counted}
use Rattle.force.specs.Draws.{left}
use Rattle.force.proofs.Stages.{left-goes}
use Rattle.many_body.specs.ManyBody.{pulled_for}
use Rattle.many_body.proofs.many_body.pull_all.Goals as goal

pub loop-i-preserved : goal.loop-i-preserved
loop-i-preserved c =
    let l = c.loop-i in
    record {
      further = search rules;
      few = omega arith;
      same = l.invariant.same
          ∙ left-goes (pulled_for c.args.t c.args.at.now c.args.strengths.now c.args.alpha) (length c.args.strengths.now) l.i (omega arith)
          (counted (flow l.vs (left l.draws)) l.visits) (sym c.in_ok-pull.ensures.is);
    }
