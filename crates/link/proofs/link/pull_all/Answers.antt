-- A link that is dry ends the turns, any other goes on to the next.
use Rattle.std.proofs.Common.{◌∙◌, rules}
use Rattle.std.proofs.lemmas.Result.{err_from_is_err_and}
use Rattle.link.proofs.Linked.{pull_stops, pull_goes, all_end}
use Rattle.link.proofs.link.pull_all.Goals as goal

pub returns-in_err-pull-clause-is : goal.returns-in_err-pull-clause-is
returns-in_err-pull-clause-is c =
    let e = err_from_is_err_and c.from_residual.result c.from_residual.ensures.1 in
    rw (e.1, e.2) (pull_stops _ _ _ _ _ c.loop-k.k c.loop-k-test.true _ c.in_err-pull.ensures.is ∙ c.loop-k.invariant.1)

pub loop-k-preserved : goal.loop-k-preserved
loop-k-preserved c = (
  search rules,
  pull_goes _ _ _ _ _ c.loop-k.k c.loop-k-test.true _ c.in_ok-pull.ensures.is ∙ c.loop-k.invariant.1,
)

pub returns-clause-is : goal.returns-clause-is
returns-clause-is c = all_end _ _ _ _ _ c.loop-k.k _ c.loop-k-test.false ∙ c.loop-k.invariant.1
