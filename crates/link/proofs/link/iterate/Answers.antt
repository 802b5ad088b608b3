-- The counts are all made before the first iteration.
use Rattle.std.proofs.Common.{sym, ap, ◌∙◌, arith, rules}
use Rattle.rules.specs.Force.{ends_of}
use Rattle.rules.specs.Flow.{flow}
use Rattle.force.specs.Draws.{left}
use Rattle.link.proofs.Linked.{times_first}
use Rattle.link.specs.Links.{tallies}
use Rattle.link.proofs.link.iterate.Goals as goal

pub loop-init : goal.loop-init
loop-init c =
    let a = c.args in
    let k = c.count_ends.auto.counts in (
      record {
        lent = rw k c.requires.0;
        tallied = c.count_ends.ensures ∙ ap (λ n. tallies n (ends_of a.links.now)) (sym k);
        speeds = omega (arith, k, c.requires.4);
      },
      search rules,
      times_first a.at.now a.links.now a.strengths.now a.distances.now a.alpha a.iterations (flow a.vs.now (left a.draws.now)),
    )
