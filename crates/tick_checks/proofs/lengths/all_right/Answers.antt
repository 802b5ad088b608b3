-- `all_right` runs the test over all entries.
use Rattle.std.proofs.Common.{◌∙◌, rules, tests}
use Rattle.std.proofs.lemmas.Iterator.{YieldsList-from_slice}
use Rattle.std.proofs.lemmas.Iterator.Search.{all_from_yields_List}
use Rattle.rules.specs.Tick.{strengths_right}
use Rattle.list_checks.proofs.Scans.{all_listed}
use Rattle.tick_checks.proofs.lengths.all_right.Goals as goal

pub returns : goal.returns
returns c =
    all_from_yields_List strengths_right _ _ _ c.all.ensures.ran (YieldsList-from_slice c.args.entries.now cc) (λ x b q k. search (rules, tests))
    ∙ all_listed strengths_right c.args.entries.now
