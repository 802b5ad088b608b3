-- `all_links` adds up what the entries need.
use Rattle.std.proofs.Common.{map, sym, ◌∙◌, rules, tests}
use Rattle.std.proofs.lemmas.Iterator.{YieldsList-from_slice, YieldsList-from_map}
use Rattle.std.proofs.lemmas.Iterator.Consumers.{sum_from_yields_List, fits_from_yields_list}
use Rattle.rules.specs.Tick.{links_needed}
use Rattle.tick_checks.proofs.Folds.{sum-is}
use Rattle.tick_checks.proofs.lengths.all_links.Goals as goal

pub sum-requires-clause-fits : goal.sum-requires-clause-fits
sum-requires-clause-fits c =
    fits_from_yields_list c.map.result _
    (YieldsList-from_map _ links_needed (YieldsList-from_slice c.args.entries.now cc) c.map.ensures.closure (λ x r q k. search (rules, tests)))
    (rw sum-is at c.requires)

pub returns : goal.returns
returns c =
    sum_from_yields_List c.map.result c.sum.result c.sum.ensures.ran
    (YieldsList-from_map _ links_needed (YieldsList-from_slice c.args.entries.now cc) c.map.ensures.closure (λ x r q k. search (rules, tests)))
    ∙ sym (sum-is (map links_needed c.args.entries.now))
