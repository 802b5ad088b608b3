-- `all_numbers` adds up what the entries need.
use Rattle.std.proofs.Common.{◌≡◌, map, sym, ap, ◌∙◌, arith, rules, tests}
use Rattle.std.proofs.lemmas.Iterator.{YieldsList-from_slice, YieldsList-from_map}
use Rattle.std.proofs.lemmas.Iterator.Adapters.{serves_from_places}
use Rattle.std.proofs.lemmas.Iterator.Consumers.{sum_from_yields_List, fits_from_yields_list}
use Rattle.rules.specs.Tick.{numbers_needed}
use Rattle.tick_checks.proofs.Folds.{sum-is, part-small}
use Rattle.tick_checks.proofs.lengths.all_numbers.Goals as goal

pub sum-requires-clause-can : goal.sum-requires-clause-can
sum-requires-clause-can c =
    let n : c.map.result.f.0.now ≡ c.args.n = ap (λ f. f.0.now) c.map.ensures.closure in
    let es = c.args.entries.now in (
      tt,
      serves_from_places (YieldsList-from_slice es cc) (λ x q k. search rules)
          (λ x k h e _ _ _ _ _ _ _. rw n (omega (arith, part-small (numbers_needed c.args.n) es k x.now h e))),
    )

pub sum-requires-clause-fits : goal.sum-requires-clause-fits
sum-requires-clause-fits c =
    fits_from_yields_list c.map.result _
    (YieldsList-from_map _ (numbers_needed c.args.n) (YieldsList-from_slice c.args.entries.now cc) c.map.ensures.closure (λ x r q k. search (rules, tests)))
    (rw sum-is at c.requires)

pub returns : goal.returns
returns c =
    sum_from_yields_List c.map.result c.sum.result c.sum.ensures.ran
    (YieldsList-from_map _ (numbers_needed c.args.n) (YieldsList-from_slice c.args.entries.now cc) c.map.ensures.closure (λ x r q k. search (rules, tests)))
    ∙ sym (sum-is (map (numbers_needed c.args.n) c.args.entries.now))
