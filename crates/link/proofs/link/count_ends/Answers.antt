-- At each turn there is room for two ends more, and both are counted.
use Rattle.std.proofs.Common.{length, sym, ◌∙◌}
use Rattle.std.proofs.lemmas.List.{length_push}
use Rattle.link.proofs.Tallies.{pair-more, pair-source, pair-target, pair-rest, count_room, count_turn}
use Rattle.link.proofs.link.count_ends.Goals as goal

pub count_link-requires : goal.count_link-requires
count_link-requires c =
    let l = c.loop-ends in
    let k = length l.yielded in
    let steps = c.in-Some.ensures.steps in
    let split = sym l.invariant.1 ∙ steps.1.0 in
    let two = steps.1.1 ∙ l.invariant.0 in
    count_room c.requires.0 k (pair-more _ _ _ k split two) l.counts l.invariant.2 _ _ (pair-source _ _ _ k split two) (pair-target _ _ _ k split two)

pub loop-ends-preserved : goal.loop-ends-preserved
loop-ends-preserved c =
    let l = c.loop-ends in
    let k = length l.yielded in
    let steps = c.in-Some.ensures.steps in
    let split = sym l.invariant.1 ∙ steps.1.0 in
    let two = steps.1.1 ∙ l.invariant.0 in
    rw (length_push l.yielded c.in-Some.ends) (
      steps.0 ∙ l.invariant.0,
      pair-rest _ _ _ k split two,
      count_turn c.requires.0 k (pair-more _ _ _ k split two) l.counts l.invariant.2 _ _ (pair-source _ _ _ k split two) (pair-target _ _ _ k split two) c.count_link.new.counts c.count_link.ensures,
    )
