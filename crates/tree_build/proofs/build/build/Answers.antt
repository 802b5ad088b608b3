-- `build` puts in all particles one after the other, and refuses at the earliest that the rules refuse.
use Rattle.std.proofs.Common.{ℕ, ◌/◌, ap, ◌∙◌, arith, rules}
use Rattle.std.proofs.lemmas.Result.{err_from_is_err_and}
use Rattle.rules.specs.Reason.{number_of}
use Rattle.rules.specs.Outcome.{refusal}
use Rattle.rules.specs.Calls.{slot_words}
use Rattle.tree_placing.proofs.AddPlaced.{was_ok, was_err}
use Rattle.tree_build.proofs.AddBuild.{build_start, build-follows, build-puts, build-done, build-refused, build_end}
use Rattle.tree_build.proofs.build.build.Goals as goal

pub loop-p-init : goal.loop-p-init
loop-p-init c = rw c.no_tree-q.ensures (build_start c.args.at.now c.args.m.now c.args.next.now c.args.tail.now)

pub add_next-requires : goal.add_next-requires
add_next-requires c =
    let b = c.loop-p.invariant in
    let l = c.loop-p-test.true in (
      _,
      build-follows _ _ _ _ _ _ _ b c.requires.ranged l,
      build-puts _ _ _ _ _ _ _ b c.requires.ranged l c.requires.few (omega (arith, c.requires.links)) (omega (arith, c.requires.tails)),
    )

pub returns-in_err-q : goal.returns-in_err-q
returns-in_err-q c =
    let p = err_from_is_err_and c.from_residual.result c.from_residual.ensures.1 in
    let b = c.loop-p.invariant in
    let puts = build-puts _ _ _ _ _ _ _ b c.requires.ranged c.loop-p-test.true c.requires.few (omega (arith, c.requires.links)) (omega (arith, c.requires.tails)) in
    let slots = ap (λ (k : ℕ). k / slot_words) (c.add_next.auto.m ∙ c.loop-p.auto.m) in
    let w = was_err _ c.add_next.result _ _ c.loop-p.p-counter c.map_err.ensures.cases c.in_err-q.was (λ e h. search rules) in
    rw (p.1, p.2, w.2) (build-refused _ _ _ _ _ _ _ b c.requires.ranged c.loop-p-test.true c.add_next.new.m c.add_next.new.next c.add_next.new.tail slots (refusal (number_of w.0) c.loop-p.p-counter) (rw w.1 at (c.add_next.ensures _ puts)))

pub loop-p-preserved : goal.loop-p-preserved
loop-p-preserved c =
    let b = c.loop-p.invariant in
    let puts = build-puts _ _ _ _ _ _ _ b c.requires.ranged c.loop-p-test.true c.requires.few (omega (arith, c.requires.links)) (omega (arith, c.requires.tails)) in
    let slots = ap (λ (k : ℕ). k / slot_words) (c.add_next.auto.m ∙ c.loop-p.auto.m) in
    let r = was_ok _ c.add_next.result _ _ c.map_err.ensures.cases c.in_ok-q.was in
    build-done _ _ _ _ _ _ _ b c.requires.ranged c.loop-p-test.true _ _ _ slots _ (rw r at (c.add_next.ensures _ puts))

pub returns : goal.returns
returns c =
    build_end _ _ _ _ _ _ _ c.loop-p.invariant c.requires.ranged (omega arith) (omega arith) (ap (λ (k : ℕ). k / slot_words) c.loop-p.auto.m)
