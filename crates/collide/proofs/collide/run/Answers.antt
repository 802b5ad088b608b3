-- Where the tree is refused, and where it stands; the iterations hand out few nodes.
use Rattle.std.proofs.Common.{ℕ, ◌/◌, length, refl, ap, ◌∙◌, arith}
use Rattle.std.proofs.lemmas.Result.{err_from_is_err_and}
use Rattle.rules.specs.Calls.{slots_of, slot_words}
use Rattle.rules.specs.Walk.{counted}
use Rattle.rules.specs.Flow.{flow}
use Rattle.force.specs.Draws.{left}
use Rattle.force.proofs.Stages.{dry_late, met}
use Rattle.tree_build.proofs.Refusals.{tree_clears}
use Rattle.tree_build.proofs.Told.{told_refused, told-fine, told_stands}
use Rattle.collide.proofs.CollideRun.{run_none, run-walked, run_refused, few_visits}
use Rattle.collide.proofs.collide.run.Goals as goal

pub returns-then-iterations-eq0-clause-is : goal.returns-then-iterations-eq0-clause-is
returns-then-iterations-eq0-clause-is c =
    let a = c.args in
    run_none a.at.now a.radii.now a.strength a.iterations (slots_of a.m.now) (counted (flow a.vs.now (left a.draws.now)) a.visits.now) c.if-iterations-eq0.true

-- ---- the tree is refused

pub returns-in_err-q-clause-is : goal.returns-in_err-q-clause-is
returns-in_err-q-clause-is c =
    let a = c.args in
    let e = err_from_is_err_and c.from_residual.result c.from_residual.ensures.1 in
    rw (e.1, e.2)
    (run_refused a.at.now a.radii.now a.strength a.iterations (slots_of a.m.now) (counted (flow a.vs.now (left a.draws.now)) a.visits.now) c.if-iterations-eq0.false
    (told_refused a.at.now (length a.radii.now) c.build.new.m c.build.new.next (slots_of a.m.now) _ c.requires.1.places (ap (λ (n : ℕ). n / slot_words) c.build.auto.m) c.in_err-q.ensures refl))

pub returns-in_err-q-clause-late : goal.returns-in_err-q-clause-late
returns-in_err-q-clause-late c =
    let a = c.args in
    let e = err_from_is_err_and c.from_residual.result c.from_residual.ensures.1 in
    let late = tree_clears a.at.now (length a.radii.now) (slots_of a.m.now) c.in_err-q.field-0.0
    (told_refused a.at.now (length a.radii.now) c.build.new.m c.build.new.next (slots_of a.m.now) _ c.requires.1.places (ap (λ (n : ℕ). n / slot_words) c.build.auto.m) c.in_err-q.ensures refl) in
    rw (e.1, e.2) (met _ late.0 late.1)

-- ---- it stands

pub prepare-requires : goal.prepare-requires
prepare-requires c =
    let a = c.args in
    record {
      at = a.at.now;
      next = c.build.new.next;
      stands = told_stands a.at.now (length a.radii.now) c.build.new.m c.build.new.next (slots_of a.m.now) _ c.requires.1.places (ap (λ (n : ℕ). n / slot_words) c.build.auto.m) c.in_ok-q.ensures refl;
    }

pub iterate-requires : goal.iterate-requires
iterate-requires c =
    let a = c.args in
    let stands = told_stands a.at.now (length a.radii.now) c.build.new.m c.build.new.next (slots_of a.m.now) _ c.requires.1.places (ap (λ (n : ℕ). n / slot_words) c.build.auto.m) c.in_ok-q.ensures refl in
    let rounded = c.prepare.ensures (record { at = a.at.now; next = c.build.new.next; stands = stands }) in
    (c.requires.1, rounded, omega (arith, few_visits a.iterations rounded (omega (arith, c.requires.0.few, c.requires.1.places)) c.requires.2, c.requires.3))

pub returns-clause-is : goal.returns-clause-is
returns-clause-is c =
    let a = c.args in
    c.iterate.ensures.is
    ∙ run-walked a.at.now a.radii.now a.strength a.iterations (slots_of a.m.now) (counted (flow a.vs.now (left a.draws.now)) a.visits.now)
    (told-fine a.at.now (length a.radii.now) c.build.new.m c.build.new.next (slots_of a.m.now) _ c.requires.1.places (ap (λ (n : ℕ). n / slot_words) c.build.auto.m) c.in_ok-q.ensures refl)

pub returns-clause-few : goal.returns-clause-few
returns-clause-few c =
    let a = c.args in
    let stands = told_stands a.at.now (length a.radii.now) c.build.new.m c.build.new.next (slots_of a.m.now) _ c.requires.1.places (ap (λ (n : ℕ). n / slot_words) c.build.auto.m) c.in_ok-q.ensures refl in
    let rounded = c.prepare.ensures (record { at = a.at.now; next = c.build.new.next; stands = stands }) in
    omega (arith, few_visits a.iterations rounded (omega (arith, c.requires.0.few, c.requires.1.places)) c.requires.2, c.iterate.ensures.few)

pub returns-clause-late : goal.returns-clause-late
returns-clause-late c = dry_late c.iterate.result c.iterate.ensures.dry
