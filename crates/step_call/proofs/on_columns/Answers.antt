-- A step on columns: read from the sheet, run, and settled.
use Rattle.std.proofs.Common.{ℕ, sym, ◌∙◌, arith}
use Rattle.rules.specs.Refusal.{most_particles}
use Rattle.tree_slots.proofs.Fill.{room}
use Rattle.tick_columns.proofs.Begun.{checked, lists-kept, fits-columns, columns-fit, chains}
use Rattle.step_call.proofs.StepCalled.{few, step-ran}
use Rattle.step_call.proofs.on_columns.Goals as goal

pub slice_bounds-next-end : goal.slice_bounds-next-end
slice_bounds-next-end c = few _ c.args.plan.budget _ c.requires.fact.0

pub slice_bounds-step_on-end : goal.slice_bounds-step_on-end
slice_bounds-step_on-end c = sym (room {A = ℕ} _ most_particles 0 (few _ c.args.plan.budget _ c.requires.fact.0))

pub slice_bounds-tail-end : goal.slice_bounds-tail-end
slice_bounds-tail-end c = few _ c.args.plan.budget _ c.requires.fact.0

pub slice_bounds-step_on-end-2 : goal.slice_bounds-step_on-end-2
slice_bounds-step_on-end-2 c = sym (room {A = ℕ} _ most_particles 0 (few _ c.args.plan.budget _ c.requires.fact.0))

pub step_on-stepped-requires-clause-fits : goal.step_on-stepped-requires-clause-fits
step_on-stepped-requires-clause-fits c =
    let k = checked _ c.args.plan.budget _ c.requires.fact.0 in
    let n = lists-kept c.requires.columns_lent.0 c.read_columns.auto.places c.read_columns.auto.speeds c.read_columns.auto.flags in
    (fits-columns _ _ _ _ c.read_columns.ensures _ k n, k.few, omega (arith, c.requires.columns_lent.1, n.flag_each))

pub step_on-stepped-requires-clause-columns_fit : goal.step_on-stepped-requires-clause-columns_fit
step_on-stepped-requires-clause-columns_fit c =
    let k = checked _ c.args.plan.budget _ c.requires.fact.0 in
    let n = lists-kept c.requires.columns_lent.0 c.read_columns.auto.places c.read_columns.auto.speeds c.read_columns.auto.flags in
    let r = room {A = ℕ} _ most_particles 0 k.fits.few in
    (columns-fit _ _ _ _ c.read_columns.ensures _ k n, chains _ _ _ _ c.read_columns.ensures _ k n _ _ r r)

pub settle_step-requires : goal.settle_step-requires
settle_step-requires c =
    let k = checked _ c.args.plan.budget _ c.requires.fact.0 in
    let n = lists-kept c.requires.columns_lent.0 c.read_columns.auto.places c.read_columns.auto.speeds c.read_columns.auto.flags in
    record { whole = k.whole; place_each = c.step_on-stepped.auto.places ∙ n.place_each; speed_each = c.step_on-stepped.auto.speeds ∙ n.speed_each }

pub returns : goal.returns
returns c =
    let p = c.args.plan in
    let n = lists-kept c.requires.columns_lent.0 c.read_columns.auto.places c.read_columns.auto.speeds c.read_columns.auto.flags in
    step-ran _ p.settings p.alpha_min p.budget c.requires.fact.0 _ _ _ _ _ _ _ c.read_columns.ensures n.flag_each c.requires.fact.1 c.step_on-stepped.ensures
    _ _ _ _ _ c.step_on-stepped.auto.work c.settle_step.ensures
