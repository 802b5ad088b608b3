-- A step with lists of its own is one on columns.
use Rattle.std.proofs.Common.{ℕ, ◌*◌, Float, sym}
use Rattle.rules.specs.Number.{0·}
use Rattle.rules.specs.Refusal.{most_particles}
use Rattle.tree_slots.proofs.Fill.{room}
use Rattle.step_call.proofs.StepCalled.{few, few-numbers, few-kept}
use Rattle.step_call.proofs.with_lists.Goals as goal

pub slice_bounds-places-end : goal.slice_bounds-places-end
slice_bounds-places-end c = few-numbers _ c.args.plan.budget _ c.requires.0

pub slice_bounds-on_columns-end : goal.slice_bounds-on_columns-end
slice_bounds-on_columns-end c = sym (room {A = Float} _ (2 * most_particles) 0· (few-numbers _ c.args.plan.budget _ c.requires.0))

pub slice_bounds-speeds-end : goal.slice_bounds-speeds-end
slice_bounds-speeds-end c = few-numbers _ c.args.plan.budget _ c.requires.0

pub slice_bounds-on_columns-end-2 : goal.slice_bounds-on_columns-end-2
slice_bounds-on_columns-end-2 c = sym (room {A = Float} _ (2 * most_particles) 0· (few-numbers _ c.args.plan.budget _ c.requires.0))

pub slice_bounds-flags-end : goal.slice_bounds-flags-end
slice_bounds-flags-end c = few _ c.args.plan.budget _ c.requires.0

pub slice_bounds-on_columns-end-3 : goal.slice_bounds-on_columns-end-3
slice_bounds-on_columns-end-3 c = sym (room {A = ℕ} _ most_particles 0 (few _ c.args.plan.budget _ c.requires.0))

pub slice_bounds-kept-end : goal.slice_bounds-kept-end
slice_bounds-kept-end c = few-kept _ c.args.plan.budget _ c.requires.0

pub slice_bounds-on_columns-end-4 : goal.slice_bounds-on_columns-end-4
slice_bounds-on_columns-end-4 c = sym (room {A = Float} _ (4 * most_particles) 0· (few-kept _ c.args.plan.budget _ c.requires.0))

pub on_columns-requires-clause-columns_lent : goal.on_columns-requires-clause-columns_lent
on_columns-requires-clause-columns_lent c =
    let two = few-numbers _ c.args.plan.budget _ c.requires.0 in (
      record {
        place_each = room {A = Float} _ (2 * most_particles) 0· two;
        speed_each = room {A = Float} _ (2 * most_particles) 0· two;
        flag_each = room {A = ℕ} _ most_particles 0 (few _ c.args.plan.budget _ c.requires.0);
      },
      room {A = Float} _ (4 * most_particles) 0· (few-kept _ c.args.plan.budget _ c.requires.0),
    )
