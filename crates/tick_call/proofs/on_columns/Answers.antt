-- A tick on columns: read from the sheet, run, and settled.
use Rattle.std.proofs.Common.{ℕ, sym, ◌∙◌, arith}
use Rattle.rules.specs.Refusal.{most_particles}
use Rattle.tree_slots.proofs.Fill.{room}
use Rattle.tick_columns.proofs.Begun.{checked, lists-kept, pairs, fits-columns, columns-fit, chains}
use Rattle.tick_call.proofs.TickCalled.{few, tick_ran}
use Rattle.tick_call.proofs.on_columns.Goals as goal

pub slice_bounds-next-end : goal.slice_bounds-next-end
slice_bounds-next-end c = few _ _ c.requires.s_value

pub slice_bounds-tick_on-end : goal.slice_bounds-tick_on-end
slice_bounds-tick_on-end c = sym (room {A = ℕ} _ most_particles 0 (few _ _ c.requires.s_value))

pub slice_bounds-tail-end : goal.slice_bounds-tail-end
slice_bounds-tail-end c = few _ _ c.requires.s_value

pub slice_bounds-tick_on-end-2 : goal.slice_bounds-tick_on-end-2
slice_bounds-tick_on-end-2 c = sym (room {A = ℕ} _ most_particles 0 (few _ _ c.requires.s_value))

pub tick_on-ran-requires-clause-fits : goal.tick_on-ran-requires-clause-fits
tick_on-ran-requires-clause-fits c =
    let k = checked _ 0 _ c.requires.s_value in
    let n = lists-kept c.requires.columns_lent.0 c.read_columns.auto.places c.read_columns.auto.speeds c.read_columns.auto.flags in
    (fits-columns _ _ _ _ c.read_columns.ensures 0 k n, c.copy_from_slice.ensures.len ∙ pairs _ _ _ _ c.read_columns.ensures 0 k n _ c.requires.columns_lent.1)

pub tick_on-ran-requires-clause-columns_fit : goal.tick_on-ran-requires-clause-columns_fit
tick_on-ran-requires-clause-columns_fit c =
    let k = checked _ 0 _ c.requires.s_value in
    let n = lists-kept c.requires.columns_lent.0 c.read_columns.auto.places c.read_columns.auto.speeds c.read_columns.auto.flags in
    let r = room {A = ℕ} _ most_particles 0 (few _ _ c.requires.s_value) in
    rw c.begin.ensures (columns-fit _ _ _ _ c.read_columns.ensures 0 k n, chains _ _ _ _ c.read_columns.ensures 0 k n _ _ r r, omega arith)

pub settle_tick-requires : goal.settle_tick-requires
settle_tick-requires c =
    let k = checked _ 0 _ c.requires.s_value in
    let n = lists-kept c.requires.columns_lent.0 c.read_columns.auto.places c.read_columns.auto.speeds c.read_columns.auto.flags in
    record { whole = k.whole; place_each = c.tick_on-ran.auto.places ∙ n.place_each; speed_each = c.tick_on-ran.auto.speeds ∙ n.speed_each }

pub returns : goal.returns
returns c =
    let n = lists-kept c.requires.columns_lent.0 c.read_columns.auto.places c.read_columns.auto.speeds c.read_columns.auto.flags in
    tick_ran _ c.args.s c.requires.s_value _ _ _ _ _ _ _ _ _ c.read_columns.ensures n.flag_each c.float_of.ensures c.copy_from_slice.ensures.after (rw c.begin.ensures at c.tick_on-ran.ensures) _ _ _ _ _
    c.tick_on-ran.auto.work c.settle_tick.ensures
