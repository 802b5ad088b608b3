-- `recenter_records` has room for a copy.
use Rattle.std.proofs.Common.{ℕ, sym}
use Rattle.tree_slots.proofs.Fill.{room}
use Rattle.recenter_call.specs.Recentered.{kept_bytes}
use Rattle.recenter_call.proofs.Inputs.{kept-room}
use Rattle.recenter_call.proofs.call.recenter_records.Goals as goal

pub slice_bounds-spare-end : goal.slice_bounds-spare-end
slice_bounds-spare-end c = kept-room c.args.sheet.now c.requires

pub slice_bounds-step_or_put_back-end : goal.slice_bounds-step_or_put_back-end
slice_bounds-step_or_put_back-end c = sym (room {A = ℕ} _ kept_bytes 0 (kept-room c.args.sheet.now c.requires))

pub step_or_put_back-requires-clause-spare_len : goal.step_or_put_back-requires-clause-spare_len
step_or_put_back-requires-clause-spare_len c = room {A = ℕ} _ kept_bytes 0 (kept-room c.args.sheet.now c.requires)
