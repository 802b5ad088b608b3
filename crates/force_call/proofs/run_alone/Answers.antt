-- `run_alone`: what 4 and 5 refuse, and what the force leaves.
use mathlib.Core.List.{List}
use mathlib.Core.Path.{◌≡◌, ap, ◌∙◌}
use Prim.Native.Nat.{ℕ, ◌*◌, ◌/◌, ◌≤◌}
use lib.Ieee.{Float}
use lib.ListN.{length, take, replicate}
use Rattle.rules.specs.Number.{0·}
use Rattle.rules.specs.Refusal.{most_particles}
use Rattle.rules.specs.Sheet.{pair_size, pairs_from}
use Rattle.rules.proofs.RefusalNumbers.{numbers-early}
use Rattle.tree_slots.proofs.Fill.{room}
use Rattle.force_call.specs.Calls.{lent}
use Rattle.force_call.proofs.Called.{result-numbers, result-ran, answered_refused, answered_ran, stands_ok, stands_late, settled_slots}
use Rattle.force_call.proofs.run_alone.Goals as goal

-- how long the velocities' list is
list_length : (places : List Float) → length places ≤ 2 * most_particles → length (take (length places) (replicate (2 * most_particles) 0·)) ≡ length places
list_length places few = room {A = Float} (length places) (2 * most_particles) 0· few

pub returns-in-Err : goal.returns-in-Err
returns-in-Err g c = λ f w alpha draws passed runs.
    let a = c.args in
    let l = lent a.places.now a.buffer.now a.start draws a.work.now in
    let vs = c.read_pairs.new.out in
    let read = c.read_pairs.ensures ∙ ap (λ (n : ℕ). pairs_from pair_size a.buffer.now a.start (n / 2)) (list_length a.places.now c.requires.lent.0) in
    let m = rw c.in-Err.is at (runs _ _ _ _ _ c.run.ensures) in
    rw m.1 (answered_refused l _ c.in-Err.refusal c.refused.result (result-numbers l f w alpha passed vs read c.in-Err.refusal m.0) ((numbers-early a.places.now vs f draws alpha).by c.in-Err.refusal m.0) c.refused.ensures)

pub returns-in-Ok : goal.returns-in-Ok
returns-in-Ok g c = λ f w alpha draws passed runs.
    let a = c.args in
    let l = lent a.places.now a.buffer.now a.start draws a.work.now in
    let vs = c.read_pairs.new.out in
    let read = c.read_pairs.ensures ∙ ap (λ (n : ℕ). pairs_from pair_size a.buffer.now a.start (n / 2)) (list_length a.places.now c.requires.lent.0) in
    let m = rw c.in-Ok.is at (runs _ _ _ _ _ c.run.ensures) in
    let places = a.places.now in
    let left = c.run.new.arg2 in
    answered_ran l _ _ left c.settle.result c.settle.new.buffer c.settle.new.work
    (result-ran l f w alpha passed vs read m.0 left c.in-Ok.ran m.1.is)
    (stands_ok places left c.in-Ok.ran _ m.1.used) (stands_late places left c.in-Ok.ran m.1.late) (settled_slots c.run.auto.arg3 c.settle.ensures)
