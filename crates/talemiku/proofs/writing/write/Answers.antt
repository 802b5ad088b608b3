-- `write` answers and leaves what the rules say of particles that are written.
use mathlib.Core.Path.{sym, ◌∙◌}
use lib.ListN.{length}
use Rattle.std.proofs.lemmas.Result.{err_from_is_err_and}
use Rattle.rules.specs.Outcome.{◌then◌}
use Rattle.rules.specs.Sheet.{records_check}
use Rattle.rules.specs.Records.{room_check}
use Rattle.rules.proofs.OutcomeLaws.{ok_fine, err_refused}
use Rattle.list_checks.proofs.Checks.{then_both}
use Rattle.talemiku.specs.AfterRecords.{lent_records}
use Rattle.talemiku.proofs.Recorded.{room-reaches, stops-write, writes}
use Rattle.talemiku.proofs.writing.write.Goals as goal

pub returns-in_err-input_check : goal.returns-in_err-input_check
returns-in_err-input_check c =
    let l = lent_records c.args.particles.now c.args.sheet.now in
    let p = err_from_is_err_and c.from_residual.result c.from_residual.ensures.1 in
    let e = err_refused (room_check (length l.particles) (length l.sheet) then records_check l.particles) _ (sym c.input_check.ensures ∙ c.in_err-input_check.was) in
    rw (p.1, p.2) (stops-write l _ e)

pub lay_records-requires : goal.lay_records-requires
lay_records-requires c =
    let l = lent_records c.args.particles.now c.args.sheet.now in
    let room = room_check (length l.particles) (length l.sheet) in
    let sound = ok_fine (room then records_check l.particles) _ (sym c.input_check.ensures ∙ c.in_ok-input_check.was) in
    room-reaches (length l.particles) (length l.sheet) (then_both room (records_check l.particles) sound).0

pub returns : goal.returns
unfolding records_check
returns c =
    let l = lent_records c.args.particles.now c.args.sheet.now in
    let room = room_check (length l.particles) (length l.sheet) in
    let both = then_both room (records_check l.particles) (ok_fine (room then records_check l.particles) _ (sym c.input_check.ensures ∙ c.in_ok-input_check.was)) in
    rw c.lay_records.ensures (writes l both.0 both.1)
