-- `step_or_put_back` leaves the sheet that the ticks made, or, refused, the one that came in.
use Rattle.recenter_call.proofs.Runs.{settled}
use Rattle.recenter_call.proofs.run.step_or_put_back.Goals as goal

pub returns : goal.returns
returns c =
    settled c.args.sheet.now c.args.ticks c.requires.sheet_value c.step_sheet-ran.result c.step_sheet-ran.new.sheet _
    c.step_sheet-ran.ensures.value c.step_sheet-ran.ensures.sheet_after (rw c.copy_from_slice.ensures.after at c.put_back.ensures)
