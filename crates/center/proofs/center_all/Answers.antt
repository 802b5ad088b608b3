-- `center_all` leaves the places that Center leaves of any particles with these places.
use Rattle.std.proofs.Common.{sym, ◌∙◌}
use Rattle.center.proofs.Centring.{centered-places}
use Rattle.center.proofs.center_all.Goals as goal

pub returns : goal.returns
returns c ps e =
    c.shift_all.ensures
    ∙ rw (c.offsets-shift.ensures, c.summed.ensures, ← e) (sym (centered-places c.args.x c.args.y c.args.strength ps))
