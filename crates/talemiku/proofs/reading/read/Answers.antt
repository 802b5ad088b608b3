-- `read` answers and leaves what the rules say of a sheet that is read.
use mathlib.Core.Path.{sym, ◌∙◌}
use lib.ListN.{length}
use Rattle.std.proofs.lemmas.Result.{err_from_is_err_and}
use Rattle.rules.specs.Records.{read_check}
use Rattle.rules.proofs.OutcomeLaws.{ok_fine, err_refused}
use Rattle.talemiku.specs.AfterRecords.{lent_records}
use Rattle.talemiku.proofs.Recorded.{read-reaches, stops-read, reads}
use Rattle.talemiku.proofs.reading.read.Goals as goal

pub returns-in_err-read_check : goal.returns-in_err-read_check
returns-in_err-read_check c =
    let s = c.args.sheet.now in
    let ps = c.args.particles.now in
    let p = err_from_is_err_and c.from_residual.result c.from_residual.ensures.1 in
    rw (p.1, p.2) (stops-read (lent_records ps s) _ (err_refused (read_check s (length ps)) _ (sym c.read_check.ensures ∙ c.in_err-read_check.was)))

pub lay_particles-requires : goal.lay_particles-requires
lay_particles-requires c =
    let s = c.args.sheet.now in
    let n = length c.args.particles.now in
    read-reaches s n (ok_fine (read_check s n) _ (sym c.read_check.ensures ∙ c.in_ok-read_check.was))

pub returns : goal.returns
returns c =
    let s = c.args.sheet.now in
    let ps = c.args.particles.now in
    rw c.lay_particles.ensures (reads (lent_records ps s) (ok_fine (read_check s (length ps)) _ (sym c.read_check.ensures ∙ c.in_ok-read_check.was)))
