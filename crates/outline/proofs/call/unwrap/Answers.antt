-- `unwrap` answers and writes what an outline comes to.
use mathlib.Core.Path.{sym, ◌∙◌}
use lib.ListN.{length}
use mir.Syntax.{w64}
use mir.ValLaws.{to_z-of_z}
use Rattle.std.proofs.lemmas.Result.{err_from_is_err_and}
use Rattle.rules.specs.Outline.{outline_check}
use Rattle.rules.proofs.OutcomeLaws.{ok_fine, err_refused}
use Rattle.outline.specs.Unwrap.{lent_outline}
use Rattle.outline.proofs.OutlineCalled.{sound, refused_so, ended-early, laid_so, told}
use Rattle.outline.proofs.call.unwrap.Goals as goal

pub returns-in_err-outline_check-clause-ended : goal.returns-in_err-outline_check-clause-ended
returns-in_err-outline_check-clause-ended c =
    let e = rw (to_z-of_z w64 c.args.centre c.ranges.centre) at c.outline_check.ensures in
    let l = lent_outline c.args.corners.now c.args.centre c.args.unwrapped.now in
    let p = err_from_is_err_and c.from_residual.result c.from_residual.ensures.1 in
    rw (p.1, p.2) (refused_so l _ (err_refused (outline_check l.corners l.centre (length l.unwrapped)) _ (sym e ∙ c.in_err-outline_check.was)))

pub returns-in_err-outline_check-clause-after : goal.returns-in_err-outline_check-clause-after
returns-in_err-outline_check-clause-after c =
    let e = rw (to_z-of_z w64 c.args.centre c.ranges.centre) at c.outline_check.ensures in
    let l = lent_outline c.args.corners.now c.args.centre c.args.unwrapped.now in
    let p = err_from_is_err_and c.from_residual.result c.from_residual.ensures.1 in
    rw (p.1, p.2) (ended-early l _ (err_refused (outline_check l.corners l.centre (length l.unwrapped)) _ (sym e ∙ c.in_err-outline_check.was)))

pub lay_closed-requires : goal.lay_closed-requires
lay_closed-requires c =
    let back = to_z-of_z w64 c.args.centre c.ranges.centre in
    let e = rw back at c.outline_check.ensures in
    let l = lent_outline c.args.corners.now c.args.centre c.args.unwrapped.now in
    let fits = ok_fine (outline_check l.corners l.centre (length l.unwrapped)) _ (sym e ∙ c.in_ok-outline_check.was) in
    rw back (sound l.corners l.centre (length l.unwrapped) fits)

pub returns-clause-ended : goal.returns-clause-ended
returns-clause-ended c =
    let back = to_z-of_z w64 c.args.centre c.ranges.centre in
    let e = rw back at c.outline_check.ensures in
    let l = lent_outline c.args.corners.now c.args.centre c.args.unwrapped.now in
    let fits = ok_fine (outline_check l.corners l.centre (length l.unwrapped)) _ (sym e ∙ c.in_ok-outline_check.was) in
    laid_so l fits (rw back at c.lay_closed.ensures)

pub returns-clause-after : goal.returns-clause-after
returns-clause-after c =
    let back = to_z-of_z w64 c.args.centre c.ranges.centre in
    let e = rw back at c.outline_check.ensures in
    let l = lent_outline c.args.corners.now c.args.centre c.args.unwrapped.now in
    let fits = ok_fine (outline_check l.corners l.centre (length l.unwrapped)) _ (sym e ∙ c.in_ok-outline_check.was) in
    told l fits (rw back at c.lay_closed.ensures)
