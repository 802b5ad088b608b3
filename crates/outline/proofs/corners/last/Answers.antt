-- `last` answers the outline's last number.
use mathlib.Core.Path.{refl, sym, ◌∙◌}
use native.Mathlib.Omega.{arith}
use borrow.Author.Rules.{rules}
use lib.ListN.{drop_of_length-le}
use mir.Syntax.{w64}
use mir.Val.{to_z, of_z}
use mir.ValLaws.{to_z-of_z}
use Rattle.rules.specs.Outline.{outline}
use Rattle.outline.proofs.Turns.{corner_at, at_centre, asked, nearer, last_turn, step-read}
use Rattle.outline.proofs.corners.last.Goals as goal

pub loop-corner-init : goal.loop-corner-init
loop-corner-init c = record { near = rw (to_z-of_z w64 c.args.centre c.ranges.centre) (at_centre c.args.corners.now c.args.centre c.requires); leads = refl }

pub short_way-end-requires : goal.short_way-end-requires
short_way-end-requires c =
    let o = c.loop-corner in
    let l = c.args.corners.now in
    rw (to_z-of_z w64 (corner_at l o.corner-index) (search rules)) (asked l c.args.centre c.requires o.corner-index (to_z w64 o.end-bits) (omega arith) o.invariant.near)

pub loop-corner-preserved : goal.loop-corner-preserved
loop-corner-preserved c =
    let o = c.loop-corner in
    let l = c.args.corners.now in
    let at = to_z w64 o.end-bits in
    let v = to_z w64 (of_z w64 c.short_way-end.result) in
    let e = step-read at (corner_at l o.corner-index) c.short_way-end.result (search rules) (search rules) c.short_way-end.ensures in
    record { near = nearer l o.corner-index at v (omega arith) e o.invariant.near; leads = o.invariant.leads ∙ last_turn l o.corner-index at v (omega arith) e }

pub returns : goal.returns
unfolding outline
returns c =
    let o = c.loop-corner in
    let e = rw (to_z-of_z w64 c.args.centre c.ranges.centre, drop_of_length-le c.args.corners.now {i = o.corner-index} (omega arith)) at o.invariant.leads in
    sym e
