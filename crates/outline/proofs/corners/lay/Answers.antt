-- `lay` writes the outline's numbers, one after the other.
use mathlib.Core.Path.{refl, sym, ◌∙◌}
use native.Mathlib.Omega.{arith}
use borrow.Author.Rules.{rules}
use lib.ListN.{drop_of_length-le, length-set}
use mir.Syntax.{w64}
use mir.Val.{to_z, of_z}
use mir.ValLaws.{to_z-of_z}
use Rattle.rules.specs.Outline.{outline}
use Rattle.sheet.proofs.Lists.{overwritten-none}
use Rattle.outline.proofs.Turns.{corner_at, at_centre, asked, nearer, lay-turn, step-read}
use Rattle.outline.proofs.corners.lay.Goals as goal

pub loop-i-init : goal.loop-i-init
loop-i-init c = record { near = rw (to_z-of_z w64 c.args.centre c.ranges.centre) (at_centre c.args.corners.now c.args.centre c.requires.0); room = c.requires.1; laid = refl }

pub short_way-at-requires : goal.short_way-at-requires
short_way-at-requires c =
    let o = c.loop-i in
    let l = c.args.corners.now in
    rw (to_z-of_z w64 (corner_at l o.i) (search rules)) (asked l c.args.centre c.requires.0 o.i (to_z w64 o.at-bits) (omega arith) o.invariant.near)

pub loop-i-preserved : goal.loop-i-preserved
loop-i-preserved c =
    let o = c.loop-i in
    let l = c.args.corners.now in
    let at = to_z w64 o.at-bits in
    let v = to_z w64 (of_z w64 c.short_way-at.result) in
    let e = step-read at (corner_at l o.i) c.short_way-at.result (search rules) (search rules) c.short_way-at.ensures in
    record {
      near = nearer l o.i at v (omega arith) e o.invariant.near;
      room = omega (arith, o.invariant.room, length-set o.unwrapped o.i v);
      laid = o.invariant.laid ∙ lay-turn l o.i at v (omega arith) e o.unwrapped o.invariant.room;
    }

pub returns : goal.returns
unfolding outline
returns c =
    let o = c.loop-i in
    let e = rw (to_z-of_z w64 c.args.centre c.ranges.centre, drop_of_length-le c.args.corners.now {i = o.i} (omega arith)) at o.invariant.laid in
    sym (e ∙ overwritten-none o.unwrapped o.i)
