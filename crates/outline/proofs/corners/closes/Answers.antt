-- `closes` tells whether the closing step leads back to where the outline began.
use borrow.Author.Rules.{rules}
use mathlib.Core.Path.{◌≡◌, ◌∙◌}
use native.Mathlib.Omega.{arith}
use lib.IntN.{pos}
use mir.Syntax.{w64}
use mir.Val.{to_z, of_z}
use mir.ValLaws.{to_z-of_z}
use Rattle.rules.specs.Outline.{outline, last_from}
use Rattle.outline.proofs.Turns.{corner_at, at_centre, asked}
use Rattle.outline.proofs.Closing.{closes-none, closes_tested, last-far}
use Rattle.outline.proofs.corners.closes.Goals as goal

pub returns-in_default : goal.returns-in_default
returns-in_default c = closes-none c.args.centre c.args.corners.now (omega (arith, c.in_default.ensures.item.3))

-- the first corner is read as it is
first : (c : goal.In-Some) → to_z w64 (of_z w64 c.in-Some.field-0.now) ≡ corner_at c.args.corners.now 0
first c = to_z-of_z w64 c.in-Some.field-0.now (search rules) ∙ c.in-Some.ensures.item.3.1 (pos 0)

-- and what was found of the last number too
last-read : (c : goal.After-last) → to_z w64 (of_z w64 c.last.result) ≡ last_from c.args.centre (outline c.args.centre c.args.corners.now)
last-read c = to_z-of_z w64 c.last.result (search rules) ∙ (rw (to_z-of_z w64 c.args.centre c.ranges.centre) at c.last.ensures)

pub short_way-began-requires : goal.short_way-began-requires
short_way-began-requires c =
    rw (to_z-of_z w64 c.args.centre c.ranges.centre, first c)
    (asked c.args.corners.now c.args.centre c.requires 0 c.args.centre c.in-Some.ensures.item.3.0 (at_centre c.args.corners.now c.args.centre c.requires))

pub short_way-back-requires : goal.short_way-back-requires
short_way-back-requires c =
    let l = c.args.corners.now in
    rw (last-read c, first c.before.before)
    (last-far l c.args.centre c.requires, (asked l c.args.centre c.requires 0 c.args.centre c.in-Some.ensures.item.3.0 (at_centre l c.args.centre c.requires)).1)

pub returns : goal.returns
returns c =
    closes_tested c.args.centre c.args.corners.now c.short_way-began.result c.short_way-back.result c.in-Some.ensures.item.3.0 (search rules) (search rules)
    (rw (to_z-of_z w64 c.args.centre c.ranges.centre, first c.before.before.before) at c.short_way-began.ensures)
    (rw (last-read c.before, first c.before.before.before) at c.short_way-back.ensures)
