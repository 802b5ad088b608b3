-- `ticks_of` reads the digits of a text.
use Rattle.std.proofs.Common.{sym, ◌∙◌}
use Rattle.recenter_call.proofs.Digits.{reading-turn, reading-stop, reading_end}
use Rattle.recenter_call.proofs.ticks.ticks_of.Goals as goal

pub returns-then-not-is_digit : goal.returns-then-not-is_digit
returns-then-not-is_digit c =
    reading-stop _ c.loop-b.ticks c.loop-b.b-index c.loop-b.invariant c.loop-b-test.true (sym c.is_digit.ensures ∙ c.if-not-is_digit.true)

pub loop-b-preserved : goal.loop-b-preserved
loop-b-preserved c =
    reading-turn _ c.loop-b.ticks c.loop-b.b-index c.loop-b.invariant c.loop-b-test.true c.with_digit-ticks.result
    (sym c.is_digit.ensures ∙ c.if-not-is_digit.false) c.with_digit-ticks.ensures

pub returns : goal.returns
returns c = let read = reading_end _ c.loop-b.ticks c.loop-b.b-index c.loop-b.invariant c.loop-b-test.false in cc
