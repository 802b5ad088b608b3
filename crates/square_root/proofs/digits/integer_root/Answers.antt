-- Each turn of `integer_root` takes a step, and after 53 of them the root is whole.
use native.Mathlib.Omega.{arith}
use Rattle.square_root.proofs.Powers.{inv_q, inv_step, inv_end}
use Rattle.square_root.proofs.digits.integer_root.Goals as goal

pub step-s-requires : goal.step-s-requires
step-s-requires c = (c.loop.invariant.ready, inv_q _ _ _ _ _ c.loop.invariant (omega (arith, c.loop-test.true)))

pub loop-preserved : goal.loop-preserved
loop-preserved c = inv_step _ _ _ _ _ _ _ _ c.loop.invariant (omega (arith, c.loop-test.true)) c.step-s.ensures

pub returns : goal.returns
returns c = inv_end _ _ _ _ _ c.loop.invariant (omega (arith, c.loop-test.false)) c.requires.0
