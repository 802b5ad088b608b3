-- `nearest` answers the pattern nearest to the root, which the remainder decides.
use Rattle.rules.proofs.Nearest as Near
use Rattle.square_root.proofs.Rounding.{down, up}
use Rattle.square_root.proofs.digits.nearest.Goals as goal

pub returns-then-s : goal.returns-then-s
returns-then-s c = Near.nearest _ _ (up _ _ _ _ _ _ c.unpack-p.ensures c.radicand-a.ensures c.integer_root-s.ensures c.if-s.true)

pub returns : goal.returns
returns c = Near.nearest _ _ (down _ _ _ _ _ _ c.unpack-p.ensures c.radicand-a.ensures c.integer_root-s.ensures c.if-s.false)
