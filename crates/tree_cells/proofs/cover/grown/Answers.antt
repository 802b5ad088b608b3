-- `grown` moves those ends of an extent that the rules move for a quadrant.
use Rattle.std.proofs.Common.{◌≡◌, arith}
use Rattle.tree_cells.proofs.CoverNear.{moved-is}
use Rattle.tree_cells.proofs.cover.grown.Goals as goal

pub returns-in-0 : goal.returns-in-0
returns-in-0 c = let q : c.args.q ≡ 0 = omega arith in rw q (moved-is c.requires.0 c.requires.2 0)

pub returns-in-1 : goal.returns-in-1
returns-in-1 c = let q : c.args.q ≡ 1 = omega arith in rw q (moved-is c.requires.0 c.requires.2 1)

pub returns-in-2 : goal.returns-in-2
returns-in-2 c = let q : c.args.q ≡ 2 = omega arith in rw q (moved-is c.requires.0 c.requires.2 2)

pub returns-in_default : goal.returns-in_default
returns-in_default c = let q : c.args.q ≡ 3 = omega arith in rw q (moved-is c.requires.0 c.requires.2 3)
