-- `leave` takes i out of its chain, in each of four cases: alone, the first, within, the last.
use Rattle.std.proofs.Common.{arith}
use Rattle.tree_leaving.proofs.Chains.{left_alone, left-second, left-within, left-last}
use Rattle.tree_leaving.proofs.leave.Goals as goal
use Rattle.tree_leaving.proofs.leave.Goals.{then-after-eq0, else-after-eq0}

pub bounds-tail-after : goal.bounds-tail-after
bounds-tail-after c =
    omega (arith, (left-second c.args.next.now c.args.tail.now c.requires.0 c.args.f c.args.i c.requires.1 c.if-f-i.true c.if-after-ne0.true).0, c.requires.2)

pub returns-then-after-ne0 : goal.returns-then-after-ne0
returns-then-after-ne0 c js h = (left-second c.args.next.now c.args.tail.now js c.args.f c.args.i h c.if-f-i.true c.if-after-ne0.true).1 c.requires.2

pub returns-else-after-ne0 : goal.returns-else-after-ne0
returns-else-after-ne0 c js h = rw c.if-after-ne0.false (left_alone c.args.next.now c.args.tail.now js c.args.f c.args.i h c.if-f-i.true c.if-after-ne0.false)

pub returns : goal.returns
returns c js h =
    elim c.if-after-eq0.branch [
      | then-after-eq0 w ↦ rw w.tail-is (left-last c.args.next.now c.args.tail.now js c.args.f c.args.i h c.if-f-i.false _ c.before-j.ensures w.if-after-eq0.true c.requires.2)
      | else-after-eq0 w ↦ rw w.tail-is (left-within c.args.next.now c.args.tail.now js c.args.f c.args.i h c.if-f-i.false _ c.before-j.ensures w.if-after-eq0.false)
    ]
