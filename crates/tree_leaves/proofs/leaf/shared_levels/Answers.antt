-- `shared_levels` counts the levels for which two particles share a quadrant.
use Rattle.std.proofs.Common.{arith}
use Rattle.tree_leaves.proofs.Turns.{step-own, shared_more, shared_stop}
use Rattle.tree_leaves.proofs.leaf.shared_levels.Goals as goal

pub returns-then-way-get : goal.returns-then-way-get
returns-then-way-get c =
    omega (
      arith,
      c.loop-level.invariant.same,
      shared_stop c.args.at.now c.args.p c.args.f c.loop-level-test.true c.get_and_descend-way.ensures c.x_at-x.ensures c.y_at-y.ensures c.get.ensures c.x_at-u.ensures c.y_at-v.ensures c.if-way-get.true,
    )

pub loop-level-preserved : goal.loop-level-preserved
loop-level-preserved c = record {
  own = step-own c.args.at.now c.args.p _ _ _ _ c.get_and_descend-way.ensures c.x_at-x.ensures c.y_at-y.ensures;
  same = omega (
    arith,
    c.loop-level.invariant.same,
    shared_more c.args.at.now c.args.p c.args.f c.loop-level-test.true c.get_and_descend-way.ensures c.x_at-x.ensures c.y_at-y.ensures c.get.ensures c.x_at-u.ensures c.y_at-v.ensures c.if-way-get.false,
  );
}
