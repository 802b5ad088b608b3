-- `before` finds the member of a chain that links to i.
use Rattle.std.proofs.Common.{◌+◌, arith}
use Rattle.tree_slots.proofs.Links.{first_in, in_next}
use Rattle.tree_leaving.proofs.Chains.{ahead_start, ahead_turn, ahead_less}
use Rattle.tree_leaving.proofs.before.Goals as goal

pub loop-j-init : goal.loop-j-init
loop-j-init c = record {
  less = c.requires.1.first;
  ahead = ahead_start c.args.next.now c.requires.0 c.args.f c.args.i c.requires.1 c.requires.2;
  member = λ js t. first_in c.args.next.now c.args.f js t;
}

pub overflow_sub-j : goal.overflow_sub-j
overflow_sub-j c = omega (arith, ahead_turn _ _ _ _ c.loop-j.invariant.ahead c.loop-j-test.true)

pub loop-j-smaller : goal.loop-j-smaller
loop-j-smaller c =
    let t = ahead_turn _ _ _ _ c.loop-j.invariant.ahead c.loop-j-test.true in
    omega (arith, t.2, ahead_less _ _ _ _ t.3)

pub loop-j-preserved : goal.loop-j-preserved
loop-j-preserved c =
    let t = ahead_turn _ _ _ _ c.loop-j.invariant.ahead c.loop-j-test.true in
    record {
      less = t.1;
      ahead = t.3;
      member = λ js h. in_next c.args.next.now (c.args.f + 1) js c.loop-j.j _ h (c.loop-j.invariant.member js h) (omega (arith, t.0));
    }
