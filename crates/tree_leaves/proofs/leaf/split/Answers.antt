-- `split` writes the internal nodes that two particles share, and their two leaves below.
use Rattle.std.proofs.Common.{◌≡◌, ◌+◌, ◌-◌, ◌∙◌, ap, arith}
use Rattle.tree_slots.specs.Slots.{put_internal}
use Rattle.tree_cells.proofs.Quadrant.{quadrant_lt}
use Rattle.tree_leaves.proofs.Turns.{step_less, step-own, split-turn}
use Rattle.tree_leaves.proofs.leaf.split.Goals as goal

pub only-requires : goal.only-requires
only-requires c = (
  step_less c.args.at.now c.args.p _ _ _ _ c.get_and_descend-way.ensures c.x_at-u.ensures c.y_at-v.ensures,
  omega (arith, c.loop-free.invariant.asks.small),
)

pub loop-free-preserved : goal.loop-free-preserved
loop-free-preserved c =
    let a = c.loop-free.invariant.asks in
    let n : c.args.x + c.args.g - (c.loop-free.free + 1) ≡ c.args.x + c.args.g - c.loop-free.free - 1 = omega arith in
    record {
      asks = record {
        own = omega (arith, a.room);
        room = omega (arith, a.room);
        small = omega (arith, a.small);
        first = a.first;
        new = a.new;
        first_place = a.first_place;
        new_place = a.new_place;
      };
      own = step-own c.args.at.now c.args.p _ _ _ _ c.get_and_descend-way.ensures c.x_at-u.ensures c.y_at-v.ensures;
      same = rw n (split-turn c.args.at.now c.args.p c.args.f (c.args.x + c.args.g - c.loop-free.free) c.loop-free.slot c.loop-free.free c.loop-free.m (omega arith)
          c.get_and_descend-way.ensures c.x_at-u.ensures c.y_at-v.ensures (c.put_internal.ensures ∙ ap (put_internal c.loop-free.m c.loop-free.slot) c.only.ensures)
          ∙ c.loop-free.invariant.same);
    }

pub fork-requires : goal.fork-requires
fork-requires c =
    let a = c.loop-free.invariant.asks in
    record {
      own = a.own;
      first-quadrant = rw c.get-j.ensures (quadrant_lt _ _ _);
      new_quadrant = rw c.get-k.ensures (quadrant_lt _ _ _);
      room = omega (arith, a.room);
      small = omega (arith, a.small);
      first = a.first;
      new = a.new;
    }
