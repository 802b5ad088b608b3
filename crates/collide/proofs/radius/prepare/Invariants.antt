-- Whatever tree it was that the slots held, at each turn the nodes that were handed out so far, children first, have their radii.
use Rattle.std.proofs.Common.{length}
use Rattle.rules.specs.Collide.{leaf_radius, node_radius}
use Rattle.tree_slots.specs.Trees.{Below, put_value}
use Rattle.tree_walk.proofs.Laying.{Laying, to_come}
use Rattle.collide.specs.Radius.{radius_in, HoldsSomeTree}
use Rattle.collide.proofs.radius.prepare.Given as goal

abbrev pub invariant-loop-slot : goal.invariant-loop-slot
invariant-loop-slot l =
    (s : HoldsSomeTree (length l.radii) l.initial.m l.fn.q)
    → Laying radius_in (λ m s x. put_value m s 0 x) (leaf_radius l.radii) node_radius (Below (length l.radii)) s.next s.stands.tree l.initial.m l.m l.path

abbrev pub decreases-loop-slot : goal.decreases-loop-slot
decreases-loop-slot l = to_come l.m l.path
