-- The children from the quadrant on are laid.
use Rattle.std.proofs.Common.{◌≡◌}
use Rattle.tree_walk.proofs.Waits.{laid_from}
use Rattle.tree_walk.proofs.parent_first.Walk.push_children.Given as goal

abbrev pub invariant-loop-quadrant : goal.invariant-loop-quadrant
invariant-loop-quadrant l = l.self ≡ laid_from l.children l.node.extent l.initial.self l.quadrant
