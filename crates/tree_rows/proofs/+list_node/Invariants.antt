-- The levels that are left; and the node's row and those of its children before are written.
use Rattle.std.proofs.Common.{ℕ, ◌-◌, length}
use Rattle.rules.specs.Tree.{Tree}
use Rattle.tree_rows.specs.List.{Listable}
use Rattle.tree_rows.proofs.ListTree.{Children}
use Rattle.tree_rows.proofs.+list_node.Given as goal

abbrev pub decreases-list_node : goal.decreases-list_node
decreases-list_node l = 65 - l.level

abbrev pub invariant-loop-i : goal.invariant-loop-i
invariant-loop-i l =
    (t : Tree ℕ) → Listable l.m l.next l.fn.p l.level (length l.fn.rows) (length l.fn.chains) l.fn.at t
    → Children l.m l.next l.child-items l.fn.rows l.fn.chains l.fn.at l.level l.quadrant t l.i l.rows l.chains l.end
