-- j is a member, and i is ahead of it.
use Rattle.std.proofs.Common.{ℕ, List, ◌+◌, ◌-◌, ◌<◌, length, get_or}
use Rattle.rules.proofs.CellList.{In}
use Rattle.tree_slots.specs.Trees.{Trails}
use Rattle.tree_leaving.proofs.Chains.{Ahead}
use Rattle.tree_leaving.proofs.before.Given as goal

abbrev pub invariant-loop-j : goal.invariant-loop-j
invariant-loop-j l = record {
  less : l.j < length l.next;
  ahead : Ahead l.next l.i l.j (get_or l.next l.j 0);
  member : (js : List ℕ) → Trails l.next (l.f + 1) js → In l.j js;
}

abbrev pub decreases-loop-j : goal.decreases-loop-j
decreases-loop-j l = l.i - l.j
