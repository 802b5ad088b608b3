-- Whatever tree stands in the slots, its nodes have their charges up to here; and fewer nodes are to come at each turn.
use Rattle.std.proofs.Common.{length}
use Rattle.rules.specs.ManyBody.{leaf_charge, node_charge}
use Rattle.tree_slots.specs.Trees.{Stands}
use Rattle.tree_walk.proofs.Laying.{Laying, to_come}
use Rattle.many_body_chains.specs.Chain.{Few}
use Rattle.many_body_charge.specs.Charge.{read_charge, put_charge}
use Rattle.many_body_charge.proofs.charges.Given as goal

abbrev pub invariant-loop-slot : goal.invariant-loop-slot
invariant-loop-slot l =
    let n = length l.strengths in
    (s : Stands l.at n l.initial.m l.next l.fn.q) → Laying read_charge put_charge (leaf_charge l.at l.strengths) node_charge (Few n) l.next s.tree l.initial.m l.m l.path

abbrev pub decreases-loop-slot : goal.decreases-loop-slot
decreases-loop-slot l = to_come l.m l.path
