-- What the loop of `node_charge` keeps: the sums over all children are the sums so far with the children that are left.
use Rattle.std.proofs.Common.{◌≡◌, drop}
use Rattle.rules.specs.Plain.{foldl}
use Rattle.rules.specs.ManyBody.{with_child}
use Rattle.tree_walk.specs.WalkAfter.{kid_values}
use Rattle.tree_walk.proofs.WalkAfter.{values_of}
use Rattle.many_body_charge.specs.Charge.{read_charge, sums_of}
use Rattle.many_body_charge.proofs.node_charge.Given as goal

abbrev pub invariant-loop-child : goal.invariant-loop-child
invariant-loop-child l =
    foldl with_child (sums_of l.initial.sums) (kid_values read_charge l.m l.s)
    ≡ foldl with_child (sums_of l.sums) (values_of read_charge l.m (drop l.child-index l.child-items))
