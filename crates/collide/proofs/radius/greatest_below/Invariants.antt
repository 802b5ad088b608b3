-- The greatest of all children's radii is the greatest of those so far and of those that are left.
use Rattle.std.proofs.Common.{◌≡◌, drop}
use Rattle.rules.specs.Plain.{foldl}
use Rattle.rules.specs.Collide.{greater}
use Rattle.tree_walk.specs.WalkAfter.{kid_values}
use Rattle.tree_walk.proofs.WalkAfter.{values_of}
use Rattle.collide.specs.Radius.{radius_in}
use Rattle.collide.proofs.radius.greatest_below.Given as goal

abbrev pub invariant-loop-child : goal.invariant-loop-child
invariant-loop-child l =
    foldl greater l.initial.greatest (kid_values radius_in l.m l.s) ≡ foldl greater l.greatest (values_of radius_in l.m (drop l.child-index l.child-items))
