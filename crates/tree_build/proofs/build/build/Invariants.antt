-- What stands when the particles before p are in the tree.
use Rattle.rules.specs.Calls.{slots_of}
use Rattle.tree_build.proofs.AddBuild.{Building}
use Rattle.tree_build.proofs.build.build.Given as goal

abbrev pub invariant-loop-p : goal.invariant-loop-p
invariant-loop-p l = Building l.at (slots_of l.initial.m) l.m l.next l.tail l.q l.p-counter
