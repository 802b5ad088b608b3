-- The tree is gathered so far, and each turn takes a node away.
use Rattle.std.proofs.Common.{ℕ}
use Rattle.rules.specs.Tree.{Tree}
use Rattle.tree_removing.specs.Remove.{Tidies}
use Rattle.tree_removing.proofs.Tidying.{Tidying}
use Rattle.tree_removing.proofs.tidy.tidy.Given as goal

abbrev pub invariant-loop-fold : goal.invariant-loop-fold
invariant-loop-fold l = (t : Tree ℕ) → Tidies l.at l.initial.m l.initial.less l.i t → Tidying l.at l.m l.initial.less l.less l.i t

abbrev pub decreases-loop-fold : goal.decreases-loop-fold
decreases-loop-fold l = l.less.nodes
