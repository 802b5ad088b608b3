-- As many doublings are left to wrap as turns.
use Rattle.std.proofs.Common.{List, ℕ, ◌-◌}
use Rattle.rules.specs.declared.Extent.{Extent}
use Rattle.tree_placing.specs.Add.{Wraps}
use Rattle.tree_build.proofs.add.wrap.Given as goal

abbrev pub invariant-loop : goal.invariant-loop
invariant-loop l = (is : List ℕ) (to : Extent) → Wraps l.at is l.initial.m l.initial.wrapped to l.p l.end → Wraps l.at is l.m l.wrapped to l.p (l.end - l.counter)
