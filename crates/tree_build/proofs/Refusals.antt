-- The refusals of a tree, 6 and 7, have a number and leave the work slots zero. Assumes nothing.
use mathlib.Core.Path.{◌≡◌}
use mathlib.Core.Bool.{true}
use mathlib.Core.List.{List}
use Prim.Native.Nat.{ℕ}
use lib.Ieee.{Float}
use Rattle.rules.specs.declared.Refusal.{Refusal}
use Rattle.rules.specs.Outcome.{refused, zeroes_work}
use Rattle.rules.specs.Tree.{tree_check}
use Rattle.rules.proofs.RefusalNumbers.{tree_late}
use Rattle.rules.proofs.Places.{late_numbered, late_zeroes}

pub tree_clears : (at : List Float) (n slots : ℕ) (r : Refusal) → tree_check at n slots ≡ refused r → (r.number ≡ 0 → ⊥) × (zeroes_work r ≡ true)
tree_clears at n slots r e = let l = (tree_late at n slots).by r e in (late_numbered r l, late_zeroes r l)
