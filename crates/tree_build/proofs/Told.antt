-- What building a tree of n places answers, in the words of the rules. Assumes nothing.
use mathlib.Core.Path.{◌≡◌, subst}
use mathlib.Core.List.{List}
use Prim.Native.Nat.{ℕ, ◌*◌}
use native.Mathlib.Omega.{arith}
use lib.ListN.{length}
use lib.Ieee.{Float}
use Rattle.std.specs.Prelude.{Result, Ok, Err}
use Rattle.rules.specs.declared.Refusal.{Refusal}
use Rattle.rules.specs.Outcome.{refused, fine}
use Rattle.rules.specs.Tree.{tree_check}
use Rattle.rules.specs.Calls.{slots_of}
use Rattle.tree_slots.specs.declared.Quadtree.{Quadtree}
use Rattle.tree_slots.specs.Trees.{Stands}
use Rattle.tree_build.specs.Build.{particles, Builds}

-- b is what building answered, and m the slots, as many as `slots`
module _ (at : List Float) (n : ℕ) (m next : List ℕ) (slots : ℕ) (b : Result Quadtree Refusal) (p : length at ≡ n * 2) (k : slots_of m ≡ slots) (h : Builds at m next b) where
  count-is : particles at ≡ n
  count-is = omega arith

  pub told_refused : {r : Refusal} → b ≡ Err r → tree_check at n slots ≡ refused r
  told_refused e = rw (← count-is, ← k) (subst (Builds at m next) e h)

  pub told-fine : {q : Quadtree} → b ≡ Ok q → tree_check at n slots ≡ fine
  told-fine e = rw (← count-is, ← k) (subst (Builds at m next) e h).0

  pub told_stands : {q : Quadtree} → b ≡ Ok q → Stands at n m next q
  told_stands {q} e = subst (λ (i : ℕ). Stands at i m next q) count-is (subst (Builds at m next) e h).1.0
