-- That the chains of a tree have few members. Assumes nothing.
use mathlib.Core.Bool.{Bool}
use mathlib.Core.List.{List}
use Prim.Native.Nat.{ℕ}
use native.Mathlib.Omega.{arith}
use lib.Ieee.{Float}
use Rattle.rules.specs.Plain.{keep, up_to}
use Rattle.rules.proofs.CellList.{keep-length}
use Rattle.rules.proofs.CellCount.{length-up_to}
use Rattle.tree_slots.specs.declared.Quadtree.{Quadtree}
use Rattle.tree_slots.specs.Trees.{Stands}
use Rattle.tree_walk.specs.Walk.{EachChain}
use Rattle.tree_walk.proofs.WalkStands.{below-keep, below-up_to, chains_have}
use Rattle.many_body_chains.specs.Chain.{Few}

few-keep : (n : ℕ) (p : ℕ → Bool) (is : List ℕ) → Few n is → Few n (keep p is)
few-keep n p is h = record { below = below-keep n p is h.below; few = omega (arith, keep-length p is, h.few) }

few-up_to : (n : ℕ) → Few n (up_to n)
few-up_to n = record { below = below-up_to n; few = omega (arith, length-up_to n) }

pub chains-few : (at : List Float) (n : ℕ) {m next : List ℕ} {q : Quadtree} (s : Stands at n m next q) → EachChain (Few n) s.tree
chains-few at n s = chains_have at n s (Few n) (few-keep n) (few-up_to n)
