-- How many nodes all walks hand out, and the run by what building the tree says. Assumes nothing.
use mathlib.Core.Path.{◌≡◌}
use mathlib.Core.List.{List}
use Prim.Native.Nat.{ℕ, ◌*◌, ◌^◌, ◌≤◌}
use native.Mathlib.Nat.{mul-le-mul}
use native.Mathlib.Omega.{arith}
use lib.ListN.{length}
use lib.Ieee.{Float}
use Rattle.rules.specs.declared.Progress.{Progress}
use Rattle.rules.specs.declared.Refusal.{Refusal}
use Rattle.rules.specs.declared.Tuning.{Tuning}
use Rattle.rules.specs.Outcome.{refused, fine}
use Rattle.rules.specs.Refusal.{most_particles}
use Rattle.rules.specs.Tree.{tree_check}
use Rattle.rules.specs.Walk.{Counted}
use Rattle.rules.specs.Flow.{Flow}
use Rattle.rules.specs.ManyBody.{run_many_body}
use Rattle.rules.proofs.CellRule.{tree-nodes}
use Rattle.tree_slots.specs.declared.Quadtree.{Quadtree}
use Rattle.tree_slots.specs.Trees.{Stands}
use Rattle.tree_slots.proofs.Trees.{lays_levels, lays_nodes}
use Rattle.tree_build.proofs.Refusals.{tree_clears}
use Rattle.std.proofs.Common.{Err}
use Rattle.force.specs.Ran.{RanAs}
use Rattle.force.proofs.Stages.{met}
use Rattle.many_body.specs.ManyBody.{pulled_all}

-- ---- how many nodes are handed out

-- the most particles, each with at most 262,145 nodes to meet
pub all_fit : (at : List Float) (n : ℕ) {m next : List ℕ} {q : Quadtree} → Stands at n m next q → n ≤ most_particles → n * q.nodes ≤ 2 ^ 31
all_fit at n {q = q} s h =
    let l : q.nodes ≤ 262145 = omega (arith, lays_nodes s, (tree-nodes at n (lays_levels s)).1) in
    omega (arith, mul-le-mul h l)

-- ---- 6 and 7

module _ (t : Tuning) (at strengths : List Float) (alpha : Float) (slots : ℕ) (m : Counted Flow) where
  -- the tree is refused
  pub refused_runs : (vs ds : List Float) (p : Progress) (r : Refusal) → tree_check at (length strengths) slots ≡ refused r
      → RanAs vs ds p (Err r) (run_many_body t at strengths alpha slots m)
  unfolding run_many_body
  refused_runs vs ds p r e =
      let l = tree_clears at (length strengths) slots r e in
      record { is = rw e; onward = tt; late = met r l.0 l.1 }

  -- the tree stands
  pub stands_runs : tree_check at (length strengths) slots ≡ fine → pulled_all t at strengths alpha m ≡ run_many_body t at strengths alpha slots m
  unfolding run_many_body
  stands_runs e = rw e
