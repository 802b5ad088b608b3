-- The whole force: one tree serves all iterations, and the visits stay few. Assumes nothing.
use mathlib.Core.Path.{◌≡◌, refl, sym, ap, ◌∙◌}
use mathlib.Core.List.{List, [], ◌∷◌}
use Prim.Native.Nat.{ℕ, zero, suc, ◌+◌, ◌*◌, ◌≤◌}
use native.Mathlib.Nat.{mul-le-mul}
use native.Mathlib.Omega.{arith}
use lib.ListN.{length}
use lib.Ieee.{Float}
use Rattle.rules.specs.declared.Refusal.{Refusal}
use Rattle.rules.specs.Plain.{up_to}
use Rattle.rules.specs.Refusal.{most_particles, most_iterations}
use Rattle.rules.specs.Outcome.{Outcome, done, refused, ◌>>=◌, fold_stages, fine}
use Rattle.rules.specs.Tree.{nodes, tree_check}
use Rattle.rules.specs.Walk.{Counted}
use Rattle.rules.specs.Flow.{Flow}
use Rattle.rules.specs.Collide.{radius_tree, collide_once, run_collide}
use Rattle.rules.proofs.CellRule.{tree-nodes}
use Rattle.rules.proofs.OutcomeLaws.{bind_cong}
use Rattle.force.specs.Ran.{most_force_visits}
use Rattle.tree_slots.specs.declared.Quadtree.{Quadtree}
use Rattle.tree_slots.proofs.Trees.{lays_levels, lays_nodes}
use Rattle.tree_walk.proofs.WalkStands.{nodes_stands}
use Rattle.collide.specs.Radius.{Rounded}
use Rattle.collide.specs.Collide.{walk_all, walk_times}
use Rattle.collide.proofs.CollideSteps.{look, seen_radii}

-- ---- the tree is the same each time

stages-same : {A S : Type 0} (f g : S → A → Outcome S) → ((s : S) (a : A) → f s a ≡ g s a) → (s : S) (l : List A) → fold_stages f s l ≡ fold_stages g s l
stages-same f g h s [] = refl
stages-same f g h s (a ∷ l) = ap (λ (o : Outcome _). o >>= λ t. fold_stages f t l) (h s a) ∙ bind_cong (g s a) (λ t. stages-same f g h t l)

module _ (at radii : List Float) (strength : Float) (iterations slots : ℕ) (m : Counted Flow) where
  once_walked : tree_check at (length radii) slots ≡ fine → (m : Counted Flow) → walk_all at radii strength m ≡ collide_once at radii strength slots m
  unfolding collide_once walk_all
  once_walked e m = rw e

  pub run-walked : tree_check at (length radii) slots ≡ fine → walk_times at radii strength iterations m ≡ run_collide at radii strength iterations slots m
  unfolding run_collide walk_times
  run-walked e = stages-same (λ m _. walk_all at radii strength m) (λ m _. collide_once at radii strength slots m) (λ m _. once_walked e m) m (up_to iterations)

  once_refused : {r : Refusal} → tree_check at (length radii) slots ≡ refused r → collide_once at radii strength slots m ≡ refused r
  unfolding collide_once
  once_refused e = rw e

  -- with no iteration none is built
  pub run_none : iterations ≡ 0 → done m ≡ run_collide at radii strength iterations slots m
  unfolding run_collide
  run_none e = rw e

pub run_refused : (at radii : List Float) (strength : Float) (iterations slots : ℕ) (m : Counted Flow) {r : Refusal} → (iterations ≡ 0 → ⊥) → tree_check at (length radii) slots ≡ refused r
    → refused r ≡ run_collide at radii strength iterations slots m
unfolding run_collide
run_refused at radii strength zero slots m n e = absurd (n refl)
run_refused at radii strength (suc k) slots m n e = rw (once_refused at radii strength (suc k) slots m e)

-- ---- how many nodes

nodes_radii : {at radii : List Float} {m : List ℕ} {q : Quadtree} → Rounded at radii m q → nodes (radius_tree at radii) ≤ 1 + 64 * length radii
nodes_radii {at} {radii} {m} {q} s =
    let t = s.valued.stands in
    let g : nodes (radius_tree at radii) ≡ q.nodes = ap nodes (sym (seen_radii s)) ∙ nodes_stands t (look m) in
    omega (arith, g, lays_nodes t, (tree-nodes at (length radii) (lays_levels t)).1)

pub few_visits : {at radii : List Float} {m : List ℕ} {q : Quadtree} (iterations : ℕ) → Rounded at radii m q → length radii ≤ most_particles → iterations ≤ most_iterations
    → iterations * (length radii * nodes (radius_tree at radii)) ≤ most_force_visits
few_visits {at} {radii} iterations s few times =
    let h : nodes (radius_tree at radii) ≤ 262145 = omega (arith, nodes_radii s, few) in
    omega (arith, mul-le-mul times (mul-le-mul few h))
