-- A particle's walk over the tree with its charges. Assumes nothing.
use mathlib.Core.Path.{◌≡◌, refl, sym, ap, ◌∙◌}
use mathlib.Core.List.{List, []}
use Prim.Native.Nat.{ℕ, zero, suc}
use native.Mathlib.Omega.{arith}
use lib.ListN.{length}
use lib.Ieee.{Float}
use Rattle.rules.specs.declared.Extent.{Extent}
use Rattle.rules.specs.declared.Refusal.{Refusal}
use Rattle.rules.specs.declared.Tuning.{Tuning}
use Rattle.rules.specs.Outcome.{Outcome, refused}
use Rattle.rules.specs.Tree.{Tree, nodes}
use Rattle.rules.specs.Walk.{Entry, internal, tip, Counted, After, walk}
use Rattle.rules.specs.Flow.{Flow}
use Rattle.rules.specs.ManyBody.{charged_tree, many_body_step}
use Rattle.tree_slots.specs.declared.Quadtree.{Quadtree}
use Rattle.tree_slots.specs.Trees.{word, LeafIn, Follows}
use Rattle.tree_walk.specs.Walk.{lay, seen}
use Rattle.tree_walk.proofs.Visits.{Visiting, Visited, start, turn-refused, turn-refused-leaf}
use Rattle.tree_walk.proofs.WalkStands.{found, nodes_stands}
use Rattle.many_body_chains.specs.Chain.{Few}
use Rattle.many_body_charge.specs.Charge.{Charged}
use Rattle.many_body_charge.proofs.ChargeChain.{chains-few}
use Rattle.many_body_node.specs.NodePull.{node_at}

module _ (at strengths : List Float) {m next : List ℕ} {q : Quadtree} (v : Charged at strengths m next q) where
  charged_tree_lem : seen (node_at m) q.extent v.stands.tree ≡ charged_tree at strengths
  unfolding charged_tree
  charged_tree_lem = v.values

  pub charged_nodes : nodes (charged_tree at strengths) ≡ q.nodes
  charged_nodes = ap nodes (sym charged_tree_lem) ∙ nodes_stands v.stands (node_at m)

  pub pull-start : (t : Tuning) (alpha : Float) (i : ℕ) (b : Counted Flow) {waits : _} → waits ≡ lay q.root q.extent []
      → Visiting (many_body_step t at strengths alpha i) (node_at m) (Few (length strengths)) m next (charged_tree at strengths) b waits b
  pull-start t alpha i b r =
      start (many_body_step t at strengths alpha i) (node_at m) (Few (length strengths)) m next q.root q.extent v.stands.tree (charged_tree at strengths) b
      (found v.stands (Few (length strengths)) (chains-few at (length strengths) v.stands)) v.stands.levels charged_tree_lem r

-- the step refuses, at an internal node or at a leaf
pub refused_there : {A S : Type 0} {step : Entry A → S → Outcome (After S)} {look : ℕ → Extent → A} {P : List ℕ → Type 0} {m next : List ℕ} {T : Tree A} {begun : Counted S} {waits : _} {now : Counted S} {e : _} {rest : _}
    (t : Visited step look P m next T begun waits now e rest) {r : Refusal} → (word m e.slot 0 ≡ 0 → step (internal (look e.slot e.extent)) now.state ≡ refused r)
    → ((word m e.slot 0 ≡ 0 → ⊥) → (is : List ℕ) → Follows next is → LeafIn m e.slot is → P is → step (tip (look e.slot e.extent) is) now.state ≡ refused r)
    → walk step T begun ≡ refused r
refused_there {step = step} {m = m} {T = T} {begun = begun} {e = e} t {r} a b = go (word m e.slot 0) refl
  where
    go : (n : ℕ) → n ≡ word m e.slot 0 → walk step T begun ≡ refused r
    go zero k = turn-refused t (sym k) (a (sym k))
    go (suc n) k = let z : word m e.slot 0 ≡ 0 → ⊥ = λ z. omega arith in turn-refused-leaf t z (b z)
