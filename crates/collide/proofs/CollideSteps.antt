-- The walk of one particle, from the code's answers at a node to the rule's step. Assumes nothing.
use mathlib.Core.Path.{◌≡◌, refl}
use mathlib.Core.Bool.{Bool, true, false}
use mathlib.Core.List.{List, [], ◌∷◌}
use Prim.Native.Nat.{ℕ, ◌+◌, ◌-◌}
use native.Mathlib.Omega.{arith}
use lib.ListN.{length}
use lib.Ieee.{Float}
use Rattle.rules.specs.declared.Extent.{Extent}
use Rattle.rules.specs.declared.Refusal.{Refusal}
use Rattle.rules.specs.declared.Visit.{Visit}
use Rattle.rules.specs.declared.Visit.TheVariants.{Continue, Skip}
use Rattle.rules.specs.Outcome.{done, refused}
use Rattle.rules.specs.Number.{◌⊕◌}
use Rattle.rules.specs.Walk.{internal, tip, Counted, after, stop_if}
use Rattle.rules.specs.Flow.{Flow}
use Rattle.rules.specs.Collide.{radius_of, radius_tree, away, meet_first, collide_step}
use Rattle.tree_slots.specs.declared.Quadtree.{Quadtree}
use Rattle.tree_slots.specs.Trees.{Follows, first, Below}
use Rattle.tree_walk.specs.declared.parent_first.Waiting.{Waiting}
use Rattle.tree_walk.specs.Walk.{lay, seen}
use Rattle.tree_walk.proofs.Visits.{Visiting, Visited, start}
use Rattle.tree_walk.proofs.WalkStands.{chains-below, found}
use Rattle.collide.specs.Radius.{radius_in, Rounded}

-- a node's cell, and its radius
abbrev pub look : List ℕ → ℕ → Extent → Extent × Float
look m s c = (c, radius_in m s)

-- what is seen in the slots is the rule's tree
pub seen_radii : {at radii : List Float} {m : List ℕ} {q : Quadtree} (s : Rounded at radii m q) → seen (look m) q.extent s.valued.stands.tree ≡ radius_tree at radii
unfolding radius_tree
seen_radii s = s.valued.values

module _ (at radii : List Float) (strength : Float) (i : ℕ) where
  -- what holds of the walk at each turn, and in a turn with e handed out
  abbrev pub Goes : List ℕ → List ℕ → Counted Flow → List Waiting → Counted Flow → Type 0
  Goes m next b waits s = Visiting (collide_step at radii strength i) (look m) (Below (length radii)) m next (radius_tree at radii) b waits s

  abbrev pub GoesOn : List ℕ → List ℕ → Counted Flow → List Waiting → Counted Flow → Waiting → List Waiting → Type 0
  GoesOn m next b waits s e rest = Visited (collide_step at radii strength i) (look m) (Below (length radii)) m next (radius_tree at radii) b waits s e rest

  pub sets-out : {m : List ℕ} {q : Quadtree} (s : Rounded at radii m q) (b : Counted Flow) {waits : List Waiting} → waits ≡ lay q.root q.extent [] → Goes m s.next b waits b
  sets-out {m} {q} s b r =
      let t = s.valued.stands in
      start (collide_step at radii strength i) (look m) (Below (length radii)) m s.next q.root q.extent t.tree (radius_tree at radii) b (found t (Below (length radii)) (chains-below at (length radii) t)) t.levels (seen_radii s) r

  pub handed : {m next : List ℕ} {b s : Counted Flow} {waits rest : List Waiting} {e : Waiting} → Goes m next b waits s → waits ≡ e ∷ rest → GoesOn m next b waits s e rest
  handed g p = record { visiting = g; popped = p }

  -- an internal node: b says whether it is away
  module _ (n : Extent × Float) (σ : Flow) (b : Bool) (e : b ≡ away at i n.0 (radius_of radii i ⊕ n.1)) where
    pub node_skipped : b ≡ true → collide_step at radii strength i (internal n) σ ≡ done (after σ Skip)
    unfolding collide_step
    node_skipped h = rw (← e, h)

    pub node_opened : b ≡ false → collide_step at radii strength i (internal n) σ ≡ done (after σ Continue)
    unfolding collide_step
    node_opened h = rw (← e, h)

  -- and v, which is v', whether what lies below is left out
  pub node_step : (n : Extent × Float) (σ : Flow) (b : Bool) (v v' : Visit) → b ≡ away at i n.0 (radius_of radii i ⊕ n.1) → v ≡ stop_if b → v ≡ v'
      → collide_step at radii strength i (internal n) σ ≡ done (after σ v')
  node_step n σ true v v' eb ev e = rw (← e, ev) (node_skipped n σ true eb refl)
  node_step n σ false v v' eb ev e = rw (← e, ev) (node_opened n σ false eb refl)

  -- a leaf's tag t names the first of its chain
  first_meets : (rj : Float) (next is : List ℕ) (t : ℕ) (σ : Flow) → Follows next is → t ≡ first is + 1 → meet_first at radii strength i rj ((t - 1) ∷ []) σ ≡ meet_first at radii strength i rj is σ
  first_meets rj next [] t σ f e = absurd f
  first_meets rj next (j ∷ js) t σ f e = let k : t - 1 ≡ j = omega arith in rw k

  module _ (n : Extent × Float) (next is : List ℕ) (t : ℕ) (σ : Flow) (f : Follows next is) (e : t ≡ first is + 1) where
    pub leaf_met : {τ : Flow} → done τ ≡ meet_first at radii strength i n.1 ((t - 1) ∷ []) σ → collide_step at radii strength i (tip n is) σ ≡ done (after τ Continue)
    unfolding collide_step
    leaf_met says = rw (← first_meets n.1 next is t σ f e, ← says)

    pub leaf_dry : {r : Refusal} → refused r ≡ meet_first at radii strength i n.1 ((t - 1) ∷ []) σ → collide_step at radii strength i (tip n is) σ ≡ refused r
    unfolding collide_step
    leaf_dry says = rw (← first_meets n.1 next is t σ f e, ← says)
