-- Building the tree of all particles. Definitions only.
use Rattle.std.specs.Prelude.{◌≡◌, List, ℕ, ◌+◌, ◌*◌, ◌/◌, ◌≤◌, ◌<◌, length, Float, Result}
use Rattle.rules.specs.declared.Refusal.{Refusal}
use Rattle.rules.specs.Cell.{nowhere}
use Rattle.rules.specs.Cover.{cover_first, extent_of}
use Rattle.rules.specs.Outcome.{outcome_of, DoneUnless}
use Rattle.rules.specs.Refusal.{most_particles}
use Rattle.rules.specs.Tree.{tree_check}
use Rattle.rules.specs.Calls.{slots_of}
use Rattle.tree_slots.specs.declared.Quadtree.{Quadtree}
use Rattle.tree_cells.specs.declared.cover.Covered.{Covered}
use Rattle.tree_slots.specs.Trees.{Stands}
use Rattle.tree_placing.specs.Add.{Ranged, Covers}

-- how many particles have their places in the list
abbrev pub particles : List Float → ℕ
particles at = length at / 2

-- not too many particles, within 2 ^ 40 of zero, and a link and a tail for each
pub record Lent (at : List Float) (next tail : List ℕ) : Type 0 where
  pub ranged : Ranged at (particles at)
  pub few : particles at ≤ most_particles
  pub links : length next ≡ particles at
  pub tails : length tail ≡ particles at

-- the tree of no particles
abbrev pub no_tree : Quadtree
no_tree = record { extent = nowhere; root = 0; nodes = 0; deepest = 0 }

-- It is refused as the rules refuse it: the earliest particle whose prefix breaks 6 or 7, 6 if both; otherwise the slots hold the tree of all particles, in the extent reached by covering them in order.
abbrev pub Builds : List Float → List ℕ → List ℕ → Result Quadtree Refusal → Type 0
Builds at m next b =
    DoneUnless (tree_check at (particles at) (slots_of m)) (λ q. Stands at (particles at) m next q × (q.extent ≡ extent_of (cover_first at (particles at)))) (outcome_of b)

-- a tree in the extent of the particles before p, with a root if there are any
pub record ComesNext (at : List Float) (q : Quadtree) (p : ℕ) : Type 0 where
  pub extent : q.extent ≡ extent_of (cover_first at p)
  pub empty : p ≡ 0 → q.root ≡ 0
  pub ranged : Ranged at (p + 1)
  pub read : p * 2 + 2 ≤ length at

-- the extent with p
pub record Extends (at : List Float) (q : Quadtree) (p : ℕ) (c : Covered) : Type 0 where
  pub extent : c.extent ≡ extent_of (cover_first at (p + 1))
  pub covers : 0 < q.root → Covers at q c p
