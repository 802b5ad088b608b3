-- How a leaf comes into the slots: hung under a node, or put beside the leaf that stands there. Definitions only.
use Rattle.std.specs.Prelude.{List, ℕ, zero, suc, ◌+◌, ◌*◌, ◌^◌, ◌≤◌, ◌<◌, length, set, Float}
use Rattle.rules.specs.declared.Extent.{Extent}
use Rattle.rules.specs.Plain.{branch}
use Rattle.rules.specs.Number.{x_at, y_at}
use Rattle.rules.specs.Refusal.{most_particles}
use Rattle.rules.specs.Cell.{quadrant, quarter}
use Rattle.rules.specs.Tree.{in_quarter}
use Rattle.rules.specs.Calls.{slot_words}
use Rattle.tree_slots.specs.Slots.{InSlots, childless, kids, put_internal, put_leaf}

-- a leaf of p in slot x, as child k of slot s
unfoldable pub hung : ℕ → List ℕ → ℕ → ℕ → ℕ → List ℕ
hung p m s k x = put_leaf (put_internal m s (set (kids m s) k (x + 1))) x p

-- slot s becomes an internal node over two new leaves, from slot x on: of f as child j, of p as child k
abbrev pub forked : ℕ → ℕ → List ℕ → ℕ → ℕ → ℕ → ℕ → List ℕ
forked f p m s j k x = put_leaf (put_leaf (put_internal m s (set (set childless j (x + 1)) k (x + 2))) x f) (x + 1) p

module _ (at : List Float) (p : ℕ) where
  -- the quadrant of the point p
  abbrev pub side : Extent → ℕ
  side c = quadrant c (x_at at p) (y_at at p)

  -- how many levels from the cell c on, n at the most, the point i shares the quadrant of p
  abbrev pub shared_levels : ℕ → Extent → ℕ → ℕ
  shared_levels zero c i = 0
  shared_levels (suc n) c i = branch (in_quarter at c (side c) i) (λ _. suc (shared_levels n (quarter (side c) c) i)) (λ _. 0)

  -- The leaf of f in slot s is split: internal nodes for the g + 1 levels from the cell c on, the first in slot s and the others from slot x on, then the leaves of f and p.
  abbrev pub parted : ℕ → ℕ → Extent → ℕ → ℕ → List ℕ → List ℕ
  parted f zero c s x m = forked f p m s (quadrant c (x_at at f) (y_at at f)) (side c) x
  parted f (suc g) c s x m = parted f g (quarter (side c) c) x (x + 1) (put_internal m s (set childless (side c) (x + 1)))

-- what a fork asks
pub record Forks (m : List ℕ) (s j k x f p : ℕ) : Type 0 where
  pub own : InSlots s m
  pub first-quadrant : j < 4
  pub new_quadrant : k < 4
  pub room : (x + 2) * slot_words ≤ length m
  pub small : x + 2 < 2 ^ 32
  pub first : f < most_particles
  pub new : p < most_particles

-- what a split asks of its slots and particles
pub record Splits (m : List ℕ) (places s x g f p : ℕ) : Type 0 where
  pub own : InSlots s m
  pub room : (x + g + 2) * slot_words ≤ length m
  pub small : x + g + 2 < 2 ^ 32
  pub first : f < most_particles
  pub new : p < most_particles
  pub first_place : f * 2 + 2 ≤ places
  pub new_place : p * 2 + 2 ≤ places
