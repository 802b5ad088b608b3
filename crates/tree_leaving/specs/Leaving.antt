-- A particle leaves its chain. Definitions only.
use Rattle.std.specs.Prelude.{◌≡◌, List, ℕ, ◌+◌, ◌-◌, ◌≤◌, ◌<◌, length, get_or}
use Rattle.rules.specs.Refusal.{most_particles}
use Rattle.rules.specs.Plain.{others}
use Rattle.rules.proofs.CellList.{In}
use Rattle.tree_slots.specs.Trees.{Trails, Rises, last_or, Below}

-- js is the chain of f, in ascending order, and i a member of it
pub record Member (next js : List ℕ) (f i : ℕ) : Type 0 where
  pub trails : Trails next (f + 1) js
  pub rises : Rises 0 js
  pub within : In i js
  pub below : Below (length next) js
  pub first : f < length next
  pub own : i < length next
  pub few : length next ≤ most_particles

-- r is the member before i
pub record Precedes (next : List ℕ) (f i r : ℕ) : Type 0 where
  pub less : r < length next
  pub link : get_or next r 0 ≡ i + 1
  pub member : (js : List ℕ) → Trails next (f + 1) js → In r js

-- The chain without i, from the link r on, and its last member; all else is as it was.
pub record Left (next tail next' tail' js : List ℕ) (f i r : ℕ) : Type 0 where
  pub trails : Trails next' r (others i js)
  pub last : get_or tail f 0 ≡ last_or 0 js → (r ≡ 0 → ⊥) → get_or tail' (r - 1) 0 ≡ last_or 0 (others i js)
  pub links : length next' ≡ length next
  pub tails : length tail' ≡ length tail
  pub elsewhere : (k : ℕ) → (In k js → ⊥) → (get_or next' k 0 ≡ get_or next k 0) × (get_or tail' k 0 ≡ get_or tail k 0)
