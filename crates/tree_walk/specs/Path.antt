-- What a path hands out next, of what is still to be handed out along it. Definitions only.
use Rattle.std.specs.Prelude.{◌≡◌, List, [], ◌∷◌, ℕ}
use Rattle.rules.specs.Walk.{Entry}
use Rattle.tree_slots.specs.Trees.{InSlots}
use Rattle.tree_walk.specs.WalkAfter.{Step, Climbs, EntryAt}

-- along the path p some entries, or none, are still to be handed out
pub record Climbing (m : List ℕ) (p : List Step) : Type 0 where
  pub next : List ℕ
  pub rest : List (Entry ℕ)
  pub climbs : Climbs m next p rest

-- along the path p nothing is
abbrev pub Climbed : List ℕ → List Step → Type 0
Climbed m p = (next : List ℕ) (rest : List (Entry ℕ)) → Climbs m next p rest → rest ≡ []

-- the first of the entries that are to be handed out stands at the slot s, and the others are left along the path p
pub record First (m next : List ℕ) (p : List Step) (s : ℕ) (rest : List (Entry ℕ)) : Type 0 where
  pub entry : Entry ℕ
  pub others : List (Entry ℕ)
  pub split : rest ≡ entry ∷ others
  pub stands : EntryAt m next s entry
  pub lent : InSlots s m
  pub climbs : Climbs m next p others

-- from the path p the walk went on to the node at the slot s, with the path p' then, whatever was to be handed out
pub record HandsOut (m : List ℕ) (p p' : List Step) (s : ℕ) : Type 0 where
  pub first : (next : List ℕ) (rest : List (Entry ℕ)) → Climbs m next p rest → First m next p' s rest
