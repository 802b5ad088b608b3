-- A list of counts with one end more, and the strength that follows from two counts. Definitions only.
use Rattle.std.specs.Prelude.{List, [], ◌∷◌, ℕ, ◌+◌, min, get_or, set, Float}
use Rattle.std.specs.Float.{nan}
use Rattle.rules.specs.Number.{◌⊘◌, 1·, float}

-- one end more of particle i
abbrev pub one_more : List ℕ → ℕ → List ℕ
one_more cs i = set cs i (get_or cs i 0 + 1)

-- the strength of link number k, its ends having these counts
abbrev pub strength_or : List Float → ℕ → ℕ → ℕ → Float
strength_or [] k source target = 1· ⊘ float (min source target)
strength_or (s ∷ ss) k source target = get_or (s ∷ ss) k nan
