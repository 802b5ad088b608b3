-- Places in pairs: one axis of them, all of them moved, and what their sums come to. Definitions only.
use Rattle.std.specs.Prelude.{cond, List, [], ◌∷◌, ℕ, eqb, Float}
use Rattle.rules.specs.Number.{◌⊕◌, ◌⊖◌, ◌⊗◌, ◌⊘◌, float}
use Rattle.center.specs.declared.Pair.{Pair}

-- one number of each pair: the first for axis 0, else the second
abbrev pub column : ℕ → List Float → List Float
column axis [] = []
column axis (x ∷ []) = []
column axis (x ∷ y ∷ l) = cond (eqb axis 0) x y ∷ column axis l

-- every pair moved back by a shift
abbrev pub shifted_pairs : Float → Float → List Float → List Float
shifted_pairs sx sy [] = []
shifted_pairs sx sy (x ∷ []) = x ∷ []
shifted_pairs sx sy (x ∷ y ∷ l) = (x ⊖ sx) ∷ (y ⊖ sy) ∷ shifted_pairs sx sy l

-- a number for each axis
abbrev pub pair : Float → Float → Pair
pair x y = record { x = x; y = y }

-- the sums with one place more
abbrev pub added_to : Pair → Float → Float → Pair
added_to sums x y = pair (sums.x ⊕ x) (sums.y ⊕ y)

-- how far the mean of n places lies from x, y, times the strength
abbrev pub offsets_of : Pair → ℕ → Float → Float → Float → Pair
offsets_of sums n x y strength = pair ((sums.x ⊘ float n ⊖ x) ⊗ strength) ((sums.y ⊘ float n ⊖ y) ⊗ strength)
