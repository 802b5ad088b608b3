-- The pulls of a near leaf's members, one after the other. Assumes nothing.
use mathlib.Core.Path.{◌≡◌}
use mathlib.Core.Bool.{Bool, true, false, cond, not}
use mathlib.Core.List.{List, [], ◌∷◌}
use Prim.Native.Nat.{ℕ}
use lib.Dec.{eqb}
use lib.Ieee.{Float}
use Rattle.rules.specs.Plain.{foldl, others}
use Rattle.rules.specs.Flow.{Gap}
use Rattle.rules.specs.ManyBody.{pull_member, pull_members}
use Rattle.many_body_pulls.specs.declared.aim.Aim.{Aim}
use Rattle.many_body_pulls.specs.Aims.{gap_of}

-- all these members but the particle itself, as the code aims
abbrev pub all_pull : List Float → Float → ℕ → Aim → List Float → List ℕ → List Float
all_pull strengths alpha i aim vs is = pull_members strengths alpha i is (gap_of aim.gap) aim.l vs

module _ (strengths : List Float) (alpha : Float) (i : ℕ) (g : Gap) (l : Float) where
  -- one member after the other
  pub member_on : (vs ws : List Float) (j : ℕ) → ws ≡ pull_members strengths alpha i (j ∷ []) g l vs → (is : List ℕ) → pull_members strengths alpha i (j ∷ is) g l vs ≡ pull_members strengths alpha i is g l ws
  member_on vs ws j e is = go (eqb j i) e
    where
      go : (b : Bool) → ws ≡ foldl (pull_member strengths alpha i g l) vs (cond (not b) (j ∷ []) [])
          → foldl (pull_member strengths alpha i g l) vs (cond (not b) (j ∷ others i is) (others i is)) ≡ foldl (pull_member strengths alpha i g l) ws (others i is)
      go true e = rw e
      go false e = rw e
