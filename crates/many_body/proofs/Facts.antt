-- A fact of ManyBody that stands by itself, over the rules alone: who draws nothing.
use mathlib.Core.Path.{◌≡◌, refl, ap, ◌∙◌}
use mathlib.Core.Bool.{true, false}
use mathlib.Core.List.{List, [], ◌∷◌}
use Prim.Native.Nat.{ℕ}
use borrow.Author.Tests.{eq-eqb}
use lib.Ieee.{Float}
use Rattle.rules.specs.declared.Extent.{Extent}
use Rattle.rules.specs.declared.Tuning.{Tuning}
use Rattle.rules.specs.declared.Visit.TheVariants.{Continue}
use Rattle.rules.specs.Number.{finite, x_at, y_at}
use Rattle.rules.specs.Outcome.{done}
use Rattle.rules.specs.Walk.{tip, after}
use Rattle.rules.specs.Flow.{Flow, Gap, length²}
use Rattle.rules.specs.ManyBody.{Charge, leaf_charge, gap_to, far, alone, act_near, many_body_step, standard}
use Rattle.many_body.proofs.OwnLeaf.{own-length, square_unsigned, never-far}

-- ---- a particle alone in its own leaf

module _ (t : Tuning) (strengths : List Float) (alpha : Float) (i : ℕ) (is : List ℕ) (h : alone i is ≡ true) where
  -- The leaf does nothing to it: no velocity changes and no draw is used.
  pub alone-near : (g : Gap) (l : Float) (σ : Flow) → act_near t strengths alpha i is g l σ ≡ done σ
  unfolding act_near
  alone-near g l σ = rw h

  -- So a walk that meets the leaf near goes on with the velocities and the draws as they were.
  pub alone_met : (at : List Float) (c : Extent) (q : Charge) (σ : Flow) → far t c (length² (gap_to at i q)) ≡ false
      → many_body_step t at strengths alpha i (tip (c, q) is) σ ≡ done (after σ Continue)
  unfolding many_body_step
  alone_met at c q σ e = rw (e, alone-near (gap_to at i q) (length² (gap_to at i q)) σ)

-- With the standard settings its own leaf is never far. So whatever the cell, a particle alone there draws nothing.
pub own_leaf : (at strengths : List Float) (alpha : Float) (i : ℕ) (c : Extent) (σ : Flow) → finite (x_at at i) ≡ true → finite (y_at at i) ≡ true
    → many_body_step standard at strengths alpha i (tip (c, leaf_charge at strengths (i ∷ [])) (i ∷ [])) σ ≡ done (after σ Continue)
own_leaf at strengths alpha i c σ hx hy =
    alone_met standard strengths alpha i (i ∷ []) (eq-eqb i i refl) at c (leaf_charge at strengths (i ∷ [])) σ
    (ap (far standard c) (own-length at strengths i hx hy) ∙ never-far standard c (square_unsigned _))
