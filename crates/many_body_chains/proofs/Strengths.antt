-- The sum of a chain's strengths is its leaf's. Assumes nothing.
use mathlib.Core.Path.{◌≡◌}
use mathlib.Core.List.{List, ◌∷◌, map}
use Prim.Native.Nat.{ℕ}
use lib.Ieee.{Float}
use Rattle.rules.specs.Plain.{foldl}
use Rattle.rules.specs.Number.{◌⊕◌, 0·, x_at, y_at}
use Rattle.rules.specs.ManyBody.{charge, strength_of, leaf_charge}
use Rattle.many_body_chains.specs.Chain.{Chain}
use Rattle.many_body_chains.proofs.Chains.{rest_of, chain-whole}

-- the strengths of more members added
abbrev pub added : List Float → Float → List ℕ → Float
added strengths s is = foldl ◌⊕◌ s (map (strength_of strengths) is)

pub leaf_of : (at strengths : List Float) (is : List ℕ) (f : ℕ) (js : List ℕ) → is ≡ f ∷ js → leaf_charge at strengths is ≡ charge (x_at at f) (y_at at f) (strength_of strengths f ⊕ added strengths 0· js)
unfolding leaf_charge
leaf_of at strengths is f js e = rw e

module _ {next : List ℕ} {n f : ℕ} (h : Chain next n f) (strengths : List Float) where
  pub chain-sum : (own rest : Float) → own ≡ strength_of strengths f → rest ≡ added strengths 0· (rest_of h.members) → own ⊕ rest ≡ (leaf_charge strengths strengths h.members).strength
  chain-sum own rest p q = rw (p, q, leaf_of strengths strengths h.members f (rest_of h.members) (chain-whole h))
