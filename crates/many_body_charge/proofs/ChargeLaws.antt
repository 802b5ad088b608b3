-- Charges of leaves and nodes as the code sums them, and that they can be laid in a slot. Assumes nothing.
use mathlib.Core.Path.{◌≡◌, refl}
use mathlib.Core.List.{List, [], ◌∷◌}
use Prim.Native.Nat.{ℕ}
use lib.Dec.{T}
use lib.ListN.{get_or}
use lib.Ieee.{Float, nan, fits, binary64}
use lib.Ieee.Bits.{of_bits-fits}
use lib.Ieee.Fits.{nan-fits, add-fits, div-fits}
use Rattle.rules.specs.Plain.{foldl}
use Rattle.rules.specs.Number.{x_at, y_at}
use Rattle.rules.specs.ManyBody.{Charge, charge, Sums, with_child, node_charge, leaf_charge}
use Rattle.tree_walk.proofs.WalkValues.{Writes, three_values}
use Rattle.many_body_chains.specs.Chain.{Few, Chain}
use Rattle.many_body_chains.proofs.Chains.{rest_of, chain-whole}
use Rattle.many_body_chains.proofs.Strengths.{leaf_of}
use Rattle.many_body_charge.specs.Charge.{read_charge, put_charge}

module _ {next : List ℕ} {n f : ℕ} (h : Chain next n f) (strengths : List Float) where
  pub leaf_charge_lem : (at : List Float) (s : Float) → s ≡ (leaf_charge strengths strengths h.members).strength → charge (x_at at f) (y_at at f) s ≡ leaf_charge at strengths h.members
  leaf_charge_lem at s e = rw (e, leaf_of strengths strengths h.members f (rest_of h.members) (chain-whole h), leaf_of at strengths h.members f (rest_of h.members) (chain-whole h))

-- ---- they can be laid in a slot

-- its numbers are f64
abbrev pub Fit : Charge → Type 0
Fit q = T (fits binary64 q.x) × T (fits binary64 q.y) × T (fits binary64 q.strength)

pub charge_values : Writes Fit read_charge put_charge
charge_values = three_values charge (λ q. q.x) (λ q. q.y) (λ q. q.strength) (λ q. refl)

child_fit : (s : Sums) (q : Charge) → T (fits binary64 (with_child s q).strength)
unfolding with_child
child_fit s q = add-fits binary64 _ _

sums_fit : (qs : List Charge) (s : Sums) → T (fits binary64 s.strength) → T (fits binary64 (foldl with_child s qs).strength)
sums_fit [] s h = h
sums_fit (q ∷ qs) s h = sums_fit qs (with_child s q) (child_fit s q)

pub node_fit : (qs : List Charge) → Fit (node_charge qs)
unfolding node_charge
node_fit qs = (div-fits binary64 _ _, div-fits binary64 _ _, sums_fit qs _ (of_bits-fits binary64 0))

pub leaf_fit : (at strengths : List Float) → ((i : ℕ) → T (fits binary64 (get_or at i nan))) → (n : ℕ) (is : List ℕ) → Few n is → Fit (leaf_charge at strengths is)
unfolding leaf_charge
leaf_fit at strengths k n [] h = (nan-fits binary64, nan-fits binary64, nan-fits binary64)
leaf_fit at strengths k n (i ∷ is) h = (k _, k _, add-fits binary64 _ _)
