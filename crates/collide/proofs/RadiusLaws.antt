-- What is laid as a node's radius is a number with a bit pattern, and is the rules' radius. Assumes nothing.
use mathlib.Core.Path.{◌≡◌, ap}
use mathlib.Core.Bool.{Bool, true, false, cond}
use mathlib.Core.List.{List, [], ◌∷◌}
use Prim.Native.Nat.{ℕ, zero, suc, ◌+◌, ◌-◌, ◌<◌}
use native.Mathlib.Omega.{arith}
use lib.Dec.{T}
use lib.ListN.{get_or}
use lib.Ieee.{Float, nan, lt, eq, fits, binary64}
use lib.Ieee.Bits.{of_bits-fits}
use Rattle.rules.specs.Plain.{foldl}
use Rattle.rules.specs.Number.{0·, plain_zero}
use Rattle.rules.specs.Collide.{greater, radius_of, leaf_radius, node_radius}
use Rattle.tree_slots.specs.Trees.{kids, Follows, first, Below, ChainFrom}
use Rattle.tree_walk.specs.WalkAfter.{kid_values}
use Rattle.tree_walk.proofs.WalkAfter.{values_of, values_of_kids}
use Rattle.collide.specs.Radius.{radius_in}

-- ---- bit patterns

plain_fits : (x : Float) → T (fits binary64 x) → T (fits binary64 (plain_zero x))
unfolding plain_zero
plain_fits x h = go (eq x 0·)
  where
    go : (b : Bool) → T (fits binary64 (cond b 0· x))
    go true = of_bits-fits binary64 0
    go false = h

pub leaf_fits : (radii : List Float) → ((j : ℕ) → T (fits binary64 (get_or radii j nan))) → (is : List ℕ) → T (fits binary64 (leaf_radius radii is))
unfolding fits
leaf_fits radii h [] = tt
leaf_fits radii h (j ∷ js) = plain_fits (get_or radii j nan) (h j)

greater-fits : (a b : Float) → T (fits binary64 a) → T (fits binary64 b) → T (fits binary64 (greater a b))
greater-fits a b h k = go (lt a b)
  where
    go : (c : Bool) → T (fits binary64 (cond c b a))
    go true = k
    go false = h

values_fit : (m ps : List ℕ) (a : Float) → T (fits binary64 a) → T (fits binary64 (foldl greater a (values_of radius_in m ps)))
values_fit m [] a h = h
values_fit m (zero ∷ ps) a h = values_fit m ps a h
values_fit m (suc s ∷ ps) a h = values_fit m ps (greater a (radius_in m s)) (greater-fits a (radius_in m s) h (of_bits-fits binary64 _))

pub node_fits : (m : List ℕ) (s : ℕ) → T (fits binary64 (node_radius (kid_values radius_in m s)))
node_fits m s = rw (← values_of_kids radius_in m s) (values_fit m (kids m s) 0· (of_bits-fits binary64 0))

-- ---- a leaf

-- a chain of some of n particles begins with one of them
pub chain-below : {next : List ℕ} {n f : ℕ} → ChainFrom next (Below n) f → f < n
chain-below {next} {n} {f} c = go c.members c.follows c.starts c.good
  where
    go : (is : List ℕ) → Follows next is → first is ≡ f → Below n is → f < n
    go [] h e b = absurd h
    go (i ∷ is) h e b = omega (arith, b.0, e)

-- t is the tag of a leaf
pub leaf_radius_lem : (radii : List Float) (next is : List ℕ) (t : ℕ) → Follows next is → t ≡ first is + 1 → radius_of radii (t - 1) ≡ leaf_radius radii is
leaf_radius_lem radii next [] t h e = absurd h
leaf_radius_lem radii next (j ∷ js) t h e = let k : t - 1 ≡ j = omega arith in ap (radius_of radii) k
