-- Chains followed by their links: what is still to come, and that it falls at each turn. Assumes nothing.
use mathlib.Core.Path.{◌≡◌, refl, sym, ap, ◌∙◌, subst, subst⁻¹}
use mathlib.Core.List.{List, [], ◌∷◌}
use Prim.Native.Nat.{ℕ, zero, suc, ◌+◌, ◌-◌, ◌≤◌, ◌<◌}
use native.Mathlib.Numerals.{add-one}
use native.Mathlib.Omega.{arith}
use lib.ListN.{length, get_or}
use Rattle.tree_slots.specs.Trees.{Follows, first}
pub use Rattle.tree_slots.specs.Trees.{Trails}
use Rattle.tree_slots.proofs.Links.{follows_trails}
use Rattle.many_body_chains.specs.Chain.{Few, Chain}

-- how many come from a link on, of at most k
unfoldable pub links_left : List ℕ → ℕ → ℕ → ℕ
links_left next zero l = 0
links_left next (suc k) zero = 0
links_left next (suc k) (suc i) = suc (links_left next k (get_or next i 0))

left_trails : (next : List ℕ) (k l : ℕ) (is : List ℕ) → Trails next l is → length is ≤ k → links_left next k l ≡ length is
unfolding links_left
left_trails next zero l [] t h = refl
left_trails next (suc k) l [] t h = rw t
left_trails next zero l (i ∷ is) t h = absurd (omega arith)
left_trails next (suc k) l (i ∷ is) t h = rw (t.0, add-one i, left_trails next k (get_or next i 0) is t.1 (omega arith))

-- A chain of at most n members below n is followed, and has come to a link: what `act` makes of the members that are left is what it made of them all.
pub record Along {S : Type 0} (act : S → List ℕ → S) (next : List ℕ) (n : ℕ) (whole : S) (link : ℕ) (now : S) : Type 0 where
  pub rest : List ℕ
  pub trails : Trails next link rest
  pub good : Few n rest
  pub same : act now rest ≡ whole

module _ {S : Type 0} {act : S → List ℕ → S} {next : List ℕ} {n : ℕ} {whole : S} {link : ℕ} {now : S} (a : Along act next n whole link now) where
  -- at the end
  pub ends : link ≡ 0 → act now [] ≡ whole
  ends z = go a.rest a.trails a.same
    where
      go : (is : List ℕ) → Trails next link is → act now is ≡ whole → act now [] ≡ whole
      go [] t e = e
      go (i ∷ is) t e = absurd (omega (arith, z, t.0))

  module _ (z : link ≡ 0 → ⊥) where
    -- the next member, and those after it
    split : (i : ℕ) × (is : List ℕ) × (a.rest ≡ i ∷ is) × (link ≡ i + 1)
    split = go a.rest a.trails
      where
        go : (is : List ℕ) → Trails next link is → (i : ℕ) × (js : List ℕ) × (is ≡ i ∷ js) × (link ≡ i + 1)
        go [] t = absurd (z t)
        go (i ∷ is) t = (i, is, refl, t.0)

    member : split.0 ≡ link - 1
    member = omega (arith, split.3)

    parts : Trails next link (split.0 ∷ split.1) × Few n (split.0 ∷ split.1) × (act now (split.0 ∷ split.1) ≡ whole)
    parts = (subst (Trails next link) split.2 a.trails, subst (Few n) split.2 a.good, ap (act now) (sym split.2) ∙ a.same)

    pub in_reach : link - 1 < n
    in_reach = subst (λ (i : ℕ). i < n) member parts.1.below.0

    -- the member has acted
    pub along : (s : S) → ((is : List ℕ) → act now ((link - 1) ∷ is) ≡ act s is) → Along act next n whole (get_or next (link - 1) 0) s
    along s e =
        record {
          rest = split.1;
          trails = subst (λ (i : ℕ). Trails next (get_or next i 0) split.1) member parts.0.1;
          good = record { below = parts.1.below.1; few = omega (arith, parts.1.few) };
          same = sym (e split.1) ∙ ap (λ (i : ℕ). act now (i ∷ split.1)) (sym member) ∙ parts.2;
        }

    -- fewer are left
    pub fewer : links_left next n (get_or next (link - 1) 0) < links_left next n link
    fewer =
        omega (
          arith,
          left_trails next n link (split.0 ∷ split.1) parts.0 parts.1.few,
          left_trails next n (get_or next (link - 1) 0) split.1 (subst (λ (i : ℕ). Trails next (get_or next i 0) split.1) member parts.0.1) (omega (arith, parts.1.few)),
        )

-- ---- the chain of a leaf

abbrev pub rest_of : List ℕ → List ℕ
rest_of [] = []
rest_of (i ∷ is) = is

module _ {next : List ℕ} {n f : ℕ} (h : Chain next n f) where
  -- its first particle and the rest
  pub chain-whole : h.members ≡ f ∷ rest_of h.members
  chain-whole = go h.members h.follows h.starts
    where
      go : (is : List ℕ) → Follows next is → first is ≡ f → is ≡ f ∷ rest_of is
      go [] l e = absurd l
      go (i ∷ is) l e = ap (λ (j : ℕ). j ∷ is) e

  pieces : Trails next (f + 1) (f ∷ rest_of h.members) × Few n (f ∷ rest_of h.members)
  pieces = (
    subst (Trails next (f + 1)) chain-whole (subst (λ (i : ℕ). Trails next (i + 1) h.members) h.starts (follows_trails next h.members h.follows)),
    subst (Few n) chain-whole h.good,
  )

  pub chain_first : f < n
  chain_first = pieces.1.below.0

  pub chain_trails : Trails next (f + 1) h.members
  chain_trails = subst⁻¹ (Trails next (f + 1)) chain-whole pieces.0

  pub rest_trails : Trails next (get_or next f 0) (rest_of h.members)
  rest_trails = pieces.0.1

  pub rest-few : Few n (rest_of h.members)
  rest-few = record { below = pieces.1.below.1; few = omega (arith, pieces.1.few) }
