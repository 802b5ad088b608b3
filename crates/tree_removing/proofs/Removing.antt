-- A particle leaves its chain: the other chains are as they were.
use mathlib.Core.Path.{◌≡◌, refl, sym, ap, ◌∙◌, subst}
use mathlib.Core.Bool.{Bool, true, false, not, true≢false}
use mathlib.Core.List.{List, [], ◌∷◌}
use Prim.Native.Nat.{ℕ, ◌+◌, ◌-◌, ◌<◌}
use native.Mathlib.Omega.{arith}
use lib.Dec.{eqb}
use lib.ListN.{length, get_or}
use lib.Ieee.{Float}
use borrow.Author.Tests.{ne_eqb}
use Rattle.rules.specs.Tree.{same}
use Rattle.rules.specs.Plain.{others}
use Rattle.rules.proofs.CellList.{In, in_some, in_keep, keep_in, keep-keep}
use Rattle.rules.proofs.CellPoints.{same_sym}
use Rattle.rules.proofs.CellWithout.{keep-swap}
use Rattle.tree_slots.specs.declared.Quadtree.{Quadtree}
use Rattle.tree_slots.specs.Trees.{first, Trails, last_or}
use Rattle.tree_slots.proofs.Links.{rises_keep, in_below, head_in, trails_frame}
use Rattle.tree_leaves.specs.Chain.{at_point, Linked}
use Rattle.tree_leaving.specs.Leaving.{Member, Left}
use Rattle.tree_placing.proofs.AddChain.{chain_point, apart}
use Rattle.tree_removing.specs.Take.{Finds, Removes}

trails_first : (next : List ℕ) (l : ℕ) (js : List ℕ) → Trails next l js → 0 < length js → l ≡ first js + 1
trails_first next l [] t s = absurd (omega arith)
trails_first next l (j ∷ js) t s = t.0

trails_some : (next : List ℕ) (l : ℕ) (js : List ℕ) → Trails next l js → (l ≡ 0 → ⊥) → 0 < length js
trails_some next l [] t n = absurd (n t)
trails_some next l (j ∷ js) t n = omega arith

trails_none : (next : List ℕ) (l : ℕ) (js : List ℕ) → Trails next l js → l ≡ 0 → js ≡ []
trails_none next l [] t e = refl
trails_none next l (j ∷ js) t e = absurd (omega (arith, t.0, e))

module _ (at : List Float) (is m next tail : List ℕ) (q : Quadtree) (i : ℕ) (g : Removes at is m next tail q i) where
  abbrev js : List ℕ
  js = at_point at is i

  pub finds : Finds at is m q i
  finds = record { holds = g.holds; rises = g.rises; within = g.within; points = λ j n. (let p = g.points j n in (p.0, p.1, omega (arith, p.2, g.few))) }

  own_in : (j : ℕ) → In j is → In j (at_point at is j)
  own_in j n = keep_in (same at j) is j n (g.points j n).0

  some : (j : ℕ) → In j is → 0 < length (at_point at is j)
  some j n = in_some j (at_point at is j) (own_in j n)

  linked : (j : ℕ) → In j (at_point at is i) → j < length next
  linked j n = (g.points j (in_keep (same at i) is j n).0).2

  module _ (f : ℕ) (e : f ≡ first (at_point at is i)) where
    pub member : Member next (at_point at is i) f i
    member =
        record {
          trails = subst (λ (y : ℕ). Trails next (y + 1) js) (sym e) (g.linked.links i g.within);
          rises = rises_keep (same at i) 0 is g.rises;
          within = own_in i g.within;
          below = in_below (length next) js linked;
          first = subst (λ (y : ℕ). y < length next) (sym e) (linked (first js) (head_in js (some i g.within)));
          own = (g.points i g.within).2;
          few = g.few;
        }

    module _ (next' tail' : List ℕ) (link : ℕ) (left : Left next tail next' tail' (at_point at is i) f i link) where
      pub rest-none : link ≡ 0 → others i (at_point at is i) ≡ []
      rest-none z = trails_none next' link (others i js) left.trails z

      pub rest_some : (link ≡ 0 → ⊥) → (0 < length (others i (at_point at is i))) × (link - 1 ≡ first (others i (at_point at is i)))
      rest_some n =
          let l = trails_some next' link (others i js) left.trails n in
          (l, omega (arith, trails_first next' link (others i js) left.trails l))

      -- ---- at the point of i

      here : (j : ℕ) → same at i j ≡ true → at_point at (others i is) j ≡ others i (at_point at is i)
      here j s = keep-swap (same at j) (λ k. not (eqb k i)) is ∙ ap (others i) (sym (chain_point at is i j s))

      starts : (j : ℕ) → In j (others i is) → same at i j ≡ true → link ≡ first (others i (at_point at is i)) + 1
      starts j n s =
          let k = in_keep (λ k. not (eqb k i)) is j n in
          trails_first next' link (others i js) left.trails (in_some j (others i js) (keep_in (λ k. not (eqb k i)) js j (keep_in (same at i) is j k.0 s) k.1))

      -- ---- at another point

      there : (j : ℕ) → same at i j ≡ false → at_point at (others i is) j ≡ at_point at is j
      there j s = keep-keep (same at j) (λ k. not (eqb k i)) (λ k h. ap not (ne_eqb k i (λ z. true≢false (sym (same_sym at j i (ap (same at j) (sym z) ∙ h)) ∙ s)))) is

      elsewhere : (j k : ℕ) → same at i j ≡ false → In k (at_point at is j) → (get_or next' k 0 ≡ get_or next k 0) × (get_or tail' k 0 ≡ get_or tail k 0)
      elsewhere j k s n = left.elsewhere k (λ y. apart at is i j k s y n)

      links' : (j : ℕ) → In j (others i is) → Trails next' (first (at_point at (others i is) j) + 1) (at_point at (others i is) j)
      links' j n = go (same at i j) refl
        where
          go : (b : Bool) → same at i j ≡ b → Trails next' (first (at_point at (others i is) j) + 1) (at_point at (others i is) j)
          go true s = subst (λ (l : List ℕ). Trails next' (first l + 1) l) (sym (here j s)) (subst (λ (y : ℕ). Trails next' y (others i (at_point at is i))) (starts j n s) left.trails)
          go false s =
              subst (λ (l : List ℕ). Trails next' (first l + 1) l) (sym (there j s))
              (trails_frame next next' (first (at_point at is j) + 1) (at_point at is j) (λ k a. (elsewhere j k s a).0) (g.linked.links j (in_keep (λ k. not (eqb k i)) is j n).0))

      tails' : (j : ℕ) → In j (others i is) → get_or tail' (first (at_point at (others i is) j)) 0 ≡ last_or 0 (at_point at (others i is) j)
      tails' j n = go (same at i j) refl
        where
          go : (b : Bool) → same at i j ≡ b → get_or tail' (first (at_point at (others i is) j)) 0 ≡ last_or 0 (at_point at (others i is) j)
          go true s =
              let z = starts j n s in
              let y : link - 1 ≡ first (others i (at_point at is i)) = omega (arith, z) in
              subst (λ (l : List ℕ). get_or tail' (first l) 0 ≡ last_or 0 l) (sym (here j s))
              (ap (λ (y : ℕ). get_or tail' y 0) (sym y) ∙ left.last (ap (λ (y : ℕ). get_or tail y 0) e ∙ g.linked.tails i g.within) (λ w. omega (arith, z, w)))
          go false s =
              let a : In j is = (in_keep (λ k. not (eqb k i)) is j n).0 in
              subst (λ (l : List ℕ). get_or tail' (first l) 0 ≡ last_or 0 l) (sym (there j s)) ((elsewhere j (first (at_point at is j)) s (head_in (at_point at is j) (some j a))).1 ∙ g.linked.tails j a)

      pub rest-linked : Linked at (others i is) next' tail'
      rest-linked = record { links = links'; tails = tails' }
