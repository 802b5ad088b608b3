-- Laws of chains: one particle more, and that following the links gives the chains of the cell rule.
use mathlib.Core.Path.{◌≡◌, refl, sym, ap, ◌∙◌, subst}
use mathlib.Core.Bool.{Bool, true, false, true≢false}
use mathlib.Core.List.{List, [], ◌∷◌, ◌++◌, append-nil}
use mathlib.Core.Logic.{◌⊎◌, inl, inr}
use Prim.Native.Nat.{ℕ, ◌+◌, ◌<◌}
use native.Mathlib.Omega.{arith}
use lib.ListN.{length, get_or, set}
use lib.Seq.{get_or-set_same, get_or-set_other}
use lib.Ieee.{Float}
use Rattle.rules.specs.Tree.{same}
use Rattle.rules.proofs.CellList.{In, in_some, in_keep, keep_in, keep_append, keep_agree}
use Rattle.rules.proofs.CellPoints.{same_sym, same_trans}
use Rattle.rules.proofs.CellChain.{Chain}
use Rattle.tree_slots.specs.Trees.{Follows, first, Trails, Rises, last_or}
use Rattle.tree_slots.proofs.Links.{rises_keep, trails_frame, head_in, last_in, last_snoc, trails_snoc, trails_follows}
use Rattle.tree_leaves.specs.Chain.{at_point, Linked}
use Rattle.tree_placing.specs.Add.{Alone}

-- ---- lists

-- a member of a list with p at its end
pub in_snoc : (i p : ℕ) (l : List ℕ) → In i (l ++ (p ∷ [])) → In i l ⊎ (i ≡ p)
in_snoc i p [] (inl e) = inr e
in_snoc i p [] (inr m) = absurd m
in_snoc i p (j ∷ l) (inl e) = inl (inl e)
in_snoc i p (j ∷ l) (inr m) = go (in_snoc i p l m)
  where
    go : In i l ⊎ (i ≡ p) → In i (j ∷ l) ⊎ (i ≡ p)
    go (inl h) = inl (inr h)
    go (inr e) = inr e

first-append : (l m : List ℕ) → 0 < length l → first (l ++ m) ≡ first l
first-append [] m s = absurd (omega arith)
first-append (j ∷ l) m s = refl

pub none_in : (l : List ℕ) → ((i : ℕ) → In i l → ⊥) → l ≡ []
none_in [] f = refl
none_in (j ∷ l) f = absurd (f j (inl refl))

module _ (at : List Float) where
  -- points that are numerically equal have the same others at their point
  pub same_point : (i j : ℕ) → same at i j ≡ true → (k : ℕ) → same at i k ≡ same at j k
  same_point i j e k = go (same at i k) (same at j k) refl refl
    where
      go : (a b : Bool) → same at i k ≡ a → same at j k ≡ b → a ≡ b
      go true true f g = refl
      go false false f g = refl
      go true false f g = absurd (true≢false (sym (same_trans at j i k (same_sym at i j e) f) ∙ g))
      go false true f g = absurd (true≢false (sym (same_trans at i j k e g) ∙ f))

  pub chain_point : (is : List ℕ) (i j : ℕ) → same at i j ≡ true → at_point at is i ≡ at_point at is j
  chain_point is i j e = keep_agree (same at i) (same at j) is (λ k _. same_point i j e k)

  -- no particle is in two chains
  pub apart : (is : List ℕ) (i j k : ℕ) → same at i j ≡ false → In k (at_point at is i) → In k (at_point at is j) → ⊥
  apart is i j k e a b =
      true≢false (sym (same_trans at i k j (in_keep (same at i) is k a).1 (same_sym at j k (in_keep (same at j) is k b).1)) ∙ e)

  -- ---- one particle more

  module _ (is : List ℕ) (p : ℕ) (next tail : List ℕ) (h : Linked at is next tail) (earlier : (i : ℕ) → In i is → i < p) (points : (i : ℕ) → In i is → same at i i ≡ true) where
    own_in : (i : ℕ) → In i is → In i (at_point at is i)
    own_in i m = keep_in (same at i) is i m (points i m)

    some : (i : ℕ) → In i is → 0 < length (at_point at is i)
    some i m = in_some i (at_point at is i) (own_in i m)

    member : (i j : ℕ) → In j (at_point at is i) → j < p
    member i j m = earlier j (in_keep (same at i) is j m).0

    -- a chain begun at p leaves those of the particles before it
    pub begin-linked : Linked at is (set next p 0) (set tail p p)
    begin-linked =
        record {
          links = λ i m. trails_frame next (set next p 0) (first (at_point at is i) + 1) (at_point at is i) (λ k n. get_or-set_other next p k 0 0 (λ e. omega (arith, member i k n))) (h.links i m);
          tails = λ i m. get_or-set_other tail p (first (at_point at is i)) p 0 (λ e. omega (arith, member i (first (at_point at is i)) (head_in (at_point at is i) (some i m)))) ∙ h.tails i m;
        }

    module _ (alone : Alone next tail p) (own : same at p p ≡ true) where
      abbrev more : List ℕ
      more = is ++ (p ∷ [])

      -- where p is at another point, the chain is as it was
      other-chain : (i : ℕ) → same at i p ≡ false → at_point at more i ≡ at_point at is i
      other-chain i e = keep_append (same at i) is (p ∷ []) ∙ rw e (append-nil (at_point at is i))

      -- and at its point it comes last
      own-chain : (i : ℕ) → same at i p ≡ true → at_point at more i ≡ at_point at is p ++ (p ∷ [])
      own-chain i e = keep_append (same at i) is (p ∷ []) ∙ rw e (ap (λ (l : List ℕ). l ++ (p ∷ [])) (chain_point is i p e))

      -- each particle of the longer list is at p's point, or one of those before at another
      sides : (i : ℕ) → In i more → (same at i p ≡ true) ⊎ ((same at i p ≡ false) × In i is)
      sides i m = go (same at i p) refl (in_snoc i p is m)
        where
          go : (b : Bool) → same at i p ≡ b → In i is ⊎ (i ≡ p) → (same at i p ≡ true) ⊎ ((same at i p ≡ false) × In i is)
          go true e k = inl e
          go false e (inl k) = inr (e, k)
          go false e (inr z) = absurd (true≢false (sym own ∙ ap (λ (j : ℕ). same at j p) (sym z) ∙ e))

      -- the chains of the longer list, if that at p's point is right and the others are as they were
      module _ (next' tail' : List ℕ) (f : ℕ) (links : Trails next' (f + 1) (at_point at is p ++ (p ∷ []))) (starts : first (at_point at is p ++ (p ∷ [])) ≡ f) (last : get_or tail' f 0 ≡ p)
          (kept : (i : ℕ) → In i is → same at i p ≡ false → ((k : ℕ) → In k (at_point at is i) → get_or next' k 0 ≡ get_or next k 0) × (get_or tail' (first (at_point at is i)) 0 ≡ get_or tail (first (at_point at is i)) 0)) where
        all-linked : Linked at more next' tail'
        all-linked = record { links = λ i m. trail i (sides i m); tails = λ i m. tailed i (sides i m) }
          where
            trail : (i : ℕ) → (same at i p ≡ true) ⊎ ((same at i p ≡ false) × In i is) → Trails next' (first (at_point at more i) + 1) (at_point at more i)
            trail i (inl e) = rw (own-chain i e, starts) links
            trail i (inr (e, m)) = rw (other-chain i e) (trails_frame next next' (first (at_point at is i) + 1) (at_point at is i) (kept i m e).0 (h.links i m))

            tailed : (i : ℕ) → (same at i p ≡ true) ⊎ ((same at i p ≡ false) × In i is) → get_or tail' (first (at_point at more i)) 0 ≡ last_or 0 (at_point at more i)
            tailed i (inl e) = rw (own-chain i e, starts) (last ∙ sym (last_snoc 0 p (at_point at is p)))
            tailed i (inr (e, m)) = rw (other-chain i e) ((kept i m e).1 ∙ h.tails i m)

      -- at a point of its own
      pub new-linked : ((i : ℕ) → In i is → same at i p ≡ true → ⊥) → Linked at more next tail
      new-linked new =
          let e : at_point at is p ≡ [] = none_in (at_point at is p) (λ i m. let k = in_keep (same at p) is i m in new i k.0 (same_sym at p i k.1)) in
          all-linked next tail p (rw e (refl, alone.0)) (rw e refl) alone.1 (λ i m f. (λ k n. refl, refl))

      -- at the point of f, the first there, whose chain it joins at the end
      pub join-linked : (f : ℕ) → In f is → first (at_point at is f) ≡ f → same at f p ≡ true → Rises 0 is → f < length tail → ((i : ℕ) → In i is → i < length next) → Linked at more (set next (get_or tail f 0) (p + 1)) (set tail f p)
      join-linked f mf ef e rises lf room =
          all-linked (set next l (p + 1)) (set tail f p) f (subst (λ (x : ℕ). Trails (set next x (p + 1)) (f + 1) (js ++ (p ∷ []))) (sym last-is) long) (first-append js (p ∷ []) many ∙ starts) (get_or-set_same tail f p 0 lf) other
        where
          js : List ℕ
          js = at_point at is p

          js-is : at_point at is f ≡ js
          js-is = chain_point is f p e

          l : ℕ
          l = get_or tail f 0

          starts : first js ≡ f
          starts = ap first (sym js-is) ∙ ef

          last-is : l ≡ last_or 0 js
          last-is = ap (λ (x : ℕ). get_or tail x 0) (sym ef) ∙ h.tails f mf ∙ ap (last_or 0) js-is

          many : 0 < length js
          many = subst (λ (x : List ℕ). 0 < length x) js-is (some f mf)

          long : Trails (set next (last_or 0 js) (p + 1)) (f + 1) (js ++ (p ∷ []))
          long =
              trails_snoc next p (f + 1) 0 0 js alone.0 (λ i m. (member p i m, room i (in_keep (same at p) is i m).0)) many (rises_keep (same at p) 0 is rises)
              (subst (λ (x : ℕ). Trails next (x + 1) js) starts (subst (λ (x : List ℕ). Trails next (first x + 1) x) js-is (h.links f mf)))

          other : (i : ℕ) → In i is → same at i p ≡ false → ((k : ℕ) → In k (at_point at is i) → get_or (set next l (p + 1)) k 0 ≡ get_or next k 0) × (get_or (set tail f p) (first (at_point at is i)) 0 ≡ get_or tail (first (at_point at is i)) 0)
          other i m d = (
            λ k n. get_or-set_other next l k (p + 1) 0 (λ z. apart is i p k d n (subst (λ (x : ℕ). In x js) (sym (z ∙ last-is)) (last_in 0 js many))),
            get_or-set_other tail f (first (at_point at is i)) p 0 (λ z. apart is i p f d (subst (λ (x : ℕ). In x (at_point at is i)) z (head_in (at_point at is i) (some i m))) (subst (λ (x : ℕ). In x js) starts (head_in js many))),
          )

  -- ---- the chains of the cell rule

  module _ (is next tail : List ℕ) (h : Linked at is next tail) where
    pub chain-follows : (js : List ℕ) → Chain at is js → Follows next js
    chain-follows [] c = absurd (omega (arith, c.some))
    chain-follows (i ∷ js) c =
        let e : i ∷ js ≡ at_point at is i = c.whole i (inl refl) in
        let m : In i is = (in_keep (same at i) is i (subst (In i) e (inl refl))).0 in
        trails_follows next (first (at_point at is i) + 1) (i ∷ js) (omega arith) (subst (Trails next (first (at_point at is i) + 1)) (sym e) (h.links i m))

  -- the first of a chain is the first at its point
  pub chain_first : (is : List ℕ) (i : ℕ) (js : List ℕ) → Chain at is (i ∷ js) → In i is × (first (at_point at is i) ≡ i)
  chain_first is i js c =
      let e : i ∷ js ≡ at_point at is i = c.whole i (inl refl) in
      ((in_keep (same at i) is i (subst (In i) e (inl refl))).0, ap first (sym e))
