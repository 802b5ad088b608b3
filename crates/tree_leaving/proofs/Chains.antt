-- A chain followed by its links, in ascending order, and what is left of it without one of its members. Assumes nothing.
use mathlib.Core.Path.{◌≡◌, refl, sym, ap, ◌∙◌, subst}
use mathlib.Core.Logic.{◌⊎◌, inl, inr}
use mathlib.Core.List.{List, [], ◌∷◌}
use Prim.Native.Nat.{ℕ, ◌+◌, ◌-◌, ◌<◌}
use native.Mathlib.Omega.{arith}
use lib.ListN.{length, get_or, set, length-set}
use lib.Seq.{get_or-set_same, get_or-set_other}
use borrow.Author.Tests.{ne_eqb, eq-eqb}
use Rattle.rules.specs.Plain.{others}
use Rattle.rules.proofs.CellList.{In}
use Rattle.tree_slots.specs.Trees.{Trails, Rises, last_or, Below}
use Rattle.tree_slots.proofs.Links.{rises_in, below_in, trails_frame, in_next, first_in}
use Rattle.tree_leaving.specs.Leaving.{Member, Precedes, Left}

-- ---- all but one

others-own : (i : ℕ) (is : List ℕ) → others i (i ∷ is) ≡ others i is
others-own i is = rw (eq-eqb i i refl)

others-other : (i j : ℕ) (is : List ℕ) → (j ≡ i → ⊥) → others i (j ∷ is) ≡ j ∷ others i is
others-other i j is n = rw (ne_eqb j i n)

others-above : (i lo : ℕ) (is : List ℕ) → i < lo → Rises lo is → others i is ≡ is
others-above i lo [] l h = refl
others-above i lo (j ∷ is) l h = others-other i j is (λ z. omega (arith, h.0)) ∙ ap (λ (k : List ℕ). j ∷ k) (others-above i (j + 1) is (omega (arith, h.0)) h.1)

-- ---- on the way to the member before i

-- i is ahead of j, whose link is this
pub record Ahead (next : List ℕ) (i j link : ℕ) : Type 0 where
  pub rest : List ℕ
  pub trails : Trails next link rest
  pub rises : Rises (j + 1) rest
  pub have : In i rest
  pub below : Below (length next) rest

pub ahead_start : (next js : List ℕ) (f i : ℕ) → Member next js f i → (f ≡ i → ⊥) → Ahead next i f (get_or next f 0)
ahead_start next js f i h n = go js h.trails h.rises h.within h.below
  where
    go : (js : List ℕ) → Trails next (f + 1) js → Rises 0 js → In i js → Below (length next) js → Ahead next i f (get_or next f 0)
    go [] t r m b = absurd m
    go (j ∷ js) t r m b =
        let e : j ≡ f = omega (arith, t.0) in
        record {
          rest = js;
          trails = subst (λ (x : ℕ). Trails next (get_or next x 0) js) e t.1;
          rises = subst (λ (x : ℕ). Rises (x + 1) js) e r.1;
          have = there m (λ z. n (sym e ∙ sym z));
          below = b.1;
        }
      where
        there : (i ≡ j) ⊎ In i js → (i ≡ j → ⊥) → In i js
        there (inl d) z = absurd (z d)
        there (inr m) z = m

module _ (next : List ℕ) (i j link : ℕ) (a : Ahead next i j link) where
  pub ahead_less : j < i
  ahead_less = omega (arith, rises_in (j + 1) a.rest i a.rises a.have)

  -- the next member, short of i
  pub ahead_turn : (link ≡ i + 1 → ⊥) → (0 < link) × (link - 1 < length next) × (j < link - 1) × Ahead next i (link - 1) (get_or next (link - 1) 0)
  ahead_turn n = go a.rest a.trails a.rises a.have a.below
    where
      go : (js : List ℕ) → Trails next link js → Rises (j + 1) js → In i js → Below (length next) js → (0 < link) × (link - 1 < length next) × (j < link - 1) × Ahead next i (link - 1) (get_or next (link - 1) 0)
      go [] t r m b = absurd m
      go (k ∷ js) t r m b =
          let e : k ≡ link - 1 = omega (arith, t.0) in (
            omega (arith, t.0),
            omega (arith, b.0),
            omega (arith, r.0),
            record {
              rest = js;
              trails = subst (λ (x : ℕ). Trails next (get_or next x 0) js) e t.1;
              rises = subst (λ (x : ℕ). Rises (x + 1) js) e r.1;
              have = there m (λ z. n (t.0 ∙ ap (λ (x : ℕ). x + 1) (sym z)));
              below = b.1;
            },
          )
        where
          there : (i ≡ k) ⊎ In i js → (i ≡ k → ⊥) → In i js
          there (inl d) z = absurd (z d)
          there (inr m) z = m

-- ---- what is left

-- r links to i: without i, r links to what i linked to
module _ (next : List ℕ) (i r : ℕ) (less : r < length next) (link : get_or next r 0 ≡ i + 1) where
  abbrev short : List ℕ
  short = set next r (get_or next i 0)

  trails_out : (l lo : ℕ) (js : List ℕ) → Trails next l js → Rises lo js → In r js → (r ≡ i → ⊥) → Trails short l (others i js)
  trails_out l lo [] t h m n = absurd m
  trails_out l lo (j ∷ js) t h (inr m) n =
      let a : j < r = omega (arith, rises_in (j + 1) js r h.1 m) in
      let b : j < i = omega (arith, rises_in (j + 1) js i h.1 (in_next next (get_or next j 0) js r i t.1 m link)) in
      subst (Trails short l) (sym (others-other i j js (λ z. omega arith)))
      (t.0, subst (λ (x : ℕ). Trails short x (others i js)) (sym (get_or-set_other next r j (get_or next i 0) 0 (λ z. omega arith))) (trails_out (get_or next j 0) (j + 1) js t.1 h.1 m n))
  trails_out l lo (j ∷ []) t h (inl d) n = absurd (omega (arith, t.1, link, ap (λ (x : ℕ). get_or next x 0) d))
  trails_out l lo (j ∷ k ∷ js) t h (inl d) n =
      let e : k ≡ i = omega (arith, t.1.0, link, ap (λ (x : ℕ). get_or next x 0) d) in
      let u : others i (j ∷ k ∷ js) ≡ j ∷ js = others-other i j (k ∷ js) (λ z. n (d ∙ z)) ∙ ap (λ (x : List ℕ). j ∷ x) (ap (λ (x : ℕ). others i (x ∷ js)) e ∙ others-own i js ∙ others-above i (k + 1) js (omega arith) h.1.1) in
      let g : get_or short j 0 ≡ get_or next k 0 = ap (λ (x : ℕ). get_or short x 0) (sym d) ∙ get_or-set_same next r (get_or next i 0) 0 less ∙ ap (λ (x : ℕ). get_or next x 0) (sym e) in
      subst (Trails short l) (sym u) (
        t.0,
        subst (λ (x : ℕ). Trails short x js) (sym g)
            (trails_frame next short (get_or next k 0) js (λ x m. get_or-set_other next r x (get_or next i 0) 0 (λ z. omega (arith, d, h.1.0, rises_in (k + 1) js x h.1.1 m))) t.1.1),
      )

  -- the last one is the same, unless i was it
  last_out : (l lo d : ℕ) (js : List ℕ) → Trails next l js → Rises lo js → In r js → (r ≡ i → ⊥)
      → (get_or next i 0 ≡ 0 → last_or d (others i js) ≡ r) × ((get_or next i 0 ≡ 0 → ⊥) → last_or d (others i js) ≡ last_or d js)
  last_out l lo d [] t h m n = absurd m
  last_out l lo d (j ∷ js) t h (inr m) n =
      let b : j < i = omega (arith, rises_in (j + 1) js i h.1 (in_next next (get_or next j 0) js r i t.1 m link)) in
      let u : others i (j ∷ js) ≡ j ∷ others i js = others-other i j js (λ z. omega arith) in
      let w = last_out (get_or next j 0) (j + 1) j js t.1 h.1 m n in
      (λ z. ap (last_or d) u ∙ w.0 z, λ z. ap (last_or d) u ∙ w.1 z)
  last_out l lo d (j ∷ []) t h (inl e) n = absurd (omega (arith, t.1, link, ap (λ (x : ℕ). get_or next x 0) e))
  last_out l lo d (j ∷ k ∷ js) t h (inl e) n =
      let f : k ≡ i = omega (arith, t.1.0, link, ap (λ (x : ℕ). get_or next x 0) e) in
      let u : others i (j ∷ k ∷ js) ≡ j ∷ js = others-other i j (k ∷ js) (λ z. n (e ∙ z)) ∙ ap (λ (x : List ℕ). j ∷ x) (ap (λ (x : ℕ). others i (x ∷ js)) f ∙ others-own i js ∙ others-above i (k + 1) js (omega arith) h.1.1) in
      let t' : Trails next (get_or next i 0) js = subst (λ (x : ℕ). Trails next (get_or next x 0) js) f t.1.1 in
      (λ z. ap (last_or d) u ∙ none js t' z, λ z. ap (last_or d) u ∙ some js t' z)
    where
      none : (js : List ℕ) → Trails next (get_or next i 0) js → get_or next i 0 ≡ 0 → last_or j js ≡ r
      none [] t z = sym e
      none (x ∷ js) t z = absurd (omega (arith, t.0, z))

      some : (js : List ℕ) → Trails next (get_or next i 0) js → (get_or next i 0 ≡ 0 → ⊥) → last_or j js ≡ last_or k js
      some [] t z = absurd (z t)
      some (x ∷ js) t z = refl

-- ---- the four ends of leaving

module _ (next tail members : List ℕ) (f i : ℕ) (h : Member next members f i) where
  -- what the first links to is the rest
  module _ (e : f ≡ i) where
    own : (js : List ℕ) → Trails next (f + 1) js → Rises 0 js → (rest : List ℕ) × (js ≡ i ∷ rest) × Trails next (get_or next i 0) rest × Rises (i + 1) rest
    own [] t r = absurd (omega (arith, t))
    own (j ∷ js) t r =
        let d : j ≡ i = omega (arith, t.0) in
        (js, ap (λ (x : ℕ). x ∷ js) d, subst (λ (x : ℕ). Trails next (get_or next x 0) js) d t.1, subst (λ (x : ℕ). Rises (x + 1) js) d r.1)

    kept : (rest : List ℕ) → members ≡ i ∷ rest → Rises (i + 1) rest → others i members ≡ rest
    kept rest d r = ap (others i) d ∙ others-own i rest ∙ others-above i (i + 1) rest (omega arith) r

    -- i was alone
    pub left_alone : get_or next i 0 ≡ 0 → Left next tail next tail members f i 0
    left_alone z =
        let (rest, d, t, r) = own members h.trails h.rises in
        record {
          trails = subst (Trails next 0) (sym (kept rest d r)) (subst (λ (x : ℕ). Trails next x rest) z t);
          last = λ _ n. absurd (n refl);
          links = refl;
          tails = refl;
          elsewhere = λ k n. (refl, refl);
        }

    -- the next one is the first
    pub left-second : (get_or next i 0 ≡ 0 → ⊥) → (get_or next i 0 - 1 < length next) × (length tail ≡ length next → Left next tail next (set tail (get_or next i 0 - 1) (get_or tail i 0)) members f i (get_or next i 0))
    left-second z = let (rest, d, t, r) = own members h.trails h.rises in go rest d t r
      where
        go : (rest : List ℕ) → members ≡ i ∷ rest → Trails next (get_or next i 0) rest → Rises (i + 1) rest
            → (get_or next i 0 - 1 < length next) × (length tail ≡ length next → Left next tail next (set tail (get_or next i 0 - 1) (get_or tail i 0)) members f i (get_or next i 0))
        go [] d t r = absurd (z t)
        go (g ∷ rest) d t r =
            let l : get_or next i 0 - 1 < length next = subst (λ (x : ℕ). x < length next) (let y : g ≡ get_or next i 0 - 1 = omega (arith, t.0) in y) (below_in (length next) members g h.below (subst (In g) (sym d) (inr (inl refl)))) in (
              l,
              λ w. record {
                trails = subst (Trails next (get_or next i 0)) (sym (kept (g ∷ rest) d r)) t;
                last = λ q n. get_or-set_same tail (get_or next i 0 - 1) (get_or tail i 0) 0 (omega (arith, l, w)) ∙ ap (λ (x : ℕ). get_or tail x 0) (sym e) ∙ q ∙ ap (last_or 0) d ∙ sym (ap (last_or 0) (kept (g ∷ rest) d r));
                links = refl;
                tails = length-set tail (get_or next i 0 - 1) (get_or tail i 0);
                elsewhere = λ k n. (refl, get_or-set_other tail (get_or next i 0 - 1) k (get_or tail i 0) 0 (λ y. n (subst (In k) (sym d) (inr (inl (omega (arith, t.0, y)))))));
              },
            )

  module _ (n : f ≡ i → ⊥) (r : ℕ) (p : Precedes next f i r) where
    other : r ≡ i → ⊥
    other z = go (f + 1) members h.trails 0 h.rises (p.member members h.trails)
      where
        go : (l : ℕ) (js : List ℕ) → Trails next l js → (lo : ℕ) → Rises lo js → In r js → ⊥
        go l [] t lo b m = m
        go l (j ∷ js) t lo b (inr m) = go (get_or next j 0) js t.1 (j + 1) b.1 m
        go l (j ∷ []) t lo b (inl e) = omega (arith, t.1, p.link, ap (λ (x : ℕ). get_or next x 0) e)
        go l (j ∷ k ∷ js) t lo b (inl e) = omega (arith, t.1.0, p.link, ap (λ (x : ℕ). get_or next x 0) e, b.1.0, z)

    -- i was within
    pub left-within : (get_or next i 0 ≡ 0 → ⊥) → Left next tail (set next r (get_or next i 0)) tail members f i (f + 1)
    left-within z =
        record {
          trails = trails_out next i r p.less p.link (f + 1) 0 members h.trails h.rises (p.member members h.trails) other;
          last = λ q _. ap (λ (x : ℕ). get_or tail x 0) (let y : f + 1 - 1 ≡ f = omega arith in y) ∙ q ∙ sym ((last_out next i r p.less p.link (f + 1) 0 0 members h.trails h.rises (p.member members h.trails) other).1 z);
          links = length-set next r (get_or next i 0);
          tails = refl;
          elsewhere = λ k m. (get_or-set_other next r k (get_or next i 0) 0 (λ y. m (subst (λ (x : ℕ). In x members) (sym y) (p.member members h.trails))), refl);
        }

    -- i was the last
    pub left-last : get_or next i 0 ≡ 0 → length tail ≡ length next → Left next tail (set next r (get_or next i 0)) (set tail f r) members f i (f + 1)
    left-last z w =
        record {
          trails = trails_out next i r p.less p.link (f + 1) 0 members h.trails h.rises (p.member members h.trails) other;
          last = λ q _. ap (λ (x : ℕ). get_or (set tail f r) x 0) (let y : f + 1 - 1 ≡ f = omega arith in y) ∙ get_or-set_same tail f r 0 (omega (arith, h.first, w))
              ∙ sym ((last_out next i r p.less p.link (f + 1) 0 0 members h.trails h.rises (p.member members h.trails) other).0 z);
          links = length-set next r (get_or next i 0);
          tails = length-set tail f r;
          elsewhere = λ k m. (
            get_or-set_other next r k (get_or next i 0) 0 (λ y. m (subst (λ (x : ℕ). In x members) (sym y) (p.member members h.trails))),
            get_or-set_other tail f k r 0 (λ y. m (subst (λ (x : ℕ). In x members) (sym y) (first_in next f members h.trails))),
          );
        }
