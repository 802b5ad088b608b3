-- How many ends each particle has: lists of counts.
use mathlib.Core.Path.{◌≡◌, refl, sym, ap, ap₂, ◌∙◌}
use mathlib.Core.Bool.{Bool, true, false, cond}
use mathlib.Core.List.{List, [], ◌∷◌, ◌++◌, map}
use Prim.Native.Nat.{ℕ, zero, suc, ◌+◌, ◌*◌, ◌/◌, ◌^◌, ◌≤◌, ◌<◌}
use native.Mathlib.Nat.{add-zero}
use native.Mathlib.Numerals.{add-one}
use native.Mathlib.Omega.{arith}
use borrow.Author.Tests.{eqb-true, eqb-false}
use lib.Dec.{eqb}
use lib.ListN.{length, get_or, get_or-append, take, drop, replicate, length-set, length-map, length-append}
use lib.Seq.{get_or-drop, get_or-set_same, get_or-set_other, ext_get_or, drop-append_seam, drop-drop}
use Rattle.std.proofs.Common.{length-drop}
use lib.Ieee.{Float}
use Rattle.rules.specs.Plain.{count_from, up_to}
use Rattle.rules.specs.Refusal.{most_links}
use Rattle.rules.specs.Link.{Ends, ends, count_ends}
use Rattle.rules.specs.Force.{ends_from, ends_of}
use Rattle.rules.proofs.CellCount.{length-up_to}
use Rattle.tree_slots.proofs.Fill.{room}
use Rattle.link_tally.specs.Tally.{one_more}
use Rattle.link.specs.Links.{EndsLent, LinksReady, tallies}
use Rattle.list_checks.specs.Checks.{ends_at}

-- ---- numbers one after the other

pub map-count : {A : Type 0} (f : ℕ → A) (i n j : ℕ) (d : A) → j < n → get_or (map f (count_from i n)) j d ≡ f (i + j)
map-count f i zero j d h = absurd (omega arith)
map-count f i (suc n) zero d h = ap f (sym (add-zero i))
map-count f i (suc n) (suc j) d h = map-count f (i + 1) n j d (omega arith) ∙ ap f (omega arith)

pub tally_length : (n : ℕ) (es : List Ends) → length (tallies n es) ≡ n
unfolding tallies
tally_length n es = length-map (up_to n) (count_ends es) ∙ length-up_to n

pub tally_at : (n : ℕ) (es : List Ends) (j : ℕ) → j < n → get_or (tallies n es) j 0 ≡ count_ends es j
unfolding tallies
tally_at n es j h = map-count (count_ends es) 0 n j 0 h ∙ ap (count_ends es) (omega arith)

-- ---- ends

ends_next : (links : List ℕ) (k : ℕ) → k * 2 + 1 < length links → ends_from links (suc k) ≡ ends_from links k ++ (ends_at links k ∷ [])
ends_next [] k h = absurd (omega arith)
ends_next (s ∷ []) k h = absurd (omega arith)
ends_next (s ∷ t ∷ l) zero h = refl
ends_next (s ∷ t ∷ l) (suc k) h =
    let e : suc k * 2 ≡ suc (suc (k * 2)) = omega arith in
    let f : suc k * 2 + 1 ≡ suc (suc (k * 2 + 1)) = omega arith in
    rw (f, e, ends_next l k (omega arith))

-- one link more
pub ends_more : (links : List ℕ) (k : ℕ) → k * 2 + 1 < length links → ends_from links (k + 1) ≡ ends_from links k ++ (ends_at links k ∷ [])
ends_more links k h = rw (add-one k) (ends_next links k h)

pub ends-length : (links : List ℕ) (k : ℕ) → k * 2 ≤ length links → length (ends_from links k) ≡ k
ends-length links zero h = refl
ends-length [] (suc k) h = absurd (omega arith)
ends-length (s ∷ []) (suc k) h = absurd (omega arith)
ends-length (s ∷ t ∷ l) (suc k) h = ap suc (ends-length l k (omega arith))

-- ---- counts

count_snoc : (es : List Ends) (e : Ends) (j : ℕ)
    → count_ends (es ++ (e ∷ [])) j ≡ cond (eqb e.source j) 1 0 + cond (eqb e.target j) 1 0 + count_ends es j
count_snoc [] e j = refl
count_snoc (d ∷ es) e j = omega (arith, count_snoc es e j)

one_most : (b : Bool) → cond b 1 0 ≤ 1
one_most true = omega arith
one_most false = omega arith

-- each link has two ends
pub count_most : (es : List Ends) (j : ℕ) → count_ends es j ≤ length es * 2
count_most [] j = omega arith
count_most (e ∷ es) j = omega (arith, count_most es j, one_most (eqb e.source j), one_most (eqb e.target j))

counted-at : (cs : List ℕ) (i j : ℕ) → i < length cs → get_or (one_more cs i) j 0 ≡ cond (eqb i j) 1 0 + get_or cs j 0
counted-at cs i j h = go (eqb i j) refl
  where
    go : (b : Bool) → eqb i j ≡ b → get_or (one_more cs i) j 0 ≡ cond b 1 0 + get_or cs j 0
    go true e = rw (← eqb-true i j e) (get_or-set_same cs i (get_or cs i 0 + 1) 0 h ∙ omega arith)
    go false e = get_or-set_other cs i j (get_or cs i 0 + 1) 0 (λ p. eqb-false i j e (sym p)) ∙ omega arith

-- one link more is two ends more
pub tally_turn : (n : ℕ) (es : List Ends) (s t : ℕ) → s < n → t < n
    → one_more (one_more (tallies n es) s) t ≡ tallies n (es ++ (ends s t ∷ []))
tally_turn n es s t hs ht =
    ext_get_or 0 _ _ (long ∙ sym (tally_length n (es ++ (ends s t ∷ [])))) (λ j h. at j (omega (arith, long)))
  where
    cs : List ℕ
    cs = tallies n es

    long : length (one_more (one_more cs s) t) ≡ n
    long = simp length-set (tally_length n es)

    at : (j : ℕ) → j < n → get_or (one_more (one_more cs s) t) j 0 ≡ get_or (tallies n (es ++ (ends s t ∷ []))) j 0
    at j h =
        counted-at (one_more cs s) t j (simp length-set (omega (arith, tally_length n es)))
        ∙ omega (arith, counted-at cs s j (omega (arith, tally_length n es)), tally_at n es j h, tally_at n (es ++ (ends s t ∷ [])) j h, count_snoc es (ends s t) j)

-- the pair x is taken off what is left of the links from number k on
module _ (links x rest : List ℕ) (k : ℕ) (split : drop (k * 2) links ≡ x ++ rest) (two : length x ≡ 2) where
  pub pair-more : k < length links / 2
  pair-more = omega (arith, length-drop (k * 2) links, ap length split, length-append x rest)

  pub pair-source : get_or x 0 0 ≡ get_or links (k * 2) 0
  pair-source = sym (get_or-append x rest 0 0 (omega arith)) ∙ ap (λ (l : List ℕ). get_or l 0 0) (sym split) ∙ get_or-drop (k * 2) links 0 0 ∙ ap (λ (i : ℕ). get_or links i 0) (omega arith)

  pub pair-target : get_or x 1 0 ≡ get_or links (k * 2 + 1) 0
  pair-target = sym (get_or-append x rest 0 1 (omega arith)) ∙ ap (λ (l : List ℕ). get_or l 1 0) (sym split) ∙ get_or-drop (k * 2) links 1 0

  pub pair-rest : rest ≡ drop ((k + 1) * 2) links
  pair-rest =
      sym (drop-append_seam x rest) ∙ ap (drop (length x)) (sym split) ∙ ap (λ (i : ℕ). drop i (drop (k * 2) links)) two ∙ drop-drop 2 (k * 2) links
      ∙ ap (λ (i : ℕ). drop i links) (omega arith)

-- ---- a turn of the loop over the links

module _ {n : ℕ} {links : List ℕ} (lent : EndsLent n links) (k : ℕ) (h : k < length links / 2) (cs : List ℕ) (is : cs ≡ tallies n (ends_from links k)) where
  long : length cs ≡ n
  long = ap length is ∙ tally_length n (ends_from links k)

  small : (j : ℕ) → j < n → get_or cs j 0 ≤ 2 * most_links
  small j hj =
      omega (
        arith,
        ap (λ (l : List ℕ). get_or l j 0) is ∙ tally_at n (ends_from links k) j hj,
        count_most (ends_from links k) j,
        ends-length links k (omega arith),
        lent.few,
      )

  -- s and t are its ends
  module _ (s t : ℕ) (es' : s ≡ get_or links (k * 2) 0) (et : t ≡ get_or links (k * 2 + 1) 0) where
    hs : s < n
    hs = rw es' (lent.range (k * 2) (omega arith))

    ht : t < n
    ht = rw et (lent.range (k * 2 + 1) (omega arith))

    -- both ends have counts, and one more fits each
    pub count_room : (s < length cs) × (t < length cs) × (get_or cs s 0 < 2 ^ 31) × (get_or (one_more cs s) t 0 < 2 ^ 31)
    count_room =
        let hl : s < length cs = omega (arith, long, hs) in (
          hl,
          omega (arith, long, ht),
          omega (arith, small s hs),
          omega (arith, small t ht, counted-at cs s t hl, one_most (eqb s t)),
        )

    -- both are counted
    pub count_turn : (cs' : List ℕ) → cs' ≡ one_more (one_more cs s) t → cs' ≡ tallies n (ends_from links (k + 1))
    count_turn cs' g =
        g
        ∙ ap (λ (l : List ℕ). one_more (one_more l s) t) is
        ∙ tally_turn n (ends_from links k) s t hs ht
        ∙ ap₂ (λ (a b : ℕ). tallies n (ends_from links k ++ (ends a b ∷ []))) es' et
        ∙ ap (tallies n) (sym (ends_more links k (omega arith)))

-- ---- the counts once they are all made

module _ {vs : List Float} {links cs : List ℕ} (r : LinksReady vs links cs) where
  pub ready-count : (j : ℕ) → j < length cs → get_or cs j 0 ≡ count_ends (ends_of links) j
  ready-count j h = ap (λ (l : List ℕ). get_or l j 0) r.tallied ∙ tally_at (length cs) (ends_of links) j h

  pub ready-small : (j : ℕ) → j < length cs → get_or cs j 0 ≤ 2 * most_links
  ready-small j h =
      omega (arith, ready-count j h, count_most (ends_of links) j, ends-length links (length links / 2) (omega arith), r.lent.few)

  -- both ends of a link are particles
  pub ready-ends : (k : ℕ) → k < length links / 2 → (get_or links (k * 2) 0 < length cs) × (get_or links (k * 2 + 1) 0 < length cs)
  ready-ends k h = (r.lent.range (k * 2) (omega arith), r.lent.range (k * 2 + 1) (omega arith))

-- ---- a fresh list of zeros

take-replicate : (n m : ℕ) → n ≤ m → take {A = ℕ} n (replicate m 0) ≡ replicate n 0
take-replicate zero m h = refl
take-replicate (suc n) zero h = absurd (omega arith)
take-replicate (suc n) (suc m) h = ap (λ (l : List ℕ). 0 ∷ l) (take-replicate n m (omega arith))

none-counted : (i n : ℕ) → replicate n 0 ≡ map (count_ends []) (count_from i n)
none-counted i zero = refl
none-counted i (suc n) = ap (λ (l : List ℕ). 0 ∷ l) (none-counted (i + 1) n)

-- is the count of no links
pub zeros_tallied : (n m : ℕ) → n ≤ m → take n (replicate m 0) ≡ tallies (length {A = ℕ} (take n (replicate m 0))) []
unfolding tallies
zeros_tallied n m h =
    take-replicate n m h ∙ none-counted 0 n ∙ ap (λ (k : ℕ). map (count_ends []) (count_from 0 k)) (sym (room {A = ℕ} n m 0 h))
