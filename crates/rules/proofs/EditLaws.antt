-- Laws of the rule of edits: which numbers are there after some edits, and that trees and extents look only at the points that they are given.
use mathlib.Core.Path.{◌≡◌, refl, sym, ap, ◌∙◌}
use mathlib.Core.Logic.{◌⊎◌, ◌≢◌, inl, inr, ⊎_elim, ◌↔◌}
use mathlib.Core.Bool.{Bool, true, false, not, cond, ◌||◌, true≢false}
use mathlib.Core.List.{List, [], ◌∷◌, ◌++◌}
use Prim.Native.Nat.{ℕ, zero, suc, ◌+◌, ◌*◌, ◌≤◌, ◌<◌}
use native.Mathlib.Omega.{arith}
use native.Mathlib.Decide.{ℕ_discrete, dec_lt}
use native.Mathlib.Numerals.{add-one}
use lib.Dec.{eqb}
use lib.ListN.{length, get_or, take, length-append}
use lib.Seq.{take-suc, take-take, length-take-le, get_or-take}
use lib.Ieee.{Float}
use borrow.Author.Tests.{eqb-true, eq-eqb, ne_eqb}
use Rattle.rules.specs.declared.Extent.{Extent}
use Rattle.rules.specs.Plain.{foldl, others}
use Rattle.rules.specs.Number.{x_at, y_at}
use Rattle.rules.specs.Floor.{floor}
use Rattle.rules.specs.Cell.{quarter}
use Rattle.rules.specs.Cover.{Covered, nothing, cover_point, cover_all}
use Rattle.rules.specs.Tree.{same, alike, in_quarter, points_in, grow, tree_in}
use Rattle.rules.specs.Edits.{Edit, insertion, removal, unknown, edit_of, edits_of, points_of, insertions, Present, edited, present_after, among, removable}
use Rattle.rules.specs.Terms.{times}
use Rattle.rules.proofs.CellList.{In, in_keep, keep-length, keep_agree, all_agree, foldl-append}
use Rattle.rules.proofs.CellIs.{grow-none, grow_leaf, grow_node, grow_stop}

-- ---- members

pub among_in : (i : ℕ) (is : List ℕ) → among i is ≡ true → In i is
among_in i [] e = absurd (true≢false (sym e))
among_in i (j ∷ is) e = go (eqb j i) refl e (among_in i is)
  where
    go : (b : Bool) → eqb j i ≡ b → (b || among i is) ≡ true → (among i is ≡ true → In i is) → In i (j ∷ is)
    go true f g h = inl (sym (eqb-true j i f))
    go false f g h = inr (h g)

pub among_new : (i : ℕ) (is : List ℕ) → among i (is ++ (i ∷ [])) ≡ true
among_new i [] = rw (eq-eqb i i refl)
among_new i (j ∷ is) = go (eqb j i) (among_new i is)
  where
    go : (b : Bool) → among i (is ++ (i ∷ [])) ≡ true → (b || among i (is ++ (i ∷ []))) ≡ true
    go true h = refl
    go false h = h

pub among-old : (i p : ℕ) (is : List ℕ) → (p ≡ i → ⊥) → among i (is ++ (p ∷ [])) ≡ among i is
among-old i p [] n = rw (ne_eqb p i n)
among-old i p (j ∷ is) n = ap (λ (b : Bool). eqb j i || b) (among-old i p is n)

pub among_gone : (i : ℕ) (is : List ℕ) → among i (others i is) ≡ false
among_gone i [] = refl
among_gone i (j ∷ is) = go (eqb j i) refl (among_gone i is)
  where
    go : (b : Bool) → eqb j i ≡ b → among i (others i is) ≡ false → among i (cond (not b) (j ∷ others i is) (others i is)) ≡ false
    go true f h = h
    go false f h = rw f h

pub among-kept : (i p : ℕ) (is : List ℕ) → (p ≡ i → ⊥) → among i (others p is) ≡ among i is
among-kept i p [] n = refl
among-kept i p (j ∷ is) n = go (eqb j p) refl (among-kept i p is n)
  where
    go : (b : Bool) → eqb j p ≡ b → among i (others p is) ≡ among i is → among i (cond (not b) (j ∷ others p is) (others p is)) ≡ (eqb j i || among i is)
    go true f h = h ∙ rw (ne_eqb j i (λ z. n (sym (eqb-true j p f) ∙ z)))
    go false f h = ap (λ (b : Bool). eqb j i || b) h

-- ---- how often each stands there

times-append : (i : ℕ) (l m : List ℕ) → times i (l ++ m) ≡ times i l + times i m
times-append i [] m = omega arith
times-append i (j ∷ l) m = omega (arith, times-append i l m)

times_gone : (i : ℕ) (l : List ℕ) → times i (others i l) ≡ 0
times_gone i [] = refl
times_gone i (j ∷ l) = go (eqb j i) refl (times_gone i l)
  where
    go : (b : Bool) → eqb j i ≡ b → times i (others i l) ≡ 0 → times i (cond (not b) (j ∷ others i l) (others i l)) ≡ 0
    go true f h = h
    go false f h = rw (ne_eqb i j (λ z. true≢false (sym (eq-eqb j i (sym z)) ∙ f))) (omega arith)

times-kept : (i p : ℕ) (l : List ℕ) → (p ≡ i → ⊥) → times i (others p l) ≡ times i l
times-kept i p [] n = refl
times-kept i p (j ∷ l) n = go (eqb j p) refl (times-kept i p l n)
  where
    go : (b : Bool) → eqb j p ≡ b → times i (others p l) ≡ times i l → times i (cond (not b) (j ∷ others p l) (others p l)) ≡ cond (eqb i j) 1 0 + times i l
    go true f h = rw (ne_eqb i j (λ z. n (sym (eqb-true j p f) ∙ sym z))) (omega arith)
    go false f h = ap (λ (k : ℕ). cond (eqb i j) 1 0 + k) h

-- ---- what is there after some edits

-- each of them was made, stands there once, and they are no more than were made
pub record Kept (s : Present) : Type 0 where
  pub earlier : (i : ℕ) → In i s.left → i < s.made
  pub once : (i : ℕ) → times i s.left ≡ cond (among i s.left) 1 0
  pub few : length s.left ≤ s.made

in_snoc : (i p : ℕ) (l : List ℕ) → ((i : ℕ) → In i l → i < p) → In i (l ++ (p ∷ [])) → i < p + 1
in_snoc i p [] h (inl e) = omega arith
in_snoc i p [] h (inr m) = elim m [ ]
in_snoc i p (j ∷ l) h (inl e) = omega (arith, h i (inl e))
in_snoc i p (j ∷ l) h (inr m) = in_snoc i p l (λ k n. h k (inr n)) m

-- what wasn't made isn't there
not_yet : (i : ℕ) (s : Present) → Kept s → s.made ≤ i → among i s.left ≡ false
not_yet i s h l = go (among i s.left) refl
  where
    go : (b : Bool) → among i s.left ≡ b → among i s.left ≡ false
    go true e = absurd (omega (arith, h.earlier i (among_in i s.left e)))
    go false e = e

kept-edited : (s : Present) (e : Edit) → Kept s → Kept (edited s e)
kept-edited s (insertion x y) h =
    let p = s.made in
    let is = s.left in
    record {
      earlier = λ i m. in_snoc i p is h.earlier m;
      once = λ i. elim (ℕ_discrete p i) [
        | yes z ↦ rw (← z) (times-append p is (p ∷ []) ∙ rw (eq-eqb p p refl, among_new p is, h.once p, not_yet p s h (omega arith)))
        | no n ↦ times-append i is (p ∷ []) ∙ rw (ne_eqb i p (λ z. n (sym z)), among-old i p is n) (omega (arith, h.once i))
      ];
      few = rw (length-append is (p ∷ [])) (omega (arith, h.few));
    }
kept-edited s (removal j) h =
    record {
      earlier = λ i m. h.earlier i (in_keep (λ k. not (eqb k j)) s.left i m).0;
      once = λ i. elim (ℕ_discrete j i) [
        | yes z ↦ rw (← z) (times_gone j s.left ∙ rw (among_gone j s.left))
        | no n ↦ times-kept i j s.left n ∙ rw (among-kept i j s.left n) (h.once i)
      ];
      few = omega (arith, h.few, keep-length (λ k. not (eqb k j)) s.left);
    }
kept-edited s unknown h = h

kept_from : (s : Present) (es : List Edit) → Kept s → Kept (foldl edited s es)
kept_from s [] h = h
kept_from s (e ∷ es) h = kept_from (edited s e) es (kept-edited s e h)

pub kept-after : (es : List Edit) → Kept (present_after es)
kept-after es = kept_from _ es (record { earlier = λ i m. absurd m; once = λ i. refl; few = omega arith })

made_from : (s : Present) (es : List Edit) → (foldl edited s es).made ≡ s.made + insertions es
made_from s [] = omega arith
made_from s (insertion x y ∷ es) = omega (arith, made_from (edited s (insertion x y)) es)
made_from s (removal i ∷ es) = made_from (edited s (removal i)) es
made_from s (unknown ∷ es) = made_from s es

pub made_after : (es : List Edit) → (present_after es).made ≡ insertions es
made_after es = omega (arith, made_from (present_after []) es)

-- what was inserted last is the only one that its removal takes away
pub others-last : (s : Present) → Kept s → others s.made (s.left ++ (s.made ∷ [])) ≡ s.left
others-last s h = go s.left h.earlier
  where
    go : (l : List ℕ) → ((i : ℕ) → In i l → i < s.made) → others s.made (l ++ (s.made ∷ [])) ≡ l
    go [] e = rw (eq-eqb s.made s.made refl)
    go (j ∷ l) e = rw (ne_eqb j s.made (λ z. omega (arith, e j (inl refl)))) (ap (λ (k : List ℕ). j ∷ k) (go l (λ i m. e i (inr m))))

-- ---- one edit after the other

-- what is there after one edit more
pub present-next : (es : List Edit) (k : ℕ) → k < length es → present_after (take (k + 1) es) ≡ edited (present_after (take k es)) (get_or es k unknown)
present-next es k l = rw (add-one k, take-suc es k unknown l) (foldl-append edited _ (take k es) (get_or es k unknown ∷ []))

-- ---- what is left is what was inserted and not removed

-- what was made and is gone stays so
gone_from : (i : ℕ) (s : Present) (es : List Edit) → i < s.made → among i s.left ≡ false → among i (foldl edited s es).left ≡ false
gone_from i s [] l e = e
gone_from i s (insertion x y ∷ es) l e = gone_from i (edited s (insertion x y)) es (omega arith) (among-old i s.made s.left (λ z. omega arith) ∙ e)
gone_from i s (removal j ∷ es) l e = gone_from i (edited s (removal j)) es l (elim (ℕ_discrete j i) [ yes z ↦ rw (← z) (among_gone j s.left) | no n ↦ among-kept i j s.left n ∙ e ])
gone_from i s (unknown ∷ es) l e = gone_from i s es l e

-- what is there and is not removed stays, and so does what is inserted
stays-from : (i : ℕ) (s : Present) (es : List Edit) → (among i s.left ≡ true) → ((k : ℕ) → k < length es → get_or es k unknown ≢ removal i) → among i (foldl edited s es).left ≡ true
stays-from i s [] e h = e
stays-from i s (insertion x y ∷ es) e h = stays-from i (edited s (insertion x y)) es (elim (ℕ_discrete s.made i) [ yes z ↦ rw (← z) (among_new s.made s.left) | no n ↦ among-old i s.made s.left n ∙ e ]) (λ k l. h (suc k) (omega arith))
stays-from i s (removal j ∷ es) e h = stays-from i (edited s (removal j)) es (among-kept i j s.left (λ z. h 0 (omega arith) (ap removal z)) ∙ e) (λ k l. h (suc k) (omega arith))
stays-from i s (unknown ∷ es) e h = stays-from i s es e (λ k l. h (suc k) (omega arith))

comes_from : (i : ℕ) (s : Present) (es : List Edit) → s.made ≤ i → i < s.made + insertions es → ((k : ℕ) → k < length es → get_or es k unknown ≢ removal i) → among i (foldl edited s es).left ≡ true
comes_from i s [] l m h = absurd (omega arith)
comes_from i s (insertion x y ∷ es) l m h = elim (ℕ_discrete s.made i) [
  | yes z ↦ stays-from i (edited s (insertion x y)) es (rw (← z) (among_new s.made s.left)) (λ k l. h (suc k) (omega arith))
  | no n ↦ comes_from i (edited s (insertion x y)) es (omega arith) (omega arith) (λ k l. h (suc k) (omega arith))
]
comes_from i s (removal j ∷ es) l m h = comes_from i (edited s (removal j)) es l m (λ k l. h (suc k) (omega arith))
comes_from i s (unknown ∷ es) l m h = comes_from i s es l m (λ k l. h (suc k) (omega arith))

-- where every edit removes only what is there, nothing that is left was removed
unremoved_from : (i : ℕ) (s : Present) (es : List Edit) → Kept s → ((k : ℕ) → k < length es → removable (foldl edited s (take k es)) (get_or es k unknown) ≡ true) → among i (foldl edited s es).left ≡ true
    → (k : ℕ) → k < length es → get_or es k unknown ≢ removal i
unremoved_from i s [] h t e k l r = omega arith
unremoved_from i s (f ∷ es) h t e zero l r =
    let a : among i s.left ≡ true = rw r at (t 0 (omega arith)) in
    let g = gone_from i (edited s (removal i)) es (h.earlier i (among_in i s.left a)) (among_gone i s.left) in
    true≢false (sym e ∙ ap (λ (f : Edit). among i (foldl edited (edited s f) es).left) r ∙ g)
unremoved_from i s (f ∷ es) h t e (suc k) l r = unremoved_from i (edited s f) es (kept-edited s f h) (λ j m. t (suc j) (omega arith)) e k (omega arith) r

module _ (i : ℕ) (es : List Edit) where
  left_made : among i (present_after es).left ≡ true → i < insertions es
  left_made e = omega (arith, (kept-after es).earlier i (among_in i (present_after es).left e), made_after es)

  left_unremoved : ((k : ℕ) → k < length es → removable (present_after (take k es)) (get_or es k unknown) ≡ true) → among i (present_after es).left ≡ true → (k : ℕ) → k < length es → get_or es k unknown ≢ removal i
  left_unremoved t e = unremoved_from i (present_after []) es (kept-after []) t e

  left-still : i < insertions es → ((k : ℕ) → k < length es → get_or es k unknown ≢ removal i) → among i (present_after es).left ≡ true
  left-still l h = comes_from i (present_after []) es (omega arith) (omega arith) h

-- after the first k edits
pub left_at : (es : List Edit) (k i : ℕ) → k ≤ length es → ((j : ℕ) → j < k → removable (present_after (take j es)) (get_or es j unknown) ≡ true)
    → (among i (present_after (take k es)).left ≡ true) ↔ ((i < insertions (take k es)) × ((j : ℕ) → j < k → get_or es j unknown ≢ removal i))
left_at es k i l t =
    let n = length-take-le k es l in (
      λ e. (
        left_made i (take k es) e,
        λ j m. rw (get_or-take k es j unknown m) at (left_unremoved i (take k es) (λ j m. rw (take-take j k es (omega arith), get_or-take k es j unknown (omega arith)) (t j (omega arith))) e j (omega arith)),
      ),
      λ (m, h). left-still i (take k es) m (λ j o. rw (get_or-take k es j unknown (omega arith)) (h j (omega arith))),
    )

-- ---- what isn't there

-- a removal's number and one more, 0 for any other edit
abbrev taken : Edit → ℕ
taken (insertion x y) = 0
taken (removal i) = suc i
taken unknown = 0

-- one of the first k edits removes i, or none does
removed_or_not : (es : List Edit) (i k : ℕ) → ((j : ℕ) × (j < k) × (get_or es j unknown ≡ removal i)) ⊎ ((j : ℕ) → j < k → get_or es j unknown ≢ removal i)
removed_or_not es i zero = inr (λ j l. absurd (omega arith))
removed_or_not es i (suc k) = ⊎_elim (λ (j, l, e). inl (j, omega arith, e)) (λ n. go (get_or es k unknown) refl n) (removed_or_not es i k)
  where
    none : get_or es k unknown ≢ removal i → ((j : ℕ) → j < k → get_or es j unknown ≢ removal i) → (j : ℕ) → j < suc k → get_or es j unknown ≢ removal i
    none m n j l = elim (dec_lt j k) [ yes o ↦ n j o | no o ↦ let z : j ≡ k = omega arith in rw z m ]

    go : (e : Edit) → get_or es k unknown ≡ e → ((j : ℕ) → j < k → get_or es j unknown ≢ removal i)
        → ((j : ℕ) × (j < suc k) × (get_or es j unknown ≡ removal i)) ⊎ ((j : ℕ) → j < suc k → get_or es j unknown ≢ removal i)
    go (insertion x y) z n = inr (none (λ w. let e = ap taken (sym z ∙ w) in omega arith) n)
    go (removal p) z n = elim (ℕ_discrete p i) [
      | yes q ↦ inl (k, omega arith, z ∙ ap removal q)
      | no q ↦ inr (none (λ w. let e = ap taken (sym z ∙ w) in q (omega arith)) n)
    ]
    go unknown z n = inr (none (λ w. let e = ap taken (sym z ∙ w) in omega arith) n)

-- What edit k removes isn't there exactly where it is a removal, and no insertion before it has that number or an earlier edit removes that one.
pub absent-at : (es : List Edit) (k : ℕ) → k ≤ length es → ((j : ℕ) → j < k → removable (present_after (take j es)) (get_or es j unknown) ≡ true)
    → (removable (present_after (take k es)) (get_or es k unknown) ≡ false)
    ↔ ((i : ℕ) × (get_or es k unknown ≡ removal i) × ((insertions (take k es) ≤ i) ⊎ ((j : ℕ) × (j < k) × (get_or es j unknown ≡ removal i))))
absent-at es k l t = (λ f. forth (get_or es k unknown) refl f, λ (i, z, w). rw z (back i w (among i (present_after (take k es)).left) refl))
  where
    forth : (e : Edit) → get_or es k unknown ≡ e → removable (present_after (take k es)) e ≡ false
        → (i : ℕ) × (get_or es k unknown ≡ removal i) × ((insertions (take k es) ≤ i) ⊎ ((j : ℕ) × (j < k) × (get_or es j unknown ≡ removal i)))
    forth (insertion x y) z f = absurd (true≢false f)
    forth (removal i) z f = (
      i,
      z,
      elim (dec_lt i (insertions (take k es))) [
        | yes m ↦ ⊎_elim (λ r. inr r) (λ n. absurd (true≢false (sym ((left_at es k i l t).1 (m, n)) ∙ f))) (removed_or_not es i k)
        | no m ↦ inl (omega arith)
      ],
    )
    forth unknown z f = absurd (true≢false f)

    back : (i : ℕ) → (insertions (take k es) ≤ i) ⊎ ((j : ℕ) × (j < k) × (get_or es j unknown ≡ removal i)) → (b : Bool) → among i (present_after (take k es)).left ≡ b → among i (present_after (take k es)).left ≡ false
    back i w true e = let (m, n) = (left_at es k i l t).0 e in absurd (⊎_elim (λ o. omega arith) (λ (j, o, q). n j o q) w)
    back i w false e = e

-- ---- more edits at the end

pub edits-append : (k : ℕ) (w u : List ℕ) → length w ≡ k * 3 → edits_of (w ++ u) ≡ edits_of w ++ edits_of u
edits-append zero [] u e = refl
edits-append zero (a ∷ w) u e = absurd (omega arith)
edits-append (suc k) [] u e = refl
edits-append (suc k) (a ∷ []) u e = absurd (omega arith)
edits-append (suc k) (a ∷ b ∷ []) u e = absurd (omega arith)
edits-append (suc k) (a ∷ b ∷ c ∷ w) u e = ap (λ (es : List Edit). edit_of a b c ∷ es) (edits-append k w u (omega arith))

pub points-append : (es fs : List Edit) → points_of (es ++ fs) ≡ points_of es ++ points_of fs
points-append [] fs = refl
points-append (insertion x y ∷ es) fs = ap (λ (l : List Float). x ∷ y ∷ l) (points-append es fs)
points-append (removal i ∷ es) fs = points-append es fs
points-append (unknown ∷ es) fs = points-append es fs

pub insertions-append : (es fs : List Edit) → insertions (es ++ fs) ≡ insertions es + insertions fs
insertions-append [] fs = omega arith
insertions-append (insertion x y ∷ es) fs = omega (arith, insertions-append es fs)
insertions-append (removal i ∷ es) fs = insertions-append es fs
insertions-append (unknown ∷ es) fs = insertions-append es fs

-- ---- trees and extents look only at the points that they are given

-- the points with these numbers are the same in both lists
abbrev pub Agree : List Float → List Float → List ℕ → Type 0
Agree at at' is = (i : ℕ) → In i is → (x_at at i ≡ x_at at' i) × (y_at at i ≡ y_at at' i)

module _ (at at' : List Float) where
  same_agree : (is : List ℕ) → Agree at at' is → (i j : ℕ) → In i is → In j is → same at i j ≡ same at' i j
  unfolding same
  same_agree is h i j m n = rw ((h i m).0, (h i m).1, (h j n).0, (h j n).1)

  alike_agree : (is : List ℕ) → Agree at at' is → alike at is ≡ alike at' is
  alike_agree [] h = refl
  alike_agree (i ∷ is) h = all_agree (same at i) (same at' i) is (λ j m. same_agree (i ∷ is) h i j (inl refl) (inr m))

  quarter_agree : (c : Extent) (q : ℕ) (is : List ℕ) → Agree at at' is → points_in at c q is ≡ points_in at' c q is
  unfolding in_quarter
  quarter_agree c q is h = keep_agree (in_quarter at c q) (in_quarter at' c q) is (λ i m. rw ((h i m).0, (h i m).1))

  abbrev Same : ℕ → Extent → List ℕ → Type 0
  Same k c is = grow at k c is ≡ grow at' k c is

  grow-next : (k : ℕ) (c : Extent) (js : List ℕ) → 0 < length js → Agree at at' js → (b : Bool) → alike at js ≡ b
      → Same k (quarter 0 c) (points_in at c 0 js) → Same k (quarter 1 c) (points_in at c 1 js) → Same k (quarter 2 c) (points_in at c 2 js) → Same k (quarter 3 c) (points_in at c 3 js) → Same (suc k) c js
  grow-next k c js l h true e h0 h1 h2 h3 = grow_leaf at k c js l e ∙ sym (grow_leaf at' k c js l (sym (alike_agree js h) ∙ e))
  grow-next k c js l h false e h0 h1 h2 h3 =
      rw (grow_node at k c js e, grow_node at' k c js (sym (alike_agree js h) ∙ e), h0, h1, h2, h3, quarter_agree c 0 js h, quarter_agree c 1 js h, quarter_agree c 2 js h, quarter_agree c 3 js h)

  grow_agree : (k : ℕ) (c : Extent) (is : List ℕ) → Agree at at' is → Same k c is
  grow_agree zero c is h = grow_stop at c is ∙ sym (grow_stop at' c is)
  grow_agree (suc k) c [] h = grow-none at (suc k) c ∙ sym (grow-none at' (suc k) c)
  grow_agree (suc k) c (i ∷ is) h =
      let child : (q : ℕ) → Same k (quarter q c) (points_in at c q (i ∷ is)) = λ q. grow_agree k (quarter q c) (points_in at c q (i ∷ is)) (λ j m. h j (in_keep (in_quarter at c q) (i ∷ is) j m).0) in
      grow-next k c (i ∷ is) (omega arith) h (alike at (i ∷ is)) refl (child 0) (child 1) (child 2) (child 3)

  pub tree_agree : (c : Extent) (is : List ℕ) → Agree at at' is → tree_in at c is ≡ tree_in at' c is
  unfolding tree_in
  tree_agree c is h = grow_agree 66 c is h

  cover_from : (c : Covered) (is : List ℕ) → Agree at at' is
      → foldl (λ c i. cover_point c (floor (x_at at i)) (floor (y_at at i))) c is ≡ foldl (λ c i. cover_point c (floor (x_at at' i)) (floor (y_at at' i))) c is
  cover_from c [] h = refl
  cover_from c (i ∷ is) h = rw ((h i (inl refl)).0, (h i (inl refl)).1) (cover_from (cover_point c (floor (x_at at' i)) (floor (y_at at' i))) is (λ j m. h j (inr m)))

  pub cover_agree : (is : List ℕ) → Agree at at' is → cover_all at is ≡ cover_all at' is
  unfolding cover_all
  cover_agree is h = cover_from nothing is h
