-- Edits one after the other: the tree at each, which of them can be made, and the earliest that can't. Assumes nothing.
use mathlib.Core.Path.{◌≡◌, refl, sym, ap, ap₂, ◌∙◌, subst}
use mathlib.Core.Logic.{◌⊎◌, inl, inr, ⊎_elim}
use mathlib.Core.Bool.{Bool, true, false, cond, true≢false}
use mathlib.Core.List.{List, [], ◌∷◌}
use Prim.Native.Nat.{ℕ, zero, suc, ◌+◌, ◌≤◌, ◌<◌}
use native.Mathlib.Omega.{arith}
use native.Mathlib.Decide.{dec_lt}
use native.Mathlib.Numerals.{add-one}
use borrow.Author.Tests.{le-leb, lt-leb}
use lib.Dec.{leb}
use lib.ListN.{length, get_or, take, drop, take-append-drop}
use lib.Seq.{take-take}
use lib.Ieee.{Float}
use Rattle.rules.specs.declared.Extent.{Extent}
use Rattle.rules.specs.declared.Refusal.{Refusal}
use Rattle.rules.specs.Plain.{keep, foldl}
use Rattle.rules.specs.Outcome.{done, refused, refusal, Check, fine, require, ◌then◌, ◌>>=◌}
use Rattle.rules.specs.Tree.{Tree, none, depth, nodes, greatest_level, same, tree_in, fits_check}
use Rattle.rules.specs.Edits.{Edit, insertion, removal, unknown, points_of, insertions, Present, present, edited, present_after, among, extent_now, tree_now, removable, edit_check, edits_from}
use Rattle.rules.specs.Terms.{Oversized, Fits, times, IsTree, Ruled, nth_edit, present_at, extent_at, tree_at, CanBeMade, EarliestEdit}
use Rattle.rules.proofs.CellList.{In}
use Rattle.rules.proofs.CellCount.{times_in}
use Rattle.rules.proofs.CellChain.{each_map, Chain}
use Rattle.rules.proofs.CellRule.{grow-none, unique, points, tree-whole, tree-deep, tree-fits, leaves-distinct, nodes-distinct, chains-times, chains as chains-of}
use Rattle.rules.proofs.CellWithout.{without-fits}
use Rattle.rules.proofs.EditLaws.{Kept, among_in, kept-after, made_after, present-next, absent-at, insertions-append}
use Rattle.list_checks.proofs.Checks.{then_both, bind_both, require_true}
use Rattle.tree_cells.proofs.Prefix.{InRange, fits-fine, fits-deep, fits_full}
use Rattle.tree_cells.proofs.WholeTree.{leaves-within}

-- ---- the tree at an edit

module _ (at : List Float) (s : Present) (r : InRange at s.made) (k : Kept s) (slots : ℕ) (f : Fits slots (tree_now at s)) where
  abbrev t : Tree Extent
  t = tree_now at s

  abbrev c : Extent
  c = extent_now at s

  is-tree : IsTree at c t s.left
  unfolding tree_now
  is-tree = tree-whole at c s.left f.0

  ruled_now : Ruled at c t s.left slots
  unfolding extent_now
  ruled_now =
      record {
        ruled = is-tree;
        only = λ u g. unique at u t c s.left g is-tree;
        fits = f;
        tips = leaves-distinct at t c s.left is-tree;
        few = nodes-distinct at t c s.left is-tree f.0;
        chains =
            each_map (λ _. Chain at s.left) (λ _ js. (i : ℕ) → 0 < times i js → js ≡ keep (same at i) s.left) (λ _ js h i m. h.whole i (times_in i js m)) t
            (chains-of at t c s.left (points at s.left (λ i m. r i (k.earlier i m))) is-tree);
        once = λ i. chains-times at t c s.left i is-tree ∙ k.once i;
        inside = leaves-within at s.made s.left t r k.earlier is-tree;
      }

-- ---- the check of one edit

module _ (at : List Float) (slots k : ℕ) (s : Present) (e : Edit) where
  abbrev u : Tree Extent
  u = tree_now at (edited s e)

  edit_fine : edit_check at slots k s e ≡ fine → (removable s e ≡ true) × Fits slots u
  unfolding edit_check
  edit_fine h = let b = then_both (require (removable s e) 15 k) (fits_check slots k u) h in (require_true (removable s e) 15 k b.0, (fits-fine slots k u).0 b.1)

  fine_edit : (removable s e ≡ true) × Fits slots u → edit_check at slots k s e ≡ fine
  unfolding edit_check
  fine_edit (h, f) = rw h ((fits-fine slots k u).1 f)

  -- by which number it is refused
  abbrev Number : ℕ → Type 0
  Number n = ((n ≡ 15) × (removable s e ≡ false)) ⊎ ((n ≡ 6) × (removable s e ≡ true) × (greatest_level + 1 < depth u)) ⊎ ((n ≡ 7) × (removable s e ≡ true) × (depth u ≤ greatest_level + 1) × (slots < nodes u))

  edit_refused : (q : Refusal) → edit_check at slots k s e ≡ refused q → (q.place ≡ k) × Number q.number
  unfolding edit_check
  edit_refused q h = go (removable s e) refl h
    where
      fits : removable s e ≡ true → fits_check slots k u ≡ refused q → (q.place ≡ k) × Number q.number
      fits p h = elim (dec_lt (greatest_level + 1) (depth u)) [
        | yes d ↦ let z : q ≡ refusal 6 k = cc (fits-deep slots k u d) in rw z (refl, inr (inl (refl, p, d)))
        | no d ↦ elim (dec_lt slots (nodes u)) [
          | yes m ↦ let z : q ≡ refusal 7 k = cc (fits_full slots k u (omega arith) m) in rw z (refl, inr (inr (refl, p, omega arith, m)))
          | no m ↦ absurd (let z : ◌≡◌ {A = ℕ} 0 1 = cc ((fits-fine slots k u).1 (omega arith, omega arith)) in omega arith)
        ]
      ]

      go : (b : Bool) → removable s e ≡ b → (require b 15 k then fits_check slots k u) ≡ refused q → (q.place ≡ k) × Number q.number
      go true p h = fits p h
      go false p h = let z : q ≡ refusal 15 k = cc in rw z (refl, inl (refl, p))

-- ---- one edit after the other

module _ (at : List Float) (slots : ℕ) where
  -- edit j of these, from s on, can be made
  abbrev Goes : Present → List Edit → ℕ → Type 0
  Goes s es j =
      let v = foldl edited s (take j es) in
      let e = get_or es j unknown in
      (removable v e ≡ true) × Fits slots (tree_now at (edited v e))

  from-fine : (k : ℕ) (s : Present) (es : List Edit) → edits_from at slots k s es ≡ fine → (j : ℕ) → j < length es → Goes s es j
  unfolding edits_from
  from-fine k s [] h j l = absurd (omega arith)
  from-fine k s (e ∷ es) h zero l = edit_fine at slots k s e (bind_both (edit_check at slots k s e) (edits_from at slots (k + 1) (edited s e) es) h).0
  from-fine k s (e ∷ es) h (suc j) l = from-fine (k + 1) (edited s e) es (bind_both (edit_check at slots k s e) (edits_from at slots (k + 1) (edited s e) es) h).1 j (omega arith)

  fine-from : (k : ℕ) (s : Present) (es : List Edit) → ((j : ℕ) → j < length es → Goes s es j) → edits_from at slots k s es ≡ fine
  unfolding edits_from
  fine-from k s [] h = refl
  fine-from k s (e ∷ es) h = rw (fine_edit at slots k s e (h 0 (omega arith))) (fine-from (k + 1) (edited s e) es (λ j l. h (suc j) (omega arith)))

  -- the first that is refused
  record First (k : ℕ) (s : Present) (es : List Edit) (q : Refusal) : Type 0 where
    j : ℕ
    place : q.place ≡ k + j
    among : j < length es
    before : (i : ℕ) → i < j → Goes s es i
    number : Number at slots (k + j) (foldl edited s (take j es)) (get_or es j unknown) q.number

  one_more : (s : Present) (e : Edit) (es : List Edit) (j : ℕ) → Goes s (e ∷ es) 0 → ((i : ℕ) → i < j → Goes (edited s e) es i) → (i : ℕ) → i < suc j → Goes s (e ∷ es) i
  one_more s e es j h g zero l = h
  one_more s e es j h g (suc i) l = g i (omega arith)

  from_refused : (k : ℕ) (s : Present) (es : List Edit) (q : Refusal) → edits_from at slots k s es ≡ refused q → First k s es q
  unfolding edits_from
  from_refused k s [] q h = absurd (let z : ◌≡◌ {A = ℕ} 0 1 = cc in omega arith)
  from_refused k s (e ∷ es) q h = go (edit_check at slots k s e) refl h (from_refused (k + 1) (edited s e) es q)
    where
      go : (c : Check) → edit_check at slots k s e ≡ c → (c >>= λ _. edits_from at slots (k + 1) (edited s e) es) ≡ refused q
          → (edits_from at slots (k + 1) (edited s e) es ≡ refused q → First (k + 1) (edited s e) es q) → First k s (e ∷ es) q
      go (done t) f h rest =
          let w = rest h in
          record { j = suc w.j; place = omega (arith, w.place); among = omega (arith, w.among); before = one_more s e es w.j (edit_fine at slots k s e f) w.before; number = w.number }
      go (refused r) f h rest =
          let (p, n) = edit_refused at slots k s e q (f ∙ h) in
          record { j = 0; place = omega arith; among = omega arith; before = λ i l. absurd (omega arith); number = n }

-- ---- a whole list of edits

pub insertions-take : (es : List Edit) (k : ℕ) → insertions (take k es) ≤ insertions es
insertions-take es k = omega (arith, insertions-append (take k es) (drop k es), ap insertions (take-append-drop k es))

-- more edits have made no fewer insertions, and at most all
pub made_more : (es : List Edit) (j k : ℕ) → j ≤ k → ((present_at es j).made ≤ (present_at es k).made) × ((present_at es k).made ≤ insertions es)
made_more es j k l =
    let m = insertions-take (take k es) j in
    let e : take j (take k es) ≡ take j es = take-take j k es l in
    let f = ap insertions e in
    (omega (arith, made_after (take j es), made_after (take k es)), omega (arith, made_after (take k es), insertions-take es k))

tree-none : (at : List Float) (c : Extent) → tree_in at c [] ≡ none
unfolding tree_in
tree-none at c = grow-none at 66 c

-- a removal's tree is no larger
removal_fits : (at : List Float) (slots : ℕ) (s : Present) (i : ℕ) → same at i i ≡ true → Fits slots (tree_now at s) → Fits slots (tree_now at (edited s (removal i)))
unfolding tree_now extent_now
removal_fits at slots s i r f = let n = without-fits at i (extent_now at s) s.left r f.0 in (omega (arith, n.levels), omega (arith, n.nodes))

module _ (es : List Edit) (slots : ℕ) where
  abbrev places : List Float
  places = points_of es

  goes_makes : (k : ℕ) → k < length es → Goes places slots (present_after []) es k → CanBeMade es slots k
  goes_makes k l (h, f) = (h, subst (λ (s : Present). Fits slots (tree_now places s)) (sym (present-next es k l)) f)

  makes_goes : (k : ℕ) → k < length es → CanBeMade es slots k → Goes places slots (present_after []) es k
  makes_goes k l (h, f) = (h, subst (λ (s : Present). Fits slots (tree_now places s)) (present-next es k l) f)

  pub each_makes : edits_from places slots 0 (present 0 []) es ≡ fine → (k : ℕ) → k < length es → CanBeMade es slots k
  each_makes h k l = goes_makes k l (from-fine places slots 0 (present 0 []) es h k l)

  pub makes_each : ((k : ℕ) → k < length es → CanBeMade es slots k) → edits_from places slots 0 (present 0 []) es ≡ fine
  makes_each h = fine-from places slots 0 (present 0 []) es (λ k l. makes_goes k l (h k l))

  pub first_edit : (q : Refusal) → edits_from places slots 0 (present 0 []) es ≡ refused q → EarliestEdit es slots q
  first_edit q h =
      let w = from_refused places slots 0 (present 0 []) es q h in
      let z : q.place ≡ w.j = omega (arith, w.place) in
      record {
        among = omega (arith, w.among);
        before = λ k l. goes_makes k (omega (arith, w.among)) (w.before k (omega arith));
        number = rw (z, present-next es w.j w.among) w.number;
      }

  -- where it is 15, edit k removes what isn't there
  pub absent_named : (k : ℕ) → EarliestEdit es slots (refusal 15 k) → (i : ℕ) × (nth_edit es k ≡ removal i) × ((insertions (take k es) ≤ i) ⊎ ((j : ℕ) × (j < k) × (nth_edit es j ≡ removal i)))
  absent_named k w =
      let f : removable (present_at es k) (nth_edit es k) ≡ false = ⊎_elim (λ n. n.1) (⊎_elim (λ n. absurd (omega arith)) (λ n. absurd (omega arith))) w.number in
      (absent-at es k (omega (arith, w.among)) (λ j m. (w.before j m).0)).0 f

  -- there is one such refusal at most: the edit can't be made, and its number is told by what is there and by its tree
  unmade : (q : Refusal) → EarliestEdit es slots q → CanBeMade es slots q.place → ⊥
  unmade q w (h, f) = ⊎_elim (λ n. true≢false (sym h ∙ n.1)) (⊎_elim (λ n. omega arith) (λ n. omega arith)) w.number

  abbrev number_at : ℕ → ℕ
  number_at k = cond (removable (present_at es k) (nth_edit es k)) (cond (leb (depth (tree_at es (k + 1))) 65) 7 6) 15

  number_is : (q : Refusal) → EarliestEdit es slots q → q.number ≡ number_at q.place
  number_is q w =
      ⊎_elim (λ n. n.0 ∙ rw n.1) (⊎_elim (λ n. n.0 ∙ rw (n.1, lt-leb (depth (tree_at es (q.place + 1))) 65 n.2)) (λ n. n.0 ∙ rw (n.1, le-leb (depth (tree_at es (q.place + 1))) 65 n.2))) w.number

  pub earliest_only : (p q : Refusal) → EarliestEdit es slots p → EarliestEdit es slots q → p ≡ q
  earliest_only p q v w =
      elim (dec_lt p.place q.place) [
        | yes l ↦ absurd (unmade p v (w.before p.place l))
        | no l ↦
            elim (dec_lt q.place p.place) [
              | yes m ↦ absurd (unmade q w (v.before q.place m))
              | no m ↦
                  let e : p.place ≡ q.place = omega arith in
                  ap₂ refusal (number_is p v ∙ ap number_at e ∙ sym (number_is q w)) e
            ]
      ]

  -- where all edits can be made, there is none
  pub none-unmade : (q : Refusal) → EarliestEdit es slots q → ((k : ℕ) → k < length es → CanBeMade es slots k) → ⊥
  none-unmade q w h = unmade q w (h q.place w.among)

  -- what was made so far fits, also before the first edit
  pub fits-at : (n : ℕ) → ((k : ℕ) → k < n → CanBeMade es slots k) → (k : ℕ) → k ≤ n → Fits slots (tree_at es k)
  unfolding tree_now
  fits-at n h zero l = rw (tree-none places (extent_now places (present_after []))) (omega arith, omega arith)
  fits-at n h (suc k) l = subst (λ (i : ℕ). Fits slots (tree_at es i)) (add-one k) (h k (omega arith)).1

  module _ (range : InRange places (insertions es)) where
    range_at : (k : ℕ) → InRange places (present_at es k).made
    range_at k i l = range i (omega (arith, made_after (take k es), insertions-take es k))

    pub ruled-at : (k : ℕ) → Fits slots (tree_at es k) → Ruled places (extent_at es k) (tree_at es k) (present_at es k).left slots
    ruled-at k f = ruled_now places (present_at es k) (range_at k) (kept-after (take k es)) slots f

    -- 6 and 7 come only at an insertion
    pub grows_at : (q : Refusal) → EarliestEdit es slots q → (q.number ≡ 6) ⊎ (q.number ≡ 7) → (x y : Float) × (nth_edit es q.place ≡ insertion x y)
    grows_at q w n = go (nth_edit es q.place) refl
      where
        fits : Fits slots (tree_at es q.place)
        fits = fits-at q.place w.before q.place (omega arith)

        large : Fits slots (tree_at es (q.place + 1)) → ⊥
        large f = ⊎_elim (λ h. ⊎_elim (λ z. omega arith) (λ z. omega arith) n) (λ h. ⊎_elim (λ h. omega arith) (λ h. omega arith) h) w.number

        present-is : removable (present_at es q.place) (nth_edit es q.place) ≡ true
        present-is = ⊎_elim (λ h. absurd (⊎_elim (λ z. omega arith) (λ z. omega arith) n)) (λ h. ⊎_elim (λ h. h.1) (λ h. h.1) h) w.number

        own : (i : ℕ) → In i (present_at es q.place).left → same places i i ≡ true
        own = points places (present_at es q.place).left (λ i m. range_at q.place i ((kept-after (take q.place es)).earlier i m))

        next : (e : Edit) → nth_edit es q.place ≡ e → Fits slots (tree_now places (edited (present_at es q.place) e)) → ⊥
        next e z f = large (subst (λ (s : Present). Fits slots (tree_now places s)) (sym (present-next es q.place w.among ∙ ap (edited (present_at es q.place)) z)) f)

        go : (e : Edit) → nth_edit es q.place ≡ e → (x y : Float) × (nth_edit es q.place ≡ insertion x y)
        go (insertion x y) z = (x, y, z)
        go (removal i) z =
            let m : among i (present_at es q.place).left ≡ true = rw z at present-is in
            absurd (next (removal i) z (removal_fits places slots (present_at es q.place) i (own i (among_in i (present_at es q.place).left m)) fits))
        go unknown z = absurd (next unknown z fits)

-- ---- the trees that the cell rule names, which are not cut off

module _ (es : List Edit) (slots : ℕ) where
  -- what is said of the earliest edit holds of every tree at it by the cell rule
  pub earliest_named : (q : Refusal) → EarliestEdit es slots q → (q.number ≡ 6) ⊎ (q.number ≡ 7) → (t : Tree Extent)
      → IsTree (points_of es) (extent_at es (q.place + 1)) t (present_at es (q.place + 1)).left
      → ((q.number ≡ 6) × (greatest_level + 1 < depth t)) ⊎ ((q.number ≡ 7) × (depth t ≤ greatest_level + 1) × (slots < nodes t))
  unfolding tree_now
  earliest_named q w n t g =
      let c = extent_at es (q.place + 1) in
      let is = (present_at es (q.place + 1)).left in
      let same : depth (tree_at es (q.place + 1)) ≤ greatest_level + 1 → t ≡ tree_at es (q.place + 1) = λ d. unique (points_of es) t (tree_at es (q.place + 1)) c is g (tree-whole (points_of es) c is d) in
      ⊎_elim (λ h. absurd (⊎_elim (λ z. omega arith) (λ z. omega arith) n)) (⊎_elim (λ h. inl (h.0, tree-deep (points_of es) t c is g h.2)) (λ h. inr (rw (same h.2) (h.0, h.2, h.3)))) w.number

  -- where one of them is not too large, the tree that the rules compute fits
  pub fits_named : (k : ℕ) (t : Tree Extent) → IsTree (points_of es) (extent_at es k) t (present_at es k).left → (Oversized slots t → ⊥) → Fits slots (tree_at es k)
  unfolding tree_now
  fits_named k t g small = tree-fits (points_of es) t (extent_at es k) (present_at es k).left slots g small
