-- The turns of editing: what is checked, what is there and how many insertions are left after k edits.
use mathlib.Core.Path.{◌≡◌, refl, sym, ap, ◌∙◌, subst}
use mathlib.Core.List.{List, [], ◌∷◌, ◌++◌}
use Prim.Native.Nat.{ℕ, ◌+◌, ◌*◌, ◌≤◌, ◌<◌}
use native.Mathlib.Nat.{zero-mul}
use native.Mathlib.Omega.{arith}
use lib.ListN.{length, get_or, drop}
use lib.Ieee.{Float}
use Rattle.std.specs.Prelude.{Ok}
use Rattle.std.proofs.lemmas.List.{drop_more, length-drop}
use Rattle.rules.specs.declared.Extent.{Extent}
use Rattle.rules.specs.declared.Refusal.{Refusal}
use Rattle.rules.specs.Plain.{foldl}
use Rattle.rules.specs.Outcome.{Check, fine, refused, ◌>>=◌}
use Rattle.rules.specs.Tree.{chains_of, tree_in}
use Rattle.rules.specs.Edits.{Edit, insertion, removal, unknown, edit_of, edits_of, insertions, Present, present, edited, present_after, extent_now, tree_now, edit_check, edits_from, edit_words}
use Rattle.tree_slots.specs.declared.Quadtree.{Quadtree}
use Rattle.tree_build.specs.Build.{particles, no_tree}
use Rattle.rules.proofs.CellRule.{tree-whole, chains_in_lem, chains-length}
use Rattle.rules.specs.Calls.{slots_of}
use Rattle.tree_slots.specs.Trees.{Lays}
use Rattle.tree_slots.proofs.Links.{rises_length, in_below}
use Rattle.tree_slots.proofs.Trees.{lays_levels}
use Rattle.tree_placing.specs.Add.{Ranged}
use Rattle.tree_placing.proofs.AddPlaced.{ranged_points}
use Rattle.tree_build.proofs.AddBuild.{holds_none, no_extent, holds_lays}
use Rattle.edits_made.specs.Editing.{Now, Changed, Stood, AllDone}

-- a rest of one or two words is no edit
too_few : (w : List ℕ) → length w < edit_words → edits_of w ≡ []
too_few [] h = refl
too_few (x ∷ []) h = refl
too_few (x ∷ y ∷ []) h = refl
too_few (x ∷ y ∷ z ∷ w) h = absurd (omega (arith, h))

-- the words of edit k, and the edit that they make
pub record Next (words : List ℕ) (k : ℕ) (e t : List ℕ) : Type 0 where
  pub more : k * edit_words + edit_words ≤ length words
  pub kind : get_or words (k * edit_words) 0 ≡ get_or e 0 0
  pub left : t ≡ drop ((k + 1) * edit_words) words
  pub next : edits_of (drop (k * edit_words) words) ≡ edit_of (get_or e 0 0) (get_or e 1 0) (get_or e 2 0) ∷ edits_of (drop ((k + 1) * edit_words) words)

pub next_edit : (words : List ℕ) (k : ℕ) (e t : List ℕ) → drop (k * edit_words) words ≡ e ++ t → length e ≡ edit_words → Next words k e t
next_edit words k [] t h l = absurd (omega (arith, l))
next_edit words k (a ∷ []) t h l = absurd (omega (arith, l))
next_edit words k (a ∷ c ∷ []) t h l = absurd (omega (arith, l))
next_edit words k (a ∷ c ∷ d ∷ x ∷ e) t h l = absurd (omega (arith, l))
next_edit words k (a ∷ c ∷ d ∷ []) t h l =
    let n = k * edit_words in
    let long : n + 3 ≤ length words = omega (arith, length-drop n words, ap length h) in
    let left : t ≡ drop (n + 3) words = cc (three n long) in
    let turn : n + 3 ≡ (k + 1) * edit_words = omega arith in
    record {
      more = long;
      kind = cc (three n long);
      left = rw turn at left;
      next = ap edits_of h ∙ ap (λ (u : List ℕ). edit_of a c d ∷ edits_of u) (rw turn at left);
    }
  where
    three : (n : ℕ) → n + 3 ≤ length words → drop n words ≡ get_or words n 0 ∷ get_or words (n + 1) 0 ∷ get_or words (n + 2) 0 ∷ drop (n + 3) words
    three n l =
        let two : n + 1 + 1 ≡ n + 2 = omega arith in
        let all : n + 2 + 1 ≡ n + 3 = omega arith in
        cc (drop_more words n 0 (omega arith), rw two at (drop_more words (n + 1) 0 (omega arith)), rw all at (drop_more words (n + 2) 0 (omega arith)))

module _ (words : List ℕ) (at : List Float) (slots : ℕ) where
  abbrev es : List Edit
  es = edits_of words

  -- what is left from edit k on
  abbrev rest : ℕ → List Edit
  rest k = edits_of (drop (k * edit_words) words)

  -- after k edits, of which `made` were insertions
  pub record Editing (there m next tail : List ℕ) (q : Quadtree) (made k : ℕ) : Type 0 where
    pub left : List ℕ
    pub here : Now at (present made left) there m next tail q
    pub check : edits_from at slots 0 (present 0 []) es ≡ edits_from at slots k (present made left) (rest k)
    pub end : present_after es ≡ foldl edited (present made left) (rest k)
    pub count : insertions es ≡ made + insertions (rest k)

  -- before the first edit
  pub edit_start : (there m next tail : List ℕ) → Editing there m next tail no_tree 0 0
  unfolding extent_now
  edit_start there m next tail =
      record {
        left = [];
        here =
            record {
              holds = holds_none at m;
              linked = record { links = λ i n. absurd n; tails = λ i n. absurd n };
              rises = tt;
              earlier = λ i n. absurd n;
              extent = no_extent at;
              flags = λ i l. absurd (omega arith);
            };
        check = ap (edits_from at slots 0 (present 0 [])) whole;
        end = ap present_after whole;
        count = omega (arith, ap insertions whole);
      }
    where
      whole : es ≡ rest 0
      whole = ap (λ (i : ℕ). edits_of (drop i words)) (sym (zero-mul edit_words))

  -- edit k is f
  module _ (there m next tail : List ℕ) (q : Quadtree) (made k : ℕ) (b : Editing there m next tail q made k) (f : Edit) (next-is : rest k ≡ f ∷ rest (k + 1)) where
    abbrev s : Present
    s = present made b.left

    -- an insertion has a point
    pub insertion-left : (x y : Float) → f ≡ insertion x y → made < insertions es
    insertion-left x y z = omega (arith, b.count, ap insertions next-is, ap (λ (f : Edit). insertions (f ∷ rest (k + 1))) z)

    decided : (c : Check) → edit_check at slots k s f ≡ c → edits_from at slots 0 (present 0 []) es ≡ (c >>= λ _. edits_from at slots (k + 1) (edited s f) (rest (k + 1)))
    unfolding edits_from
    decided c h = b.check ∙ ap (edits_from at slots k s) next-is ∙ ap (λ (c : Check). c >>= λ _. edits_from at slots (k + 1) (edited s f) (rest (k + 1))) h

    pub edit_refused : (r : Refusal) → edit_check at slots k s f ≡ refused r → edits_from at slots 0 (present 0 []) es ≡ refused r
    edit_refused r h = decided (refused r) h

    -- what is there then, and how many were inserted
    pub edit-done : (there' m' next' tail' : List ℕ) (r : Quadtree) → Changed at slots k s f there' m' next' tail' (Ok r) → Editing there' m' next' tail' r (edited s f).made (k + 1)
    edit-done there' m' next' tail' r d =
        record {
          left = (edited s f).left;
          here = d.1;
          check = decided fine d.0;
          end = b.end ∙ ap (foldl edited s) next-is;
          count = b.count ∙ ap (λ (n : ℕ). made + n) (ap insertions next-is) ∙ counted f;
        }
      where
        counted : (f : Edit) → made + insertions (f ∷ rest (k + 1)) ≡ (edited s f).made + insertions (rest (k + 1))
        counted (insertion x y) = omega arith
        counted (removal i) = refl
        counted unknown = refl

  -- after the last edit
  module _ (there m next tail : List ℕ) (q : Quadtree) (made k : ℕ) (b : Editing there m next tail q made k) (none : length (drop (k * edit_words) words) < edit_words) where
    edits-fine : edits_from at slots 0 (present 0 []) es ≡ fine
    unfolding edits_from
    edits-fine = b.check ∙ ap (edits_from at slots k (present made b.left)) (too_few (drop (k * edit_words) words) none)

    edits-present : present_after es ≡ present made b.left
    edits-present = b.end ∙ ap (foldl edited (present made b.left)) (too_few (drop (k * edit_words) words) none)

    -- what is there stands in the slots
    stood : Ranged at (particles at) → made ≤ particles at → Stood at (tree_now at (present made b.left)) (extent_now at (present made b.left)) m next q
    unfolding tree_now
    stood r l =
        let h = b.here in
        let is = b.left in
        let c = extent_now at (present made is) in
        let lays = subst (λ (c : Extent). Lays (tree_in at c is) m next q) h.extent (holds_lays at is m next tail q (ranged_points at is (particles at) r (λ i n. omega (arith, h.earlier i n))) h.holds h.linked) in
        let rule = tree-whole at c is (lays_levels lays) in
        record {
          lays = lays;
          extent = h.extent;
          below = in_below (particles at) (chains_of (tree_in at c is)) (λ i n. omega (arith, h.earlier i ((chains_in_lem at (tree_in at c is) c is i rule).0 n)));
          few = omega (arith, chains-length at (tree_in at c is) c is rule, rises_length 0 made is (omega arith) h.earlier h.rises);
        }

    pub edits_done : Ranged at (particles at) → made ≤ particles at → slots_of m ≡ slots → AllDone words at m next (Ok q)
    edits_done r l s = (
      ap (λ (n : ℕ). edits_from at n 0 (present 0 []) es) s ∙ edits-fine,
      subst (λ (x : Present). Stood at (tree_now at x) (extent_now at x) m next q) (sym edits-present) (stood r l),
    )
