-- What the call on edits is shown to do, for any words, from what it promises alone (`AfterEdits`). The words are those of rules/specs/Terms, rules/specs/Edits and specs/Told.
use mathlib.Core.Path.{◌≡◌, refl, sym, ap, ◌∙◌, subst}
use mathlib.Core.Logic.{◌⊎◌, inl, ⊎_elim, ◌↔◌, ◌≢◌}
use mathlib.Core.Bool.{true, cond}
use mathlib.Core.List.{List, [], ◌∷◌, ◌++◌}
use Prim.Native.Nat.{ℕ, ◌+◌, ◌*◌, ◌^◌, ◌≤◌, ◌<◌}
use native.Mathlib.Omega.{arith}
use lib.ListN.{length, take}
use lib.Seq.{take-length}
use lib.Ieee.{Float}
use Rattle.rules.specs.declared.Extent.{Extent}
use Rattle.rules.specs.declared.Refusal.{Refusal}
use Rattle.rules.specs.declared.TreeAnswer.{TreeAnswer}
use Rattle.rules.specs.Plain.{keep, padded, all, up_to}
use Rattle.rules.specs.Outcome.{refused, refusal, refusal_of}
use Rattle.rules.specs.Number.{float_of, place_range, x_at, y_at}
use Rattle.rules.specs.Refusal.{most_particles}
use Rattle.rules.specs.Floor.{floor}
use Rattle.rules.specs.Cell.{nowhere}
use Rattle.rules.specs.Cover.{Square, inside, holds, cover_all, extent_of}
use Rattle.rules.specs.Tree.{Tree, nodes, depth, greatest_level, same, tree_in, rows_of, flat, chains_of}
use Rattle.rules.specs.Sheet.{sheet_of}
use Rattle.rules.specs.Calls.{slots_of, tree_result}
use Rattle.rules.specs.Edits.{insertion, removal, edit_words, edits_of, insertions, among, extent_now, removable, EditsInput, edit_list, edit_input_check}
use Rattle.rules.specs.Terms.{leaves, EachLeaf, Oversized, times, in_cell, IsTree, Sided, Contains, distinct, most_nodes, Ruled, nth_edit, present_at, extent_at, tree_at, CanBeMade, EarliestEdit, resting}
use Rattle.rules.proofs.EditLaws.{left_at, absent-at, edits-append}
use Rattle.tree_cells.proofs.Prefix.{InRange}
use Rattle.tree_cells.proofs.WholeTree.{extent_sided, extent_holds}
use Rattle.tree_rows.proofs.ListRows.{rows_count}
use Rattle.tree_call.specs.Tree.{AfterTree}
use Rattle.edits_call.specs.Call.{lent, AfterEdits}
use Rattle.talemiku.specs.Told.{points_made, present_last, extent_last, tree_last, EditsFine, PointsSheet, on_sheet, edits_made, undone}
use Rattle.talemiku.proofs.Inserts.{points-sheet, as_tree}
use Rattle.talemiku.proofs.Widens.{widens, wider}
use Rattle.talemiku.proofs.Undone.{first-accepted, first_extent, first-tree, undone-is, undone-same}
use Rattle.talemiku.proofs.Undone as Undone
use Rattle.talemiku.proofs.EditSteps.{made_more, absent_named, grows_at, earliest_named, fits_named}
use Rattle.talemiku.proofs.Lapses.{Accepted, input_fine, edits-fine, input_refused, ruled_each, ruled_last, refusal_is, accepts, answer_is, rows_are, chains_are, earliest_is, earliest_answer, made_few, made_each}

module _ (l : EditsInput) (r : TreeAnswer) (rows chains work : List ℕ) (a : AfterEdits l r rows chains work) where
  -- ---- answered 0

  module _ (z : r.refusal.number ≡ 0) where
    ok : Accepted l
    ok = accepts a z

    -- The extent is that of all points inserted, also of those that are gone.
    pub edits-extent : r.extent ≡ extent_last l
    edits-extent = ap (λ (r : TreeAnswer). r.extent) (answer_is a ok)

    -- The rows and the chains are those of the cell rule's tree of that extent and of what is there after the last edit, with zeros after them.
    pub edits-listed : (rows ≡ padded (length l.rows) 0 (flat (rows_of (tree_last l)))) × (chains ≡ padded (length l.chains) 0 (chains_of (tree_last l)))
    edits-listed = (rows_are a ok, chains_are a ok)

    -- What is there after the last edit is what was inserted and not removed.
    pub edits-left : (i : ℕ) → (among i (present_last l).left ≡ true) ↔ ((i < insertions (edit_list l)) × ((k : ℕ) → k < length (edit_list l) → nth_edit (edit_list l) k ≢ removal i))
    edits-left i = rw (take-length (edit_list l)) at (left_at (edit_list l) (length (edit_list l)) i (omega arith) (λ j n. (ok.each j n).0))

    last : Ruled (points_made l) (extent_last l) (tree_last l) (present_last l).left (slots_of l.work)
    last = ruled_last l ok

    -- The tree that is listed keeps the cell rule (`IsTree`, which sets no greatest level), and it is the only one that does.
    pub edits-ruled : IsTree (points_made l) r.extent (tree_last l) (present_last l).left × ((t : Tree Extent) → IsTree (points_made l) r.extent t (present_last l).left → t ≡ tree_last l)
    edits-ruled = rw edits-extent (last.ruled, last.only)

    -- There is one leaf for each distinct point.
    pub edits-leaves : leaves (tree_last l) ≡ distinct (points_made l) (present_last l).left
    edits-leaves = last.tips

    -- Each leaf's chain is all insertions still there that are numerically equal to any of its own, in order.
    pub edits-chains : EachLeaf (λ c is. (i : ℕ) → 0 < times i is → is ≡ keep (same (points_made l) i) (present_last l).left) (tree_last l)
    edits-chains = last.chains

    -- Each insertion that is still there stands in exactly one chain, once, and nothing else does.
    pub edits-once : (i : ℕ) → times i (chains_of (tree_last l)) ≡ cond (among i (present_last l).left) 1 0
    edits-once = last.once

    -- Each leaf's points lie in its half-open cell.
    pub edits-inside : EachLeaf (λ c is. all (λ i. in_cell c (x_at (points_made l) i) (y_at (points_made l) i)) is ≡ true) (tree_last l)
    edits-inside = last.inside

    -- The answer's node count is how many rows there are, at most 1 + 64 m for m distinct points.
    pub edits-nodes : (r.nodes ≡ length (rows_of (tree_last l))) × (r.nodes ≤ most_nodes (distinct (points_made l) (present_last l).left))
    edits-nodes =
        let n = ap (λ (r : TreeAnswer). r.nodes) (answer_is a ok) in
        (n ∙ sym (rows_count 0 0 (tree_last l)), omega (arith, n, last.few))

  -- ---- the checks of the input: 1, 2, 4 and 5

  -- Where one of them refuses, that is the answer.
  pub edits_input : (q : Refusal) → edit_input_check l ≡ refused q → r.refusal ≡ q
  edits_input q e = refusal_is a ∙ ap refusal_of (input_refused l q e)

  -- Past them:
  module _ (h : EditsFine l) where
    range : (k : ℕ) → InRange (points_made l) (present_at (edit_list l) k).made
    range k i n = let (f, e) = made_more (edit_list l) k k (omega arith) in (input_fine l h).ranged i (omega arith)

    -- Nothing is refused exactly where every edit can be made: what it removes is there, and the tree at it fits.
    pub edits-accepts : (r.refusal ≡ refusal 0 0) ↔ ((k : ℕ) → k < length (edit_list l) → CanBeMade (edit_list l) (slots_of l.work) k)
    edits-accepts = (λ e. (accepts a (ap (λ (q : Refusal). q.number) e)).each, λ m. refusal_is a ∙ ap refusal_of (edits-fine l h m))

    -- Otherwise it is by the earliest edit that can't be made: 15, 6 or 7, as `EarliestEdit` says, and at its number.
    pub edits-earliest : r.refusal.number ≢ 0 → EarliestEdit (edit_list l) (slots_of l.work) r.refusal
    edits-earliest n = earliest_is a h n

    -- That is exact: a refusal of which this holds is the one that is answered.
    pub edits-exactly : (q : Refusal) → EarliestEdit (edit_list l) (slots_of l.work) q → r.refusal ≡ q
    edits-exactly q w = earliest_answer a h q w

    -- So every edit before the one that is refused can be made, and where nothing is refused every edit.
    pub edits-made : (k : ℕ) → k < edits_made l r → CanBeMade (edit_list l) (slots_of l.work) k
    edits-made = made_each a h

    -- What is there after the first k of them is what they inserted and didn't remove.
    pub edits-present : (k i : ℕ) → k ≤ edits_made l r → (among i (present_at (edit_list l) k).left ≡ true) ↔ ((i < insertions (take k (edit_list l))) × ((j : ℕ) → j < k → nth_edit (edit_list l) j ≢ removal i))
    edits-present k i m = left_at (edit_list l) k i (omega (arith, made_few a h)) (λ j n. (edits-made j (omega arith)).0)

    -- After each of them, and before the first, the tree in the extent of the points inserted so far, of what is then there, is as document 01 demands (`Ruled`): the cell rule's and the only one, in the slots lent, no level below 64, and the rest of demand 3.
    pub edits-each : (k : ℕ) → k ≤ edits_made l r → Ruled (points_made l) (extent_at (edit_list l) k) (tree_at (edit_list l) k) (present_at (edit_list l) k).left (slots_of l.work)
    edits-each = ruled_each l h (edits_made l r) edits-made

    -- 15 is given at edit k exactly where every edit before it can be made, and it removes what isn't there: no insertion before it has that number, or an earlier edit removes that one.
    pub edits-absent : (k : ℕ) → (r.refusal ≡ refusal 15 k)
        ↔ ((k < length (edit_list l)) × ((j : ℕ) → j < k → CanBeMade (edit_list l) (slots_of l.work) j)
        × (i : ℕ) × (nth_edit (edit_list l) k ≡ removal i) × ((insertions (take k (edit_list l)) ≤ i) ⊎ ((j : ℕ) × (j < k) × (nth_edit (edit_list l) j ≡ removal i))))
    edits-absent k = (
      λ e. let w = subst (EarliestEdit (edit_list l) (slots_of l.work)) e (edits-earliest (λ z. let n = ap (λ (q : Refusal). q.number) e in omega arith)) in
          let (i, e, gone) = absent_named (edit_list l) (slots_of l.work) k w in (w.among, w.before, i, e, gone),
      λ (m, before, i, e, gone). edits-exactly (refusal 15 k) (record { among = m; before = before; number = inl (refl, (absent-at (edit_list l) k (omega arith) (λ j n. (before j n).0)).1 (i, e, gone)) }),
    )

    -- 6 and 7 are given only at an insertion.
    pub edits-grow : (r.refusal.number ≡ 6) ⊎ (r.refusal.number ≡ 7) → (x y : Float) × (nth_edit (edit_list l) r.refusal.place ≡ insertion x y)
    edits-grow k = grows_at (edit_list l) (slots_of l.work) (input_fine l h).ranged r.refusal (edits-earliest (⊎_elim (λ e. omega arith) (λ e. omega arith) k)) k

    -- Then every tree by the cell rule at that edit is too large: for 6 it goes below level 64, and for 7 it doesn't, but has more nodes than there are slots.
    pub edits-prefix : (r.refusal.number ≡ 6) ⊎ (r.refusal.number ≡ 7) → (t : Tree Extent)
        → IsTree (points_made l) (extent_at (edit_list l) (r.refusal.place + 1)) t (present_at (edit_list l) (r.refusal.place + 1)).left
        → ((r.refusal.number ≡ 6) × (greatest_level + 1 < depth t)) ⊎ ((r.refusal.number ≡ 7) × (depth t ≤ greatest_level + 1) × (slots_of l.work < nodes t))
    edits-prefix k t g = earliest_named (edit_list l) (slots_of l.work) r.refusal (edits-earliest (⊎_elim (λ e. omega arith) (λ e. omega arith) k)) k t g

    -- So nothing is refused where every edit removes only what is there, and at each there is a tree by the cell rule that is not too large.
    pub edits-named : ((k : ℕ) → k < length (edit_list l) → (removable (present_at (edit_list l) k) (nth_edit (edit_list l) k) ≡ true)
        × (t : Tree Extent) × IsTree (points_made l) (extent_at (edit_list l) (k + 1)) t (present_at (edit_list l) (k + 1)).left × (Oversized (slots_of l.work) t → ⊥)) → r.refusal ≡ refusal 0 0
    edits-named m = edits-accepts.1 (λ k i. let (p, t, g, small) = m k i in (p, fits_named (edit_list l) (slots_of l.work) (k + 1) t g small))

    -- From the first insertion on the extent after k edits is a square of whole numbers whose side is at most 2 ^ 43, and which holds the floors of all points inserted so far,
    pub edits-side : (k : ℕ) → let n = (present_at (edit_list l) k).made in 0 < n
        → (s : Square) × (side : ℕ) × (extent_at (edit_list l) k ≡ extent_of (holds s)) × Sided side s × (0 < side) × (side ≤ 2 ^ 43) × (all (λ i. inside s (floor (x_at (points_made l) i)) (floor (y_at (points_made l) i))) (up_to n) ≡ true)
    unfolding extent_now
    edits-side k some = let (s, side, e, sided, wide, most, within) = extent_sided (points_made l) (present_at (edit_list l) k).made (range k) some in (s, side, ap extent_of e, sided, wide, most, within)

    -- and holds every one of them, also those that are gone;
    pub edits-holds : (k : ℕ) → all (λ i. in_cell (extent_at (edit_list l) k) (x_at (points_made l) i) (y_at (points_made l) i)) (up_to (present_at (edit_list l) k).made) ≡ true
    unfolding extent_now
    edits-holds k = extent_holds (points_made l) (present_at (edit_list l) k).made (range k)

    -- before it, it is four zeros.
    pub edits-nowhere : (k : ℕ) → (present_at (edit_list l) k).made ≡ 0 → extent_at (edit_list l) k ≡ nowhere
    unfolding extent_now extent_of cover_all
    edits-nowhere k e = rw e

    -- From the first insertion on each extent contains the one before: both are squares of whole numbers, the later one reaching at least as far on all sides,
    pub edits-extents : (j k : ℕ) → 0 < (present_at (edit_list l) j).made → j ≤ k
        → (s t : Square) × (extent_at (edit_list l) j ≡ extent_of (holds s)) × (extent_at (edit_list l) k ≡ extent_of (holds t)) × Contains t s
    unfolding extent_now
    edits-extents j k some m =
        let (s, t, e, f, wide) = widens (points_made l) (present_at (edit_list l) j).made (present_at (edit_list l) k).made (range k) some (made_more (edit_list l) j k m).0 in
        (s, t, ap extent_of e, ap extent_of f, wide)

    -- so that every point in range that lies in the one lies in the other.
    pub edits-within : (j k : ℕ) → 0 < (present_at (edit_list l) j).made → j ≤ k → (x y : Float) → place_range x y ≡ true → in_cell (extent_at (edit_list l) j) x y ≡ true → in_cell (extent_at (edit_list l) k) x y ≡ true
    unfolding extent_now
    edits-within j k some m = wider (points_made l) (present_at (edit_list l) j).made (present_at (edit_list l) k).made (range k) some (made_more (edit_list l) j k m).0

  -- ---- edits that are all insertions

  -- Words that are whole edits, every one an insertion: the answer, its place, both lists and the work slots are those of the tree call with the same lists lent, on any sheet of their points, at rest and with no flag;
  pub edits-tree : length l.edits ≡ length (edit_list l) * edit_words → insertions (edit_list l) ≡ length (edit_list l) → (sheet : List ℕ) → PointsSheet l sheet → (r' : TreeAnswer) (rows' chains' work' : List ℕ)
      → AfterTree (on_sheet l sheet) (tree_result most_particles (on_sheet l sheet)) r' rows' chains' work' → (r ≡ r') × (rows ≡ rows') × (chains ≡ chains') × (work ≡ work')
  edits-tree whole i sheet p r' rows' chains' work' b = as_tree l sheet p whole i a b

  -- the sheet that is written for them is one.
  pub edits-sheet : PointsSheet l (sheet_of (resting (points_made l)))
  edits-sheet = points-sheet l

-- ---- the first edits alone

-- For words w that are whole edits, and any words v after them, lent with w one chain place for each insertion of w:
module _ (w v : List ℕ) (whole : length w ≡ length (edits_of w) * edit_words) (rows chains chains' work : List ℕ) (c : length chains ≡ insertions (edits_of w)) where
  abbrev first : EditsInput
  first = lent w rows chains work

  abbrev both : EditsInput
  both = lent (w ++ v) rows chains' work

  -- Where the call on both makes every edit of w, the call on w alone is accepted, and its answer and lists are those of the extent and the tree at that edit. So each tree at an edit is one that a call lists.
  pub edits-first : EditsFine both → (r r' : TreeAnswer) (rows₁ chains₁ work₁ rows₂ chains₂ work₂ : List ℕ) → AfterEdits first r rows₁ chains₁ work₁ → AfterEdits both r' rows₂ chains₂ work₂ → length (edits_of w) ≤ edits_made both r'
      → let t = tree_at (edit_list both) (length (edits_of w)) in
      (r ≡ record { refusal = refusal 0 0; nodes = nodes t; extent = extent_at (edit_list both) (length (edits_of w)) }) × (rows₁ ≡ padded (length rows) 0 (flat (rows_of t))) × (chains₁ ≡ padded (length chains) 0 (chains_of t))
  edits-first h r r' rows₁ chains₁ work₁ rows₂ chains₂ work₂ a b m =
      let more = edits-append (length (edits_of w)) w v whole in
      let ok = first-accepted first both (edits_of v) more whole refl c refl h (λ k n. made_each b h k (omega arith)) in
      let t = first-tree first both (edits_of v) more in
      (answer_is a ok ∙ rw (t, first_extent first both (edits_of v) more), rows_are a ok ∙ rw t, chains_are a ok ∙ rw t)

-- ---- an insertion and its removal at once

-- For words w that are whole edits, and the same with an insertion and its removal after them:
module _ (w : List ℕ) (whole : length w ≡ length (edits_of w) * edit_words) (x y v : ℕ) (rows chains chains' work : List ℕ) where
  abbrev shorter : EditsInput
  shorter = lent w rows chains work

  abbrev longer : EditsInput
  longer = lent (undone w x y v) rows chains' work

  more : edit_list longer ≡ Undone.both (edits_of w) (float_of x) (float_of y)
  more = edits-append (length (edits_of w)) w (0 ∷ x ∷ y ∷ 1 ∷ insertions (edits_of w) ∷ v ∷ []) whole

  -- Where the longer list is accepted, its extent is that after the insertion, and its rows and chains are those of the tree, in that extent, of what was there before.
  pub edits-undone : (r : TreeAnswer) (rows₁ chains₁ work₁ : List ℕ) → AfterEdits longer r rows₁ chains₁ work₁ → r.refusal.number ≡ 0
      → let c = extent_at (edit_list longer) (length (edits_of w) + 1) in
      let t = tree_in (points_made shorter) c (present_last shorter).left in
      (r ≡ record { refusal = refusal 0 0; nodes = nodes t; extent = c }) × (rows₁ ≡ padded (length rows) 0 (flat (rows_of t))) × (chains₁ ≡ padded (length chains') 0 (chains_of t))
  edits-undone r rows₁ chains₁ work₁ a z = undone-is shorter longer (float_of x) (float_of y) more (accepts a z) a

  -- If that extent is the one of w, w is accepted too, with one chain place less, and has the same answer, the same rows, and the same chains but for the last zero.
  pub edits_returned : length chains' ≡ length chains + 1 → extent_last longer ≡ extent_last shorter → (r r' : TreeAnswer) (rows₁ chains₁ work₁ rows₂ chains₂ work₂ : List ℕ)
      → AfterEdits shorter r rows₁ chains₁ work₁ → AfterEdits longer r' rows₂ chains₂ work₂ → r'.refusal.number ≡ 0 → (r' ≡ r) × (rows₂ ≡ rows₁) × (chains₂ ≡ chains₁ ++ (0 ∷ [])) × (work₂ ≡ work₁)
  edits_returned c same r r' rows₁ chains₁ work₁ rows₂ chains₂ work₂ a b z =
      undone-same shorter longer (float_of x) (float_of y) more (accepts b z) whole refl c refl same a b
