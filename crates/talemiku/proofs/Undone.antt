-- The call on the first edits alone, beside the call on all: what can be made of all can be of the first, and an insertion and its removal at once. Assumes nothing.
use mathlib.Core.Path.{◌≡◌, refl, sym, ap, ◌∙◌, subst}
use mathlib.Core.Bool.{true}
use mathlib.Core.List.{List, [], ◌∷◌, ◌++◌, append_assoc}
use Prim.Native.Nat.{ℕ, ◌+◌, ◌-◌, ◌*◌, ◌≤◌, ◌<◌}
use native.Mathlib.Omega.{arith}
use borrow.Author.Tests.{eq-eqb, le-leb}
use lib.ListN.{length, take, replicate, length-append, get_or-append, replicate-append-replicate}
use lib.Seq.{take-append-le, take-append-add, take-length}
use lib.Ieee.{Float}
use Rattle.rules.specs.declared.Extent.{Extent}
use Rattle.rules.specs.declared.TreeAnswer.{TreeAnswer}
use Rattle.rules.specs.Plain.{padded, up_to}
use Rattle.rules.specs.Outcome.{refusal, Check, fine, require, check_from}
use Rattle.rules.specs.Number.{x_at, y_at}
use Rattle.rules.specs.Refusal.{most_edits}
use Rattle.rules.specs.Cover.{cover_first, extent_of}
use Rattle.rules.specs.Tree.{Tree, nodes, tree_in, rows_of, flat, chains_of}
use Rattle.rules.specs.Calls.{slots_of}
use Rattle.rules.specs.Edits.{Edit, insertion, removal, unknown, points_of, insertions, Present, present, edited, present_after, extent_now, tree_now, removable, point_check, known, EditsInput, edit_list, edit_input_check, edit_work_after}
use Rattle.rules.specs.Terms.{Fits, nth_edit, present_at, extent_at, tree_at, CanBeMade}
use Rattle.rules.proofs.CellList.{foldl-append}
use Rattle.rules.proofs.CellCount.{in_count}
use Rattle.rules.proofs.CellRule.{chains-length}
use Rattle.rules.proofs.EditLaws.{Kept, kept-after, made_after, others-last, points-append, insertions-append, tree_agree, cover_agree}
use Rattle.list_checks.proofs.Checks.{bind_both}
use Rattle.edits_words.proofs.Words.{points-length}
use Rattle.edits_call.specs.Call.{AfterEdits}
use Rattle.talemiku.specs.Told.{points_made, present_last, extent_last, tree_last, EditsFine}
use Rattle.talemiku.proofs.EditSteps.{insertions-take}
use Rattle.talemiku.proofs.Lapses.{Accepted, input_fine, edits-fine, ruled_last, answer_is, rows_are, chains_are}

-- ---- more edits after them

module _ (es fs : List Edit) where
  abbrev more : List Float
  more = points_of (es ++ fs)

  agree_at : (i : ℕ) → i < insertions es → (x_at more i ≡ x_at (points_of es) i) × (y_at more i ≡ y_at (points_of es) i)
  agree_at i l =
      let n = points-length es in
      rw (points-append es fs) (get_or-append (points_of es) (points_of fs) _ (i * 2) (omega arith), get_or-append (points_of es) (points_of fs) _ (i * 2 + 1) (omega arith))

  -- trees and extents of the insertions before
  module _ (s : Present) (k : Kept s) (few : s.made ≤ insertions es) where
    extent-same : extent_now more s ≡ extent_now (points_of es) s
    unfolding extent_now
    extent-same = ap extent_of (cover_agree more (points_of es) (up_to s.made) (λ i m. agree_at i (omega (arith, in_count 0 s.made i m))))

    left-same : (c : Extent) → tree_in more c s.left ≡ tree_in (points_of es) c s.left
    left-same c = tree_agree more (points_of es) c s.left (λ i m. agree_at i (omega (arith, k.earlier i m)))

    tree-same : tree_now more s ≡ tree_now (points_of es) s
    unfolding tree_now
    tree-same = left-same (extent_now more s) ∙ ap (λ (c : Extent). tree_in (points_of es) c s.left) extent-same

  -- what can be made of the longer list can be of the shorter
  makes_before : (slots k : ℕ) → k < length es → CanBeMade (es ++ fs) slots k → CanBeMade es slots k
  makes_before slots k l m =
      let t = tree-same (present_at es (k + 1)) (kept-after (take (k + 1) es)) (omega (arith, made_after (take (k + 1) es), insertions-take es (k + 1))) in
      subst (λ (u : Tree Extent). (removable (present_at es k) (nth_edit es k) ≡ true) × Fits slots u) t
      (rw (take-append-le k es fs (omega arith), take-append-le (k + 1) es fs (omega arith), get_or-append es fs unknown k l) at m)

check-before : (f : ℕ → Edit → Check) (k : ℕ) (es fs : List Edit) → check_from f k (es ++ fs) ≡ fine → check_from f k es ≡ fine
check-before f k [] fs h = refl
check-before f k (e ∷ es) fs h = let b = bind_both (f k e) (check_from f (k + 1) (es ++ fs)) h in rw b.0 (check-before f (k + 1) es fs b.1)

padded-more : (n : ℕ) (l : List ℕ) → length l ≤ n → padded (n + 1) 0 l ≡ padded n 0 l ++ (0 ∷ [])
padded-more n l h =
    let e : n + 1 - length l ≡ n - length l + 1 = omega arith in
    rw (e, ← replicate-append-replicate {A = ℕ} (n - length l) 1 0) (sym (append_assoc l (replicate (n - length l) 0) (0 ∷ [])))

-- ---- the call on the first edits, and on all of them

module _ (l l' : EditsInput) (fs : List Edit) (more : edit_list l' ≡ edit_list l ++ fs) where
  abbrev es : List Edit
  es = edit_list l

  length_more : length (edit_list l') ≡ length es + length fs
  length_more = ap length more ∙ length-append es fs

  -- the longer list is past its checks, and every edit of the shorter one can be made of it; both are lent the same rows and work slots, and the shorter one a chain place for each insertion
  module _ (whole : length l.edits ≡ length (edit_list l) * 3) (rows : l'.rows ≡ l.rows) (chains : length l.chains ≡ insertions (edit_list l)) (work : l'.work ≡ l.work) (h' : EditsFine l')
      (made : (k : ℕ) → k < length (edit_list l) → CanBeMade (edit_list l') (slots_of l'.work) k) where
    first_fine : EditsFine l
    unfolding edit_input_check
    first_fine =
        let f = input_fine l' h' in
        rw (
          le-leb (length es) most_edits (omega (arith, f.few, length_more)),
          eq-eqb (length l.edits) (length es * 3) whole,
          eq-eqb (length l.rows) (slots_of l.work * 4) (rw (← rows, ← work) f.rows),
          eq-eqb (length l.chains) (insertions es) chains,
          check-before point_check 0 es fs (rw more at f.points),
          check-before (λ k e. require (known e) 5 k) 0 es fs (rw more at f.kinds),
        )

    first-each : (k : ℕ) → k < length es → CanBeMade es (slots_of l.work) k
    first-each k m = makes_before es fs (slots_of l.work) k m (rw (more, work) at (made k m))

    pub first-accepted : Accepted l
    first-accepted = record { result = edits-fine l first_fine first-each; input = first_fine; each = first-each }

  few_made : (present_last l).made ≤ insertions es
  few_made = omega (arith, made_after es)

  first_taken : take (length es) (es ++ fs) ≡ es
  first_taken = take-append-le (length es) es fs (omega arith) ∙ take-length es

  -- the extent and the tree of the shorter list are those of the longer one at that edit
  pub first_extent : extent_last l ≡ extent_at (edit_list l') (length (edit_list l))
  first_extent = rw (more, first_taken) (sym (extent-same es fs (present_last l) (kept-after es) few_made))

  pub first-tree : tree_last l ≡ tree_at (edit_list l') (length (edit_list l))
  first-tree = rw (more, first_taken) (sym (tree-same es fs (present_last l) (kept-after es) few_made))

-- ---- an insertion and its removal

abbrev pair : List Edit → Float → Float → List Edit
pair es x y = insertion x y ∷ removal (insertions es) ∷ []

-- these edits, then both
abbrev pub both : List Edit → Float → Float → List Edit
both es x y = es ++ pair es x y

module _ (es : List Edit) (x y : Float) where
  abbrev at : List Float
  at = points_of (both es x y)

  -- what is there after both
  present-both : present_after (both es x y) ≡ present ((present_after es).made + 1) (present_after es).left
  present-both =
      foldl-append edited (present 0 []) es (pair es x y) ∙ rw (← made_after es) (ap (present ((present_after es).made + 1)) (others-last (present_after es) (kept-after es)))

  made_both : insertions (both es x y) ≡ insertions (take (length es + 1) (both es x y))
  made_both = rw (take-append-add es (pair es x y) 1) (insertions-append es (pair es x y) ∙ sym (insertions-append es (insertion x y ∷ [])))

  -- the extent is that after the insertion
  extent_both : extent_now at (present_after (both es x y)) ≡ extent_at (both es x y) (length es + 1)
  unfolding extent_now
  extent_both = ap (λ (m : ℕ). extent_of (cover_first at m)) (made_after (both es x y) ∙ made_both ∙ sym (made_after (take (length es + 1) (both es x y))))

  -- and the tree there is that of what was there before
  tree-both : tree_now at (present_after (both es x y)) ≡ tree_in (points_of es) (extent_now at (present_after (both es x y))) (present_after es).left
  unfolding tree_now
  tree-both =
      let c = extent_now at (present_after (both es x y)) in
      ap (λ (s : Present). tree_in at c s.left) present-both ∙ left-same es (pair es x y) (present_after es) (kept-after es) (omega (arith, made_after es)) c

-- ---- the call on the edits before, and on those with both

module _ (l l' : EditsInput) (x y : Float) (more : edit_list l' ≡ both (edit_list l) x y) where
  extent_after : extent_last l' ≡ extent_at (edit_list l') (length (edit_list l) + 1)
  extent_after = rw more (extent_both (edit_list l) x y)

  tree-before : tree_last l' ≡ tree_in (points_made l) (extent_last l') (present_last l).left
  tree-before = rw more (tree-both (edit_list l) x y)

  -- the tree of what was there before, in the extent after the insertion
  abbrev pub tree_undone : Tree Extent
  tree_undone = tree_in (points_made l) (extent_at (edit_list l') (length (edit_list l) + 1)) (present_last l).left

  tree-undone : tree_last l' ≡ tree_undone
  tree-undone = tree-before ∙ ap (λ (c : Extent). tree_in (points_made l) c (present_last l).left) extent_after

  -- the longer list is accepted
  module _ (ok' : Accepted l') where
    pub undone-is : {r' : TreeAnswer} {rows₂ chains₂ work₂ : List ℕ} → AfterEdits l' r' rows₂ chains₂ work₂
        → (r' ≡ record { refusal = refusal 0 0; nodes = nodes tree_undone; extent = extent_at (edit_list l') (length (edit_list l) + 1) })
        × (rows₂ ≡ padded (length l'.rows) 0 (flat (rows_of tree_undone))) × (chains₂ ≡ padded (length l'.chains) 0 (chains_of tree_undone))
    undone-is b = (answer_is b ok' ∙ rw (tree-undone, extent_after), rows_are b ok' ∙ rw tree-undone, chains_are b ok' ∙ rw tree-undone)

    -- lent the same rows and work slots and one chain place more
    module _ (whole : length l.edits ≡ length (edit_list l) * 3) (rows : l'.rows ≡ l.rows) (chains : length l'.chains ≡ length l.chains + 1) (work : l'.work ≡ l.work) where
      chains-before : length l.chains ≡ insertions (edit_list l)
      chains-before = omega (arith, (input_fine l' ok'.input).chains, ap insertions more, insertions-append (edit_list l) (pair (edit_list l) x y))

      ok : Accepted l
      ok =
          first-accepted l l' (pair (edit_list l) x y) more whole rows chains-before work ok'.input
          (λ k m. ok'.each k (omega (arith, ap length more, length-append (edit_list l) (pair (edit_list l) x y))))

      chains-few : length (chains_of (tree_last l)) ≤ length l.chains
      chains-few =
          omega (
            arith,
            chains-length (points_made l) (tree_last l) (extent_last l) (present_last l).left (ruled_last l ok).ruled,
            (kept-after (edit_list l)).few,
            made_after (edit_list l),
            chains-before,
          )

      module _ (same : extent_last l' ≡ extent_last l) where
        tree-kept : tree_last l' ≡ tree_last l
        unfolding tree_now
        tree-kept = tree-before ∙ ap (λ (c : Extent). tree_in (points_made l) c (present_last l).left) same

        pub undone-same : {r r' : TreeAnswer} {rows₁ chains₁ work₁ rows₂ chains₂ work₂ : List ℕ} → AfterEdits l r rows₁ chains₁ work₁ → AfterEdits l' r' rows₂ chains₂ work₂
            → (r' ≡ r) × (rows₂ ≡ rows₁) × (chains₂ ≡ chains₁ ++ (0 ∷ [])) × (work₂ ≡ work₁)
        unfolding edit_work_after
        undone-same a b = (
          answer_is b ok' ∙ rw (tree-kept, same) (sym (answer_is a ok)),
          rows_are b ok' ∙ rw (tree-kept, rows) (sym (rows_are a ok)),
          chains_are b ok' ∙ rw (tree-kept, chains) (padded-more (length l.chains) (chains_of (tree_last l)) chains-few ∙ ap (λ (c : List ℕ). c ++ (0 ∷ [])) (sym (chains_are a ok))),
          b.worked ∙ rw (ok'.result, work) (sym (a.worked ∙ rw ok.result)),
        )
