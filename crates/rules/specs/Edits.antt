-- Document 02, R-9: a list of edits, each an insertion of a point or a removal of an earlier insertion, and the tree that results. Definitions only.
use Rattle.std.specs.Prelude.{Bool, true, false, ◌&&◌, ◌||◌, List, [], ◌∷◌, ◌++◌, ℕ, zero, suc, ◌+◌, ◌*◌, eqb, length, Float}
use Rattle.rules.specs.declared.Extent.{Extent}
use Rattle.rules.specs.declared.TreeAnswer.{TreeAnswer}
use Rattle.rules.specs.Plain.{others, foldl}
use Rattle.rules.specs.Number.{float_of}
use Rattle.rules.specs.Outcome.{Outcome, done, Check, fine, require, ◌then◌, ◌>>=◌, check_each, refusal_of, if_done, work_after}
use Rattle.rules.specs.Refusal.{most_edits, count_check, lengths_check, place_check}
use Rattle.rules.specs.Cell.{nowhere}
use Rattle.rules.specs.Cover.{cover_first, extent_of}
use Rattle.rules.specs.Tree.{Tree, nodes, tree_in, fits_check, row_numbers}
use Rattle.rules.specs.Calls.{slots_of, rows_in, chains_in}

-- ---- edits, three words each

-- an insertion of a point, or a removal of an earlier insertion by its number, 0 for the first; any other kind is unknown
pub data Edit : Type 0 where
  insertion : Float → Float → Edit
  removal : ℕ → Edit
  unknown : Edit

-- by its kind: the bits of x and y, or the number and a word that isn't looked at
abbrev pub edit_of : ℕ → ℕ → ℕ → Edit
edit_of zero x y = insertion (float_of x) (float_of y)
edit_of (suc zero) i w = removal i
edit_of (suc (suc k)) v w = unknown

abbrev pub edit_words : ℕ
edit_words = 3

-- words left over make no edit
abbrev pub edits_of : List ℕ → List Edit
edits_of [] = []
edits_of (k ∷ []) = []
edits_of (k ∷ v ∷ []) = []
edits_of (k ∷ v ∷ w ∷ words) = edit_of k v w ∷ edits_of words

-- all points inserted, x and y each, in order
abbrev pub points_of : List Edit → List Float
points_of [] = []
points_of (insertion x y ∷ es) = x ∷ y ∷ points_of es
points_of (removal i ∷ es) = points_of es
points_of (unknown ∷ es) = points_of es

abbrev pub insertions : List Edit → ℕ
insertions [] = 0
insertions (insertion x y ∷ es) = suc (insertions es)
insertions (removal i ∷ es) = insertions es
insertions (unknown ∷ es) = insertions es

-- ---- what is there

-- how many insertions were made, and the numbers of those still there, in order
pub record Present : Type 0 where
  pub made : ℕ
  pub left : List ℕ

abbrev pub present : ℕ → List ℕ → Present
present n is = record { made = n; left = is }

-- an insertion has the next number; a removal takes its number away
abbrev pub edited : Present → Edit → Present
edited s (insertion x y) = present (s.made + 1) (s.left ++ (s.made ∷ []))
edited s (removal i) = present s.made (others i s.left)
edited s unknown = s

-- after all these edits
abbrev pub present_after : List Edit → Present
present_after es = foldl edited (present 0 []) es

-- whether i is one of them
abbrev pub among : ℕ → List ℕ → Bool
among i [] = false
among i (j ∷ is) = let rest = among i is in eqb j i || rest

-- ---- the tree at an edit

module _ (at : List Float) (s : Present) where
  -- the extent of all points inserted so far, also when none of them remains: it never shrinks; four zeros before the first
  unfoldable pub extent_now : Extent
  extent_now = extent_of (cover_first at s.made)

  -- By the cell rule, of the points still there. A leaf's bits are those of its chain's first, so they become those of the first that remains.
  unfoldable pub tree_now : Tree Extent
  tree_now = tree_in at extent_now s.left

-- whether what it removes is there: that insertion was made, and isn't removed yet; an insertion removes nothing
abbrev pub removable : Present → Edit → Bool
removable s (insertion x y) = true
removable s (removal i) = among i s.left
removable s unknown = true

module _ (at : List Float) (slots : ℕ) where
  -- edit k, with s there before it: 15, then 6 and 7 of the tree at that edit
  unfoldable pub edit_check : ℕ → Present → Edit → Check
  edit_check k s e = require (removable s e) 15 k then fits_check slots k (tree_now at (edited s e))

  -- one after the other, from edit k on: the first that refuses
  unfoldable pub edits_from : ℕ → Present → List Edit → Check
  edits_from k s [] = fine
  edits_from k s (e ∷ es) = edit_check k s e >>= λ _. edits_from (k + 1) (edited s e) es

-- ---- the call

-- 4, of edit k
abbrev pub point_check : ℕ → Edit → Check
point_check k (insertion x y) = place_check k x y
point_check k (removal i) = fine
point_check k unknown = fine

abbrev pub known : Edit → Bool
known (insertion x y) = true
known (removal i) = true
known unknown = false

-- Lent: the edits' words, the list for the nodes' rows, the list for the chains, and work slots.
pub record EditsInput : Type 0 where
  pub edits : List ℕ
  pub rows : List ℕ
  pub chains : List ℕ
  pub work : List ℕ

module _ (l : EditsInput) where
  abbrev pub edit_list : List Edit
  edit_list = edits_of l.edits

  -- the words are whole edits, the first list has a row for each slot, the second a number for each insertion
  abbrev pub edit_lengths : Bool
  edit_lengths = eqb (length l.edits) (length edit_list * edit_words) && eqb (length l.rows) (slots_of l.work * row_numbers) && eqb (length l.chains) (insertions edit_list)

  -- 1, then 2, then 4 at the first insertion with a bad coordinate, then 5 at the first unknown kind
  unfoldable pub edit_input_check : Check
  edit_input_check =
      count_check most_edits (length edit_list)
      then lengths_check edit_lengths
      then check_each point_check edit_list
      then check_each (λ k e. require (known e) 5 k) edit_list

  -- these checks, then edit by edit
  unfoldable pub edits_result : Outcome (Tree Extent)
  edits_result =
      let at = points_of edit_list in
      edit_input_check >>= λ _.
      edits_from at (slots_of l.work) 0 (present 0 []) edit_list >>= λ _.
      done (tree_now at (present_after edit_list))

  unfoldable pub edits_answer : TreeAnswer
  edits_answer = record { refusal = refusal_of edits_result; nodes = if_done edits_result nodes 0; extent = if_done edits_result (λ _. extent_now (points_of edit_list) (present_after edit_list)) nowhere }

  -- unused places become zero; a refusal leaves both lists unchanged
  unfoldable pub edit_rows_after : List ℕ
  edit_rows_after = rows_in l.rows edits_result

  unfoldable pub edit_chains_after : List ℕ
  edit_chains_after = chains_in l.chains edits_result

  unfoldable pub edit_work_after : List ℕ
  edit_work_after = work_after edits_result l.work
