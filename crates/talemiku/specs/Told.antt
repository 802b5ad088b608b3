-- Names for what is lent to the tree call, bounds for a force and a tick, how a force refuses a tree, an outline that is checked, and what a list of edits comes to, in the theorems about the entries. Definitions only.
use Rattle.std.specs.Prelude.{◌≡◌, ◌⊎◌, ◌↔◌, cond, List, [], ◌∷◌, ◌++◌, ℕ, ◌*◌, eqb, length, Float}
use Rattle.rules.specs.declared.Extent.{Extent}
use Rattle.rules.specs.declared.Refusal.{Refusal}
use Rattle.rules.specs.declared.TreeAnswer.{TreeAnswer}
use Rattle.rules.specs.Plain.{up_to}
use Rattle.rules.specs.Outcome.{fine}
use Rattle.rules.specs.Refusal.{most_particles, most_iterations}
use Rattle.rules.specs.Sheet.{record_size, count_of, particles_of, places_of}
use Rattle.rules.specs.Cover.{cover_first, extent_of}
use Rattle.rules.specs.Tree.{Tree, tree_of}
use Rattle.rules.specs.Calls.{TreeInput, tree_lengths, input_check}
use Rattle.rules.specs.Tick.{force_slots}
use Rattle.rules.specs.Outline.{outline_check, OutlineInput}
use Rattle.rules.specs.Edits.{edits_of, points_of, insertions, Present, present_after, extent_now, tree_now, EditsInput, edit_list, edit_input_check}
use Rattle.rules.specs.Terms.{Oversized, Earliest, IsTree, distinct, most_nodes, resting}
use Rattle.tree_call.specs.Tree.{lent}

-- ---- the tree call

module _ (l : TreeInput) where
  -- the places of the sheet's particles, in pairs
  abbrev pub places_lent : List Float
  places_lent = places_of (particles_of l.sheet)

  -- how many particles
  abbrev pub particles_lent : ℕ
  particles_lent = count_of l.sheet

  -- how many distinct points
  abbrev pub points_lent : ℕ
  points_lent = distinct places_lent (up_to particles_lent)

  -- the extent reached by covering them in order
  abbrev pub extent_lent : Extent
  extent_lent = extent_of (cover_first places_lent particles_lent)

  -- the cell rule's tree of all of them there, cut off below level 65: one level more than is allowed, so that it shows where it goes on
  abbrev pub rule_tree : Tree Extent
  rule_tree = tree_of places_lent particles_lent

  -- none of 10, 1, 2, 4 and 5
  abbrev pub InputFine : Type 0
  InputFine = input_check most_particles (tree_lengths l) l.sheet ≡ fine

-- ---- a force, a tick, a step

-- 64 times n walks of at most 1 + 64 n nodes: Collide with the most iterations; ManyBody's are fewer
abbrev pub most_of_force : ℕ → ℕ
most_of_force n = most_iterations * (n * most_nodes n)

-- the most that a tick of n particles hands out, as if that stood in each slot
abbrev pub most_of_tick : ℕ → ℕ
most_of_tick n = force_slots * most_of_force n

-- A force that builds the tree of n particles, in this many slots, gives 6 or 7 exactly where the cell rule's tree of all of them goes below level 64 or needs more slots, and then for the earliest prefix of which that is so.
pub record TreeRefused (at : List Float) (n slots : ℕ) (r : Refusal) : Type 0 where
  pub exactly : ((r.number ≡ 6) ⊎ (r.number ≡ 7)) ↔ ((t : Tree Extent) → IsTree at (extent_of (cover_first at n)) t (up_to n) → Oversized slots t)
  pub earliest : (r.number ≡ 6) ⊎ (r.number ≡ 7) → Earliest at n slots r

-- ---- an outline

-- none of 1, 2 and 5
abbrev pub OutlineFine : OutlineInput → Type 0
OutlineFine l = outline_check l.corners l.centre (length l.unwrapped) ≡ fine

-- ---- the call on edits

-- these words, then an insertion and its removal: its number is how many insertions there are before it, and v isn't looked at
abbrev pub undone : List ℕ → ℕ → ℕ → ℕ → List ℕ
undone w x y v = w ++ (0 ∷ x ∷ y ∷ 1 ∷ insertions (edits_of w) ∷ v ∷ [])

module _ (l : EditsInput) where
  -- all points inserted, in pairs
  abbrev pub points_made : List Float
  points_made = points_of (edit_list l)

  -- what is there after the last edit
  abbrev pub present_last : Present
  present_last = present_after (edit_list l)

  -- the extent of all points inserted, reached by covering them in order
  abbrev pub extent_last : Extent
  extent_last = extent_now points_made present_last

  -- the cell rule's tree of what is there in that extent, cut off below level 65
  abbrev pub tree_last : Tree Extent
  tree_last = tree_now points_made present_last

  -- none of 1, 2, 4 and 5
  abbrev pub EditsFine : Type 0
  EditsFine = edit_input_check l ≡ fine

  -- a sheet of all points inserted: whole records, at rest and with no flag
  pub record PointsSheet (sheet : List ℕ) : Type 0 where
    pub records : length sheet ≡ insertions (edit_list l) * record_size
    pub particles : particles_of sheet ≡ resting points_made

  -- what the tree call is lent instead: a sheet, and the same lists
  abbrev pub on_sheet : List ℕ → TreeInput
  on_sheet sheet = lent sheet l.rows l.chains l.work

  -- how many edits were made: all, or those before the one that is refused
  abbrev pub edits_made : TreeAnswer → ℕ
  edits_made r = cond (eqb r.refusal.number 0) (length (edit_list l)) r.refusal.place
