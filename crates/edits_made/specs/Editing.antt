-- What stands in the slots and lists between two edits, and what an edit asks and leaves. Definitions only.
use Rattle.std.specs.Prelude.{◌≡◌, cond, List, [], ℕ, ◌+◌, ◌*◌, ◌/◌, ◌≤◌, ◌<◌, length, get_or, Float, Result}
use Rattle.rules.specs.Outcome.{outcome_of, DoneUnless}
use Rattle.rules.specs.declared.Extent.{Extent}
use Rattle.rules.specs.declared.Refusal.{Refusal}
use Rattle.rules.specs.Refusal.{most_edits}
use Rattle.rules.specs.Tree.{Tree, chains_of}
use Rattle.rules.specs.Edits.{Edit, edit_words, Present, present, edited, present_after, among, extent_now, tree_now, edit_check, edits_from, edits_of, insertions}
use Rattle.rules.proofs.CellList.{In}
use Rattle.rules.specs.Calls.{slots_of}
use Rattle.tree_slots.specs.declared.Quadtree.{Quadtree}
use Rattle.tree_slots.specs.Trees.{Rises, Below, Lays}
use Rattle.tree_leaves.specs.Chain.{Linked}
use Rattle.tree_placing.specs.Add.{Holds}
use Rattle.tree_build.specs.Build.{particles, Lent}

-- Where s is what is there: its tree in the slots, in the extent of all points inserted so far, its chains, and 1 for each insertion that is there, 0 for one that isn't.
pub record Now (at : List Float) (s : Present) (there m next tail : List ℕ) (q : Quadtree) : Type 0 where
  pub holds : Holds at s.left m q
  pub linked : Linked at s.left next tail
  pub rises : Rises 0 s.left
  pub earlier : (i : ℕ) → In i s.left → i < s.made
  pub extent : q.extent ≡ extent_now at s
  pub flags : (i : ℕ) → i < s.made → get_or there i 0 ≡ cond (among i s.left) 1 0

-- points in range, and a flag, a link and a tail for each
pub record FlagsLent (at : List Float) (there next tail : List ℕ) : Type 0 where
  pub lent : Lent at next tail
  pub flags : length there ≡ particles at

-- edit k is refused as the rules refuse it, and otherwise done
abbrev pub Changed : List Float → ℕ → ℕ → Present → Edit → List ℕ → List ℕ → List ℕ → List ℕ → Result Quadtree Refusal → Type 0
Changed at slots k s e there m next tail b = DoneUnless (edit_check at slots k s e) (λ q. Now at (edited s e) there m next tail q) (outcome_of b)

-- the words are edits of known kinds, not too many, and the points those of their insertions
pub record Edits (words : List ℕ) (at : List Float) : Type 0 where
  pub few : length words / edit_words ≤ most_edits
  pub whole : length words ≡ length words / edit_words * edit_words
  pub known : (k : ℕ) → k * edit_words + edit_words ≤ length words → get_or words (k * edit_words) 0 < 2
  pub points : insertions (edits_of words) ≡ particles at

-- t stands in the slots, in this extent, of no more particles than there are points
pub record Stood (at : List Float) (t : Tree Extent) (c : Extent) (m next : List ℕ) (q : Quadtree) : Type 0 where
  pub lays : Lays t m next q
  pub extent : q.extent ≡ c
  pub below : Below (particles at) (chains_of t)
  pub few : length (chains_of t) ≤ particles at

-- All edits: the first that is refused, as the rules refuse it; otherwise the slots hold the tree of what is then there, in the extent of all points inserted.
abbrev pub AllDone : List ℕ → List Float → List ℕ → List ℕ → Result Quadtree Refusal → Type 0
AllDone words at m next b =
    let s = present_after (edits_of words) in
    DoneUnless (edits_from at (slots_of m) 0 (present 0 []) (edits_of words)) (Stood at (tree_now at s) (extent_now at s) m next) (outcome_of b)
