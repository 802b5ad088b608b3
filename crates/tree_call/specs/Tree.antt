-- The tree call: what it is lent, and what its parts ask and leave. Definitions only.
use Rattle.std.specs.Prelude.{◌≡◌, List, ℕ, ◌*◌, ◌≤◌, length, Result, Ok, Err}
use Rattle.rules.specs.declared.Extent.{Extent}
use Rattle.rules.specs.declared.Refusal.{Refusal}
use Rattle.rules.specs.declared.TreeAnswer.{TreeAnswer}
use Rattle.rules.specs.Outcome.{Outcome, done, refused, fine, ◌>>=◌, refusal_of, if_done, work_after}
use Rattle.rules.specs.Refusal.{most_particles}
use Rattle.rules.specs.Sheet.{count_of, particles_of, records_check, places_of}
use Rattle.rules.specs.Cell.{nowhere}
use Rattle.rules.specs.Tree.{Tree, nodes, row_numbers, tree_of, tree_check}
use Rattle.rules.specs.Calls.{slots_of, rows_in, chains_in, TreeInput, tree_answer, rows_after, chains_after, tree_work_after}
use Rattle.tree_rows.specs.List.{Whole}
use Rattle.tree_slots.specs.declared.Quadtree.{Quadtree}

-- what is lent to the call
abbrev pub lent : List ℕ → List ℕ → List ℕ → List ℕ → TreeInput
lent sheet rows chains work = record { sheet = sheet; rows = rows; chains = chains; work = work }

-- the answer and every lent list after the call, if it comes to this
pub record AfterTree (l : TreeInput) (o : Outcome (Tree Extent)) (r : TreeAnswer) (rows chains work : List ℕ) : Type 0 where
  pub answer : r ≡ tree_answer l o
  pub listed : rows ≡ rows_after l o
  pub chained : chains ≡ chains_after l o
  pub worked : work ≡ tree_work_after l o

-- the answer to a refusal: counts zero, no extent
abbrev pub refused_tree : Refusal → TreeAnswer
refused_tree r = record { refusal = r; nodes = 0; extent = nowhere }

-- the work slots after a refusal
abbrev pub refused_work : Refusal → List ℕ → List ℕ
refused_work r work = work_after {A = Tree Extent} (refused r) work

-- ---- what building came to, of a sheet or of edits

-- a tree, which stands in the slots and can be listed, or a refusal
abbrev pub Comes : Outcome (Tree Extent) → Result Quadtree Refusal → List ℕ → List ℕ → ℕ → ℕ → Type 0
Comes o (Ok q) m next rows chains = (t : Tree Extent) × (o ≡ done t) × Whole t m next q rows chains
Comes o (Err r) m next rows chains = o ≡ refused r

-- the extent of what was built
abbrev pub extent_built : Result Quadtree Refusal → Extent
extent_built (Ok q) = q.extent
extent_built (Err r) = nowhere

-- the answer and every lent list then
pub record Answers (o : Outcome (Tree Extent)) (b : Result Quadtree Refusal) (r : TreeAnswer) (rows chains work rows' chains' work' : List ℕ) : Type 0 where
  pub answer : r ≡ record { refusal = refusal_of o; nodes = if_done o nodes 0; extent = extent_built b }
  pub listed : rows' ≡ rows_in rows o
  pub chained : chains' ≡ chains_in chains o
  pub worked : work' ≡ work_after o work

-- ---- the call on a sheet

-- past its checks of the count, of the lengths and of the records
pub record Passed (l : TreeInput) : Type 0 where
  pub few : count_of l.sheet ≤ most_particles
  pub rows : length l.rows ≡ slots_of l.work * row_numbers
  pub chains : length l.chains ≡ count_of l.sheet
  pub sound : records_check (particles_of l.sheet) ≡ fine

-- what is left of the call then
abbrev pub built : TreeInput → Outcome (Tree Extent)
built l =
    let at = places_of (particles_of l.sheet) in
    let n = count_of l.sheet in
    tree_check at n (slots_of l.work) >>= λ _. done (tree_of at n)

-- lists of the sheet's length to build with: two places, a link and a tail for each particle
pub record TreeReady (l : TreeInput) (places next tail : ℕ) : Type 0 where
  pub passed : Passed l
  pub pairs : places ≡ count_of l.sheet * 2
  pub links : next ≡ count_of l.sheet
  pub tails : tail ≡ count_of l.sheet
