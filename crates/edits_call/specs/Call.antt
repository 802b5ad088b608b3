-- The call on edits: what it is lent, and what it leaves. Definitions only.
use Rattle.std.specs.Prelude.{◌≡◌, List, ℕ, ◌*◌}
use Rattle.rules.specs.declared.TreeAnswer.{TreeAnswer}
use Rattle.rules.specs.Outcome.{fine}
use Rattle.rules.specs.Edits.{EditsInput, insertions, edit_list, edit_input_check, edits_answer, edit_rows_after, edit_chains_after, edit_work_after}

-- what is lent to the call
abbrev pub lent : List ℕ → List ℕ → List ℕ → List ℕ → EditsInput
lent edits rows chains work = record { edits = edits; rows = rows; chains = chains; work = work }

-- the answer and every lent list after the call
pub record AfterEdits (l : EditsInput) (r : TreeAnswer) (rows chains work : List ℕ) : Type 0 where
  pub answer : r ≡ edits_answer l
  pub listed : rows ≡ edit_rows_after l
  pub chained : chains ≡ edit_chains_after l
  pub worked : work ≡ edit_work_after l

-- past the checks, with lists of as many places as there are insertions: a point, a flag, a link and a tail for each
pub record EditsReady (l : EditsInput) (places there next tail : ℕ) : Type 0 where
  pub passed : edit_input_check l ≡ fine
  pub pairs : places ≡ insertions (edit_list l) * 2
  pub flags : there ≡ insertions (edit_list l)
  pub links : next ≡ insertions (edit_list l)
  pub tails : tail ≡ insertions (edit_list l)
