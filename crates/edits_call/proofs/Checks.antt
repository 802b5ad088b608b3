-- How many edits there are as the code counts them, and what passing the checks says.
use mathlib.Core.Path.{◌≡◌, ap, ◌∙◌}
use mathlib.Core.Bool.{Bool, ◌&&◌}
use mathlib.Core.List.{List}
use Prim.Native.Nat.{ℕ, ◌*◌, ◌/◌, ◌%◌, ◌≤◌}
use native.Mathlib.Omega.{arith}
use lib.Dec.{leb, eqb}
use Rattle.std.proofs.lemmas.Bool.Decides.{nat_tests}
use lib.ListN.{length}
use borrow.Author.Tests.{leb-true, eqb-true}
use Rattle.rules.specs.Outcome.{fine, require, ◌then◌, check_each}
use Rattle.rules.specs.Refusal.{most_edits, count_check, lengths_check}
use Rattle.rules.specs.Calls.{slots_of}
use Rattle.rules.specs.Edits.{Edit, edits_of, insertions, EditsInput, edit_list, edit_lengths, point_check, known, edit_input_check, edit_words}
use Rattle.rules.proofs.CellList.{left, right}
use Rattle.rules.specs.Tree.{row_numbers}
use Rattle.list_checks.proofs.Checks.{then_both, require_true}
use Rattle.edits_call.specs.Call.{lent}
use Rattle.edits_words.proofs.Words.{edits-length, insertions-few}

pub edits_counted : (words : List ℕ) → length (edits_of words) ≡ length words / edit_words
edits_counted words = edits-length words

-- no word is left over
pub whole_edits : (n : ℕ) → eqb (n % edit_words) 0 ≡ eqb n (n / edit_words * edit_words)
whole_edits n = grind (arith, nat_tests)

module _ (l : EditsInput) where
  abbrev es : List Edit
  es = edit_list l

  -- what has passed them
  pub record Passes : Type 0 where
    pub few : length l.edits / edit_words ≤ most_edits
    pub whole : length l.edits ≡ length l.edits / edit_words * edit_words
    pub rows : length l.rows ≡ slots_of l.work * row_numbers
    pub chains : length l.chains ≡ insertions es
    pub points : check_each point_check es ≡ fine
    pub kinds : check_each (λ k e. require (known e) 5 k) es ≡ fine
    pub made : insertions es ≤ most_edits

  pub passing : edit_input_check l ≡ fine → Passes
  unfolding edit_input_check
  passing h =
      let count = count_check most_edits (length es) in
      let lengths = lengths_check (edit_lengths l) in
      let points = check_each point_check es in
      let a = then_both (count then lengths then points) (check_each (λ k e. require (known e) 5 k) es) h in
      let b = then_both (count then lengths) points a.0 in
      let d = then_both count lengths b.0 in
      let few = leb-true (length es) most_edits (require_true (leb (length es) most_edits) 1 0 d.0) in
      let agrees = require_true (edit_lengths l) 2 0 d.1 in
      let x : Bool = eqb (length l.edits) (length es * edit_words) in
      let y : Bool = eqb (length l.rows) (slots_of l.work * row_numbers) in
      let z : Bool = eqb (length l.chains) (insertions es) in
      record {
        few = omega (arith, edits-length l.edits, few);
        whole = eqb-true (length l.edits) (length es * edit_words) (left x y (left (x && y) z agrees)) ∙ ap (λ (n : ℕ). n * edit_words) (edits-length l.edits);
        rows = eqb-true (length l.rows) (slots_of l.work * row_numbers) (right x y (left (x && y) z agrees));
        chains = eqb-true (length l.chains) (insertions es) (right (x && y) z agrees);
        points = b.1;
        kinds = a.1;
        made = omega (arith, insertions-few es, few);
      }

-- no more insertions than edits
pub few_made : (edits rows chains work : List ℕ) → edit_input_check (lent edits rows chains work) ≡ fine → insertions (edits_of edits) ≤ most_edits
few_made edits rows chains work h = (passing (lent edits rows chains work) h).made
