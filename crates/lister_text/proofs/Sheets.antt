-- The lister's text from what the tree call answers for a sheet. Assumes nothing.
use mathlib.Core.Path.{◌≡◌, refl, sym, ap, ap₂, ◌∙◌}
use mathlib.Core.Bool.{Bool}
use mathlib.Core.List.{List, [], ◌∷◌, ◌++◌}
use Prim.Native.Nat.{ℕ, ◌%◌, ◌<◌}
use borrow.Author.Tests.{lt-leb, eq-eqb, ne_eqb}
use lib.ListN.{length}
use Rattle.rules.specs.declared.Extent.{Extent}
use Rattle.rules.specs.declared.Refusal.{Refusal}
use Rattle.rules.specs.Plain.{padded}
use Rattle.rules.specs.Outcome.{Outcome, done, refused, ◌>>=◌, Check, fine, require, ◌then◌, if_done}
use Rattle.rules.specs.Refusal.{count_check}
use Rattle.rules.specs.Sheet.{record_size, whole_records, count_of, particles_of, records_check, places_of}
use Rattle.rules.specs.Cell.{nowhere}
use Rattle.rules.specs.Cover.{extent_of}
use Rattle.rules.specs.Tree.{Tree, nodes, tree_of, tree_check, rows_of, flat, chains_of}
use Rattle.rules.specs.Calls.{slots_of, tree_of_sheet, cover_sheet, TreeInput, tree_lengths, tree_result, tree_answer, rows_after, chains_after}
use Rattle.rules.specs.Listing.{ascii, decimal, line, extent_line, row_lines, most_listed, lister_slots, listing, lister}
use Rattle.rules.proofs.RefusalNumbers.{early-number, late_number}
use Rattle.rules.proofs.Places.{tree_refuses}
use Rattle.lister_text.specs.Told.{Told}
use Rattle.lister_text.proofs.Accepted.{accepted}

-- the tree of a sheet after these checks of its length, its count and the lent lists
abbrev after : List ℕ → Check → Check → Check → ℕ → Outcome (Tree Extent)
after sheet whole count lengths slots =
    whole then count then lengths then records_check (particles_of sheet) >>= λ _.
    tree_check (places_of (particles_of sheet)) (count_of sheet) slots >>= λ _.
    done (tree_of (places_of (particles_of sheet)) (count_of sheet))

tree-after : (sheet : List ℕ) (most slots : ℕ) (lengths : Check) → tree_of_sheet most slots lengths sheet ≡ after sheet (whole_records sheet) (count_check most (count_of sheet)) lengths slots
unfolding tree_of_sheet
tree-after sheet most slots lengths = refl

-- ---- not too many records: the tree call's own answer

module _ (l : TreeInput) (slots : slots_of l.work ≡ lister_slots) (lengths : tree_lengths l ≡ fine) where
  abbrev result : Outcome (Tree Extent)
  result = tree_result most_listed l

  same-tree : tree_of_sheet most_listed lister_slots fine l.sheet ≡ result
  unfolding tree_result
  same-tree = ap₂ (λ (c : Check) (k : ℕ). tree_of_sheet most_listed k c l.sheet) (sym lengths) (sym slots)

  lister_of : lister l.sheet ≡ listing l.sheet result
  unfolding lister
  lister_of = ap (listing l.sheet) same-tree

  -- refused: the line with the number
  pub lister_refused : (r : Refusal) → result ≡ refused r → lister l.sheet ≡ line (ascii "refused" ∷ decimal r.number ∷ [])
  lister_refused r e = lister_of ∙ ap (listing l.sheet) e

  module _ (t : Tree Extent) (e : result ≡ done t) where
    -- accepted: the extent and the nodes
    pub lister-done : lister l.sheet ≡ extent_line (cover_sheet l.sheet) ++ row_lines (rows_of t) (chains_of t)
    lister-done = lister_of ∙ ap (listing l.sheet) e

    -- and what the call leaves tells of that tree
    pub told : Told (cover_sheet l.sheet) t (tree_answer l result).extent (tree_answer l result).nodes (rows_after l result) (chains_after l result)
    unfolding tree_answer rows_after chains_after
    told = record {
      listed = accepted l.sheet t (same-tree ∙ e);
      extent_is = ap (λ (o : Outcome (Tree Extent)). if_done o (λ _. extent_of (cover_sheet l.sheet)) nowhere) e;
      count-is = ap (λ (o : Outcome (Tree Extent)). if_done o nodes 0) e;
      rows_length = length l.rows;
      rows_are = ap (λ (o : Outcome (Tree Extent)). if_done o (λ t. padded (length l.rows) 0 (flat (rows_of t))) l.rows) e;
      chains-length = length l.chains;
      chains_are = ap (λ (o : Outcome (Tree Extent)). if_done o (λ t. padded (length l.chains) 0 (chains_of t)) l.chains) e;
    }

-- ---- a bad length, and else too many records

pub lister_bad : (sheet : List ℕ) → (length sheet % record_size ≡ 0 → ⊥) → lister sheet ≡ line (ascii "refused" ∷ decimal 10 ∷ [])
unfolding lister whole_records
lister_bad sheet bad =
    ap (listing sheet)
    (tree-after sheet most_listed lister_slots fine
    ∙ ap (λ (ok : Bool). after sheet (require ok 10 0) (count_check most_listed (count_of sheet)) fine lister_slots) (ne_eqb (length sheet % record_size) 0 bad))

pub lister_many : (sheet : List ℕ) → length sheet % record_size ≡ 0 → most_listed < count_of sheet → lister sheet ≡ line (ascii "refused" ∷ decimal 1 ∷ [])
unfolding lister whole_records
lister_many sheet whole many =
    ap (listing sheet)
    (tree-after sheet most_listed lister_slots fine
    ∙ ap₂ (λ (ok few : Bool). after sheet (require ok 10 0) (require few 1 0) fine lister_slots) (eq-eqb (length sheet % record_size) 0 whole) (lt-leb (count_of sheet) most_listed many))

-- a refusal has a number, of two digits at most
pub number_is : (most : ℕ) (l : TreeInput) (r : Refusal) → tree_result most l ≡ refused r → (0 < r.number) × (r.number < 100)
number_is most l r e = (tree_refuses early-number late_number most l).by r e
