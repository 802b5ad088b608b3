-- The lister's text from what its parts answer: the lent memory has the right lengths, and what is kept is enough. Assumes nothing.
use mathlib.Core.Path.{◌≡◌, refl, sym, ap, ◌∙◌, subst}
use mathlib.Core.List.{List, [], ◌∷◌, ◌++◌}
use Prim.Native.Nat.{ℕ, ◌*◌, ◌/◌, ◌%◌, ◌≤◌, ◌<◌}
use native.Mathlib.Omega.{arith}
use borrow.Author.Tests.{eq-eqb}
use lib.ListN.{length, take}
use lib.Seq.{take_all}
use Rattle.rules.specs.declared.Extent.{Extent}
use Rattle.rules.specs.declared.TreeAnswer.{TreeAnswer}
use Rattle.rules.specs.Outcome.{Outcome, done, refused, fine, refusal_of}
use Rattle.rules.specs.Sheet.{record_size, count_of}
use Rattle.rules.specs.Tree.{Tree, rows_of, row_numbers, chains_of}
use Rattle.rules.specs.Calls.{slot_words, slots_of, cover_sheet, TreeInput, tree_lengths, tree_result, tree_answer}
use Rattle.rules.specs.Listing.{ascii, decimal, line, extent_line, row_lines, most_listed, lister_slots, lister}
use Rattle.tree_call.specs.Tree.{AfterTree, lent}
use Rattle.lister_text.specs.Text.{TextWritten}
use Rattle.lister_text.specs.Told.{SomeTree}
use Rattle.lister_text.specs.Input.{kept_bytes}
use Rattle.lister_text.proofs.Sheets.{lister_bad, lister_many, lister_refused, lister-done, told, number_is}

-- ---- the tree call's answer

-- the lists that the lister lends
pub record Lent (l : TreeInput) : Type 0 where
  pub rows : length l.rows ≡ row_numbers * lister_slots
  pub chains : length l.chains ≡ count_of l.sheet
  pub work : length l.work ≡ slot_words * lister_slots

pub lent_right : (sheet rows chains work : List ℕ) → (length rows ≡ row_numbers * lister_slots) × (length chains ≡ count_of sheet) × (length work ≡ slot_words * lister_slots) → Lent (lent sheet rows chains work)
lent_right sheet rows chains work h = record { rows = h.0; chains = h.1; work = h.2 }

module _ {l : TreeInput} (h : Lent l) where
  slots : slots_of l.work ≡ lister_slots
  slots = ap (λ (n : ℕ). n / slot_words) h.work

  lengths : tree_lengths l ≡ fine
  lengths = rw (eq-eqb _ _ (h.rows ∙ sym (ap (λ (n : ℕ). n * row_numbers) slots)), eq-eqb _ _ h.chains)

  module _ {r : TreeAnswer} {rows chains work : List ℕ} (ends : AfterTree l (tree_result most_listed l) r rows chains work) where
    number : r.refusal.number ≡ (refusal_of (tree_result most_listed l)).number
    unfolding tree_answer
    number = ap (λ (a : TreeAnswer). a.refusal.number) ends.answer

    -- with a number, the line that says it
    pub record Refuses : Type 0 where
      pub small : r.refusal.number < 100
      pub text : lister l.sheet ≡ line (ascii "refused" ∷ decimal r.refusal.number ∷ [])

    pub refuses : (r.refusal.number ≡ 0 → ⊥) → Refuses
    refuses some = go (tree_result most_listed l) refl
      where
        go : (o : Outcome (Tree Extent)) → tree_result most_listed l ≡ o → Refuses
        go (done t) e = absurd (some (number ∙ ap (λ (o : Outcome (Tree Extent)). (refusal_of o).number) e))
        go (refused q) e =
            let n : r.refusal.number ≡ q.number = number ∙ ap (λ (o : Outcome (Tree Extent)). (refusal_of o).number) e in
            record {
              small = subst (λ (k : ℕ). k < 100) (sym n) (number_is most_listed l q e).1;
              text = lister_refused l slots lengths q e ∙ ap (λ (k : ℕ). line (ascii "refused" ∷ decimal k ∷ [])) (sym n);
            }

    -- with none, the extent and the nodes of the tree that is told of
    pub record Lists : Type 0 where
      pub some : SomeTree r.extent r.nodes rows chains
      pub text : lister l.sheet ≡ extent_line some.covered ++ row_lines (rows_of some.tree) (chains_of some.tree)

    pub lists : r.refusal.number ≡ 0 → Lists
    lists none = go (tree_result most_listed l) refl
      where
        go : (o : Outcome (Tree Extent)) → tree_result most_listed l ≡ o → Lists
        go (done t) e = record {
          some = record { covered = cover_sheet l.sheet; tree = t; told = rw (ends.answer, ends.listed, ends.chained) (told l slots lengths t e) };
          text = lister-done l slots lengths t e;
        }
        go (refused q) e =
            let n : q.number ≡ 0 = sym (number ∙ ap (λ (o : Outcome (Tree Extent)). (refusal_of o).number) e) ∙ none in
            absurd (omega (arith, n, (number_is most_listed l q e).0))

-- ---- an input of `total` bytes

module _ (sheet : List ℕ) {total : ℕ} (n : length sheet ≡ total) where
  pub bad_input : (total % record_size ≡ 0 → ⊥) → lister sheet ≡ line (ascii "refused" ∷ decimal 10 ∷ [])
  bad_input bad = lister_bad sheet (λ e. bad (ap (λ (k : ℕ). k % record_size) (sym n) ∙ e))

  module _ (whole : total % record_size ≡ 0) where
    pub many-input : most_listed < total / record_size → lister sheet ≡ line (ascii "refused" ∷ decimal 1 ∷ [])
    many-input many = lister_many sheet (ap (λ (k : ℕ). k % record_size) n ∙ whole) (subst (λ (k : ℕ). most_listed < k / record_size) (sym n) many)

    -- else all of it is kept
    pub kept-input : total / record_size ≤ most_listed → (kept : List ℕ) → take kept_bytes sheet ≡ kept → sheet ≡ kept
    kept-input few kept e = sym (take_all kept_bytes sheet (omega arith)) ∙ e

-- the line of a number is that of an equal one
pub refused_by : {l k : List ℕ} {r n m : ℕ} → n ≡ m → TextWritten l 0 (line (ascii "refused" ∷ decimal n ∷ [])) k r → TextWritten l 0 (line (ascii "refused" ∷ decimal m ∷ [])) k r
refused_by {l} {k} {r} e w = subst (λ (n : ℕ). TextWritten l 0 (line (ascii "refused" ∷ decimal n ∷ [])) k r) e w
