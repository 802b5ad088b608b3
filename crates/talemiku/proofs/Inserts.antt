-- Edits that are all insertions: the call on them comes to what the tree call comes to on the sheet of their points. Assumes nothing.
use mathlib.Core.Path.{◌≡◌, refl, sym, ap, ap₂, ◌∙◌}
use mathlib.Core.Bool.{true}
use mathlib.Core.List.{List, [], ◌∷◌, ◌++◌}
use Prim.Native.Nat.{ℕ, zero, suc, ◌+◌, ◌*◌, ◌%◌}
use native.Mathlib.Omega.{arith}
use borrow.Author.Tests.{eq-eqb}
use lib.Pow.{pow_pos}
use native.Mathlib.Nat.{zero-add, add-zero}
use lib.ListN.{length}
use lib.Ieee.{Float, binary64}
use lib.Ieee.Bits.{of_bits-fits}
use Rattle.rules.specs.declared.TreeAnswer.{TreeAnswer}
use Rattle.rules.specs.Plain.{foldl, count_from, up_to}
use Rattle.rules.specs.Outcome.{Check, fine, require, ◌>>=◌, check_from}
use Rattle.rules.specs.Number.{0·, float_of, finite}
use Rattle.rules.specs.Refusal.{most_particles, place_check}
use Rattle.rules.specs.Sheet.{count_of, particle, particles_of, sheet_of, places_of, whole_records, record_check, records_check}
use Rattle.rules.specs.Opened.{opened}
use Rattle.rules.specs.Cover.{extent_of}
use Rattle.rules.specs.Tree.{tree_of, fits_check, tree_check}
use Rattle.rules.specs.Calls.{slots_of, input_check, tree_of_sheet, cover_sheet, tree_lengths, tree_result, tree_answer, rows_after, chains_after, tree_work_after}
use Rattle.rules.specs.Edits.{Edit, insertion, removal, unknown, edits_of, points_of, insertions, present, edited, present_after, extent_now, tree_now, edit_check, edits_from, point_check, known, EditsInput, edit_list, edit_input_check, edits_result, edits_answer, edit_rows_after, edit_chains_after, edit_work_after}
use Rattle.rules.specs.Terms.{Storable, AllStorable, resting}
use Rattle.rules.proofs.CellCount.{up_to_snoc}
use Rattle.list_checks.proofs.Checks.{then_fine}
use Rattle.sheet.proofs.Sheets.{sheet-length, particles_of-sheet}
use Rattle.edits_words.proofs.Words.{insertions-few}
use Rattle.edits_call.specs.Call.{AfterEdits}
use Rattle.tree_call.specs.Tree.{AfterTree}
use Rattle.talemiku.specs.Told.{points_made, PointsSheet, on_sheet}

-- ---- the points' sheet

held_at : (x y : ℕ) → Storable (particle (float_of x) (float_of y) 0· 0· 0)
held_at x y = record { x = of_bits-fits binary64 x; y = of_bits-fits binary64 y; vx = of_bits-fits binary64 0; vy = of_bits-fits binary64 0; flags = pow_pos 64 }

resting-held : (w : List ℕ) → AllStorable (resting (points_of (edits_of w)))
resting-held [] = tt
resting-held (k ∷ []) = tt
resting-held (k ∷ v ∷ []) = tt
resting-held (zero ∷ x ∷ y ∷ w) = (held_at x y, resting-held w)
resting-held (suc zero ∷ x ∷ y ∷ w) = resting-held w
resting-held (suc (suc k) ∷ x ∷ y ∷ w) = resting-held w

resting-places : (es : List Edit) → places_of (resting (points_of es)) ≡ points_of es
resting-places [] = refl
resting-places (insertion x y ∷ es) = ap (λ (l : List Float). x ∷ y ∷ l) (resting-places es)
resting-places (removal i ∷ es) = resting-places es
resting-places (unknown ∷ es) = resting-places es

resting-length : (es : List Edit) → length (resting (points_of es)) ≡ insertions es
resting-length [] = refl
resting-length (insertion x y ∷ es) = ap suc (resting-length es)
resting-length (removal i ∷ es) = resting-length es
resting-length (unknown ∷ es) = resting-length es

-- ---- its checks

still : finite 0· ≡ true
unfolding opened
still = refl

resting-check : (k : ℕ) (x y : Float) → record_check k (particle x y 0· 0· 0) ≡ place_check k x y
unfolding record_check
resting-check k x y = rw still (then_fine (place_check k x y))

-- every edit is an insertion
abbrev pub Inserts : List Edit → Type 0
Inserts es = insertions es ≡ length es

records_are : (k : ℕ) (es : List Edit) → Inserts es → check_from record_check k (resting (points_of es)) ≡ check_from point_check k es
records_are k [] i = refl
records_are k (insertion x y ∷ es) i = ap₂ (λ (c d : Check). c >>= λ _. d) (resting-check k x y) (records_are (k + 1) es (omega arith))
records_are k (removal j ∷ es) i = absurd (omega (arith, insertions-few es))
records_are k (unknown ∷ es) i = absurd (omega (arith, insertions-few es))

kinds_fine : (k : ℕ) (es : List Edit) → Inserts es → check_from (λ k e. require (known e) 5 k) k es ≡ fine
kinds_fine k [] i = refl
kinds_fine k (insertion x y ∷ es) i = kinds_fine (k + 1) es (omega arith)
kinds_fine k (removal j ∷ es) i = absurd (omega (arith, insertions-few es))
kinds_fine k (unknown ∷ es) i = absurd (omega (arith, insertions-few es))

-- ---- edit by edit

now_is : (at : List Float) (k : ℕ) → tree_now at (present (k + 1) (up_to k ++ (k ∷ []))) ≡ tree_of at (k + 1)
unfolding tree_now extent_now tree_of
now_is at k = rw (← up_to_snoc k)

from_are : (at : List Float) (slots k : ℕ) (es : List Edit) → Inserts es
    → edits_from at slots k (present k (up_to k)) es ≡ check_from (λ i _. fits_check slots i (tree_of at (i + 1))) k (count_from k (length es))
unfolding edits_from edit_check
from_are at slots k [] i = refl
from_are at slots k (insertion x y ∷ es) i =
    ap₂ (λ (c d : Check). c >>= λ _. d) (ap (fits_check slots k) (now_is at k)) (ap (λ (l : List ℕ). edits_from at slots (k + 1) (present (k + 1) l) es) (sym (up_to_snoc k)) ∙ from_are at slots (k + 1) es (omega arith))
from_are at slots k (removal j ∷ es) i = absurd (omega (arith, insertions-few es))
from_are at slots k (unknown ∷ es) i = absurd (omega (arith, insertions-few es))

last_from_lem : (k : ℕ) (es : List Edit) → Inserts es → foldl edited (present k (up_to k)) es ≡ present (k + length es) (up_to (k + length es))
last_from_lem k [] i = rw (add-zero k)
last_from_lem k (insertion x y ∷ es) i = ap (λ (l : List ℕ). foldl edited (present (k + 1) l) es) (sym (up_to_snoc k)) ∙ last_from_lem (k + 1) es (omega arith) ∙ ap (λ (n : ℕ). present n (up_to n)) (on k (length es))
  where
    on : (k n : ℕ) → k + 1 + n ≡ k + suc n
    on k n = omega arith
last_from_lem k (removal j ∷ es) i = absurd (omega (arith, insertions-few es))
last_from_lem k (unknown ∷ es) i = absurd (omega (arith, insertions-few es))

present-all : (es : List Edit) → Inserts es → present_after es ≡ present (length es) (up_to (length es))
present-all es i = last_from_lem 0 es i ∙ ap (λ (n : ℕ). present n (up_to n)) (zero-add (length es))

-- ---- the call

-- the sheet of the points is one
pub points-sheet : (l : EditsInput) → PointsSheet l (sheet_of (resting (points_made l)))
points-sheet l =
    let at = points_made l in
    record { records = sheet-length (resting at) ∙ ap (λ (n : ℕ). n * 40) (resting-length (edit_list l)); particles = particles_of-sheet (resting at) (resting-held l.edits) }

module _ (l : EditsInput) (sheet : List ℕ) (p : PointsSheet l sheet) (whole : length l.edits ≡ length (edit_list l) * 3) (i : Inserts (edit_list l)) where
  abbrev es : List Edit
  es = edit_list l

  places_are : places_of (particles_of sheet) ≡ points_of es
  places_are = ap places_of p.particles ∙ resting-places es

  sheet-is : length sheet ≡ length es * 40
  sheet-is = p.records ∙ ap (λ (n : ℕ). n * 40) i

  count-is : count_of sheet ≡ length es
  count-is = omega (arith, sheet-is)

  whole_is : whole_records sheet ≡ fine
  unfolding whole_records
  whole_is = rw (eq-eqb (length sheet % 40) 0 (omega (arith, sheet-is)))

  checks_are : input_check most_particles (tree_lengths (on_sheet l sheet)) sheet ≡ edit_input_check l
  unfolding edit_input_check records_check
  checks_are = rw (whole_is, count-is, p.particles, records_are 0 es i, eq-eqb (length l.edits) (length es * 3) whole, i, kinds_fine 0 es i) (sym (then_fine _))

  tree_is : tree_of (points_of es) (length es) ≡ tree_now (points_of es) (present_after es)
  unfolding tree_now extent_now tree_of
  tree_is = rw (present-all es i)

  result-is : tree_result most_particles (on_sheet l sheet) ≡ edits_result l
  unfolding tree_result tree_of_sheet edits_result tree_check
  result-is = rw (checks_are, places_are, count-is, ← from_are (points_of es) (slots_of l.work) 0 es i, tree_is)

  extent_is : extent_of (cover_sheet sheet) ≡ extent_now (points_of es) (present_after es)
  unfolding extent_now
  extent_is = rw (places_are, count-is, present-all es i)

  pub as_tree : {r r' : TreeAnswer} {rows chains work rows' chains' work' : List ℕ} → AfterEdits l r rows chains work
      → AfterTree (on_sheet l sheet) (tree_result most_particles (on_sheet l sheet)) r' rows' chains' work' → (r ≡ r') × (rows ≡ rows') × (chains ≡ chains') × (work ≡ work')
  unfolding edits_answer edit_rows_after edit_chains_after edit_work_after tree_answer rows_after chains_after tree_work_after
  as_tree a b =
      (a.answer ∙ sym (b.answer ∙ rw (result-is, extent_is)), a.listed ∙ sym (b.listed ∙ rw result-is), a.chained ∙ sym (b.chained ∙ rw result-is), a.worked ∙ sym (b.worked ∙ rw result-is))
