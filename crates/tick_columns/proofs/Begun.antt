-- What a tick and a step begin with: the checks are past, and the sheet is read into columns.
use mathlib.Core.Path.{◌≡◌, sym, ap, subst⁻¹, ◌∙◌}
use mathlib.Core.Bool.{true}
use mathlib.Core.List.{List, []}
use Prim.Native.Nat.{ℕ, ◌-◌, ◌*◌, ◌%◌, ◌≤◌, zero-le}
use native.Mathlib.Omega.{arith}
use borrow.Author.Tests.{eqb-true}
use lib.Dec.{eqb}
use lib.ListN.{length, drop, length-drop}
use lib.Ieee.{Float}
use Rattle.rules.specs.declared.Refusal.{Refusal}
use Rattle.rules.specs.Plain.{all}
use Rattle.rules.specs.Outcome.{refused, fine, result_of}
use Rattle.rules.specs.Number.{within, float_of}
use Rattle.rules.specs.Refusal.{most_ticks, count_check}
use Rattle.rules.specs.Sheet.{record_size, whole_records, count_of, particles_of, places_of}
use Rattle.rules.specs.Tick.{SheetInput, state, entries, count, sheet_check}
use Rattle.rules.proofs.OutcomeLaws.{ok_fine, err_refused}
use Rattle.sheet.proofs.Checked.{records-sound}
use Rattle.std.proofs.Common.{Result, Ok, Err}
use Rattle.list_checks.proofs.Checks.{require_true}
use Rattle.tick_checks.specs.Fits.{Fits}
use Rattle.tick_checks.specs.Input.{lent_sheet}
use Rattle.tick_checks.proofs.Whole.{check-same, passed}
use Rattle.tick_columns.specs.Stage.{columns, ColumnsFit, Chains, state_of}
use Rattle.tick_columns.proofs.Flags.{columns_of}
use Rattle.tick_columns.specs.Columns.{ColumnsLent, Read}

-- ---- the checks

-- alpha and the work slots are not looked at
pub answered : (l : SheetInput) (ticks : ℕ) (settings : List Float) (q : Result (Unit {0}) Refusal)
    → q ≡ result_of (sheet_check (lent_sheet l.sheet 0 l.words l.numbers l.links l.draws []) (count_check most_ticks ticks) settings) → q ≡ result_of (sheet_check l (count_check most_ticks ticks) settings)
answered l ticks settings q e =
    e ∙ ap result_of (check-same l.sheet l.alpha l.words l.numbers l.links l.draws l.work ticks settings)

-- q was answered
module _ (l : SheetInput) (ticks : ℕ) (settings : List Float) {q : Result (Unit {0}) Refusal} (e : q ≡ result_of (sheet_check l (count_check most_ticks ticks) settings)) where
  pub stopped : {r : Refusal} → q ≡ Err r → sheet_check l (count_check most_ticks ticks) settings ≡ refused r
  stopped {r} h = err_refused (sheet_check l (count_check most_ticks ticks) settings) r (sym e ∙ h)

  pub past : {t : Unit {0}} → q ≡ Ok t → sheet_check l (count_check most_ticks ticks) settings ≡ fine
  past {t} h = ok_fine (sheet_check l (count_check most_ticks ticks) settings) t (sym e ∙ h)

-- whole records
whole-records : (s : List ℕ) → whole_records s ≡ fine → length s ≡ count_of s * record_size
unfolding whole_records
whole-records s h = omega (arith, eqb-true (length s % record_size) 0 (require_true (eqb (length s % record_size) 0) 10 0 h))

-- what is known where nothing is refused
pub record Checked (l : SheetInput) (ticks : ℕ) : Type 0 where
  pub fits : Fits (count l) (entries l) l.numbers l.links
  pub whole : length l.sheet ≡ count_of l.sheet * record_size
  pub ranged : all within (places_of (particles_of l.sheet)) ≡ true
  pub few : ticks ≤ most_ticks

pub checked : (l : SheetInput) (ticks : ℕ) (settings : List Float) → sheet_check l (count_check most_ticks ticks) settings ≡ fine → Checked l ticks
checked l ticks settings h =
    let p = passed l ticks settings h in
    record { fits = p.0; whole = whole-records l.sheet p.1; ranged = (records-sound (particles_of l.sheet) p.2).places; few = p.3 }

-- ---- the columns

-- lists as long as these
pub lists-kept : {n : ℕ} {places speeds places' speeds' : List Float} {flags flags' : List ℕ} → ColumnsLent n places speeds flags
    → length places' ≡ length places → length speeds' ≡ length speeds → length flags' ≡ length flags → ColumnsLent n places' speeds' flags'
lists-kept k p v f = record { place_each = p ∙ k.place_each; speed_each = v ∙ k.speed_each; flag_each = f ∙ k.flag_each }

-- the sheet was read into columns
module _ (l : SheetInput) (places speeds : List Float) (flags : List ℕ) (r : Read l.sheet places speeds flags) where
  -- they stand for its particles
  pub entry-is : (a : Float) → a ≡ float_of l.alpha → state_of (columns places speeds flags) l.draws (record { alpha = a; used = 0; visits = 0 }) ≡ state (particles_of l.sheet) (float_of l.alpha) l.draws 0
  entry-is a e = rw (columns_of (particles_of l.sheet) places speeds flags (sym r.of_places) (sym r.of_speeds) (sym r.of_flags), e)

  module _ (ticks : ℕ) (k : Checked l ticks) (n : ColumnsLent (count l) places speeds flags) where
    -- a pair for each flag
    pub pairs : (m : ℕ) → m ≡ count l * 2 → m ≡ length flags * 2
    pairs m h = h ∙ ap (λ (m : ℕ). m * 2) (sym n.flag_each)

    pub fits-columns : Fits (length flags) (entries l) l.numbers l.links
    fits-columns = subst⁻¹ (λ (m : ℕ). Fits m (entries l) l.numbers l.links) n.flag_each k.fits

    pub columns-fit : ColumnsFit places speeds l.draws (length flags) 0
    columns-fit =
        record {
          few = fits-columns.few;
          places = pairs (length places) n.place_each;
          speeds = pairs (length speeds) n.speed_each;
          ranged = rw r.of_places k.ranged;
          drawn = zero-le;
        }

    -- a link and a tail for each flag
    pub chains : (next tail : List ℕ) → length next ≡ count l → length tail ≡ count l → Chains (length flags) next tail
    chains next tail x y = record { links = x ∙ sym n.flag_each; tails = y ∙ sym n.flag_each }

-- ---- the draws

-- as many are used as are no longer left
pub spent : (ds : List Float) (used : ℕ) → used ≤ length ds → length ds - length (drop used ds) ≡ used
spent ds used h = simp length-drop (omega arith)
