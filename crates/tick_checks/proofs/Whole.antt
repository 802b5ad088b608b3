-- The check of a whole input: what it lets pass, what it refuses by, and how the code answers it half by half.
use mathlib.Core.Path.{◌≡◌, refl, sym, ap, ap₂, ◌∙◌}
use mathlib.Core.Bool.{true, false, ◌&&◌, and-eq-true_iff}
use mathlib.Core.List.{List, [], ◌∷◌, map}
use Prim.Native.Nat.{ℕ, ◌*◌, ◌≤◌}
use native.Mathlib.Nat.{le_of_eq}
use borrow.Author.Tests.{eqb-true}
use lib.Dec.{eqb}
use lib.ListN.{length}
use lib.Ieee.{Float}
use Rattle.rules.specs.declared.Refusal.{Refusal}
use Rattle.rules.specs.Plain.{all, sum}
use Rattle.rules.specs.Outcome.{Check, refused, fine, ◌then◌, result_of, check_each, on_the_way}
use Rattle.rules.specs.Refusal.{most_particles, most_ticks, count_check, lengths_check, draws_check, settings_check}
use Rattle.rules.specs.Sheet.{count_of, particles_of, whole_records, records_check}
use Rattle.rules.proofs.OutcomeLaws.{ok_fine, err_refused}
use Rattle.std.proofs.Common.{Ok, Err}
use Rattle.rules.specs.Tick.{SheetInput, entry_counts, strengths_right, numbers_needed, links_needed, entries_of, force_ends, force_ranges, count, entries, forces, tick_lengths, sheet_check}
use Rattle.rules.proofs.RefusalLaws.{Refuses}
use Rattle.rules.proofs.RefusalNumbers.{Early, early-stays, sheet-early}
use Rattle.list_checks.proofs.Checks.{then_both, then_fine, require_true}
use Rattle.tick_checks.proofs.Early.{then_assoc, settings-append}
use Rattle.tick_checks.specs.Fits.{Fits}
use Rattle.tick_checks.specs.Input.{lent_sheet, sizes_check, contents_check}
use Rattle.tick_checks.proofs.Entries.{sum_twice, count_small}
use Rattle.tick_checks.proofs.Parts.{ends_each_lem, ranges_each_lem}

-- ---- the checks one after the other

abbrev lengths : SheetInput → Check
lengths l = lengths_check (tick_lengths l)

abbrev ends : SheetInput → Check
ends l = check_each (λ _ f. force_ends (count l) f) (forces l)

abbrev records : SheetInput → Check
records l = records_check (particles_of l.sheet)

abbrev ranges : SheetInput → Check
ranges l = check_each (λ _ f. force_ranges f) (forces l)

-- all but the settings, after c
abbrev rest : SheetInput → Check → Check
rest l c = c then lengths l then ends l then records l then ranges l then draws_check l.draws

module _ (l : SheetInput) (ticks : ℕ) where
  abbrev sizes : Check
  sizes = sizes_check l.sheet l.words ticks

  check-is : (settings : List Float) → sheet_check l (count_check most_ticks ticks) settings ≡ rest l sizes then settings_check settings
  unfolding sheet_check
  check-is settings = refl

  check_plain : sheet_check l (count_check most_ticks ticks) [] ≡ rest l sizes
  check_plain = check-is [] ∙ then_fine (rest l sizes)

  -- the settings come last
  pub settings_last : (settings : List Float) → sheet_check l (count_check most_ticks ticks) settings ≡ sheet_check l (count_check most_ticks ticks) [] then settings_check settings
  settings_last settings = check-is settings ∙ ap (λ (c : Check). c then settings_check settings) (sym check_plain)

  -- of a step one more
  pub settings_end : (a b c d e : Float) → sheet_check l (count_check most_ticks ticks) (a ∷ b ∷ c ∷ d ∷ e ∷ [])
      ≡ (sheet_check l (count_check most_ticks ticks) [] then settings_check (a ∷ b ∷ c ∷ d ∷ [])) then settings_check (e ∷ [])
  settings_end a b c d e = settings_last (a ∷ b ∷ c ∷ d ∷ e ∷ []) ∙ ap (λ (k : Check). sheet_check l (count_check most_ticks ticks) [] then k) (settings-append (a ∷ b ∷ c ∷ d ∷ []) (e ∷ [])) ∙ then_assoc (sheet_check l (count_check most_ticks ticks) []) (settings_check (a ∷ b ∷ c ∷ d ∷ [])) (settings_check (e ∷ []))

-- of a tick, which has no number of ticks
pub settings_after : (l : SheetInput) (settings : List Float) → sheet_check l fine settings ≡ sheet_check l fine [] then settings_check settings
settings_after l settings = settings_last l 0 settings

-- alpha and the work slots are not looked at
pub check-same : (sheet : List ℕ) (alpha : ℕ) (words : List ℕ) (numbers : List Float) (links : List ℕ) (draws : List Float) (work : List ℕ) (ticks : ℕ) (settings : List Float)
    → sheet_check (lent_sheet sheet 0 words numbers links draws []) (count_check most_ticks ticks) settings ≡ sheet_check (lent_sheet sheet alpha words numbers links draws work) (count_check most_ticks ticks) settings
unfolding sheet_check
check-same sheet alpha words numbers links draws work ticks settings = refl

-- a refused input leaves the work slots as they were
pub keeps_slots : (l : SheetInput) {ticks : Check} → Refuses Early ticks → (settings : List Float) (r : Refusal) → sheet_check l ticks settings ≡ refused r → on_the_way r ≡ false
keeps_slots l h settings r e = early-stays r ((sheet-early l h settings).by r e)

-- ---- what it lets pass

pub sizes-passed : (sheet words : List ℕ) (ticks : ℕ) → sizes_check sheet words ticks ≡ fine
    → (whole_records sheet ≡ fine) × (count_of sheet ≤ most_particles) × (check_each (λ _ e. entry_counts e) (entries_of words) ≡ fine) × (ticks ≤ most_particles)
sizes-passed sheet words ticks h =
    let few = count_check most_particles (count_of sheet) in
    let a = then_both (whole_records sheet then few then count_check most_ticks ticks) (check_each (λ _ e. entry_counts e) (entries_of words)) h in
    let b = then_both (whole_records sheet then few) (count_check most_ticks ticks) a.0 in
    let c = then_both (whole_records sheet) few b.0 in
    (c.0, count_small 4096 (count_of sheet) c.1, a.1, count_small 4096 ticks b.1)

pub passed : (l : SheetInput) (ticks : ℕ) (settings : List Float) → sheet_check l (count_check most_ticks ticks) settings ≡ fine
    → Fits (count l) (entries l) l.numbers l.links × (whole_records l.sheet ≡ fine) × (records_check (particles_of l.sheet) ≡ fine) × (ticks ≤ most_particles)
passed l ticks settings h =
    let s = sizes l ticks in
    let a = then_both (rest l s) (settings_check settings) (sym (check-is l ticks settings) ∙ h) in
    let b = then_both (s then lengths l then ends l then records l then ranges l) (draws_check l.draws) a.0 in
    let c = then_both (s then lengths l then ends l then records l) (ranges l) b.0 in
    let d = then_both (s then lengths l then ends l) (records l) c.0 in
    let e = then_both (s then lengths l) (ends l) d.0 in
    let f = then_both s (lengths l) e.0 in
    let g = sizes-passed l.sheet l.words ticks f.0 in
    (record { few = g.1; counts = g.2; lengths = require_true (tick_lengths l) 2 0 f.1; ends = e.1 }, g.0, d.1, g.3)

-- ---- how the code answers it half by half: r is answered

module _ (l : SheetInput) (ticks : ℕ) where
  pub sizes_refused : (r : Refusal) → result_of (sizes l ticks) ≡ Err r → Err r ≡ result_of (sheet_check l (count_check most_ticks ticks) [])
  sizes_refused r h = sym (ap result_of (check_plain l ticks ∙ ap (rest l) (err_refused (sizes l ticks) r h)))

  -- what comes before 2 is fine
  module _ (t : Unit {0}) (h : result_of (sizes l ticks) ≡ Ok t) where
    pub sizes-fine : sizes l ticks ≡ fine
    sizes-fine = ok_fine (sizes l ticks) t h

    past-sizes : sheet_check l (count_check most_ticks ticks) [] ≡ rest l fine
    past-sizes = check_plain l ticks ∙ ap (rest l) sizes-fine

    pub lengths_refused : (r : Refusal) → result_of (lengths l) ≡ Err r → Err r ≡ result_of (sheet_check l (count_check most_ticks ticks) [])
    lengths_refused r e = sym (ap result_of (past-sizes ∙ ap (λ (c : Check). c then ends l then records l then ranges l then draws_check l.draws) (err_refused (lengths l) r e)))

    -- and so are the lengths
    module _ (u : Unit {0}) (e : result_of (lengths l) ≡ Ok u) where
      agree : tick_lengths l ≡ true
      agree = require_true (tick_lengths l) 2 0 (ok_fine (lengths l) u e)

      -- the lists are as long as the slots need them
      pub long-enough : (length l.numbers ≡ sum (map (numbers_needed (count l)) (entries l))) × (length l.links ≡ sum (map links_needed (entries l)) * 2)
      long-enough =
          let numbers = eqb (length l.numbers) (sum (map (numbers_needed (count l)) (entries l))) in
          let links = eqb (length l.links) (sum (map links_needed (entries l)) * 2) in
          let a = (and-eq-true_iff (all strengths_right (entries l) && numbers) links).0 agree in
          (eqb-true (length l.numbers) _ ((and-eq-true_iff (all strengths_right (entries l)) numbers).0 a.0).1, eqb-true (length l.links) _ a.1)

      pub contents-decide : sheet_check l (count_check most_ticks ticks) [] ≡ contents_check l.sheet l.words l.numbers l.links l.draws
      contents-decide =
          past-sizes
          ∙ ap (λ (c : Check). c then ends l then records l then ranges l then draws_check l.draws) (ok_fine (lengths l) u e)
          ∙ ap₂ (λ (c d : Check). c then records l then d then draws_check l.draws)
          (ends_each_lem (count l) 0 (entries l) l.numbers l.links (le_of_eq (sym (long-enough.1 ∙ sum_twice (entries l)))))
          (ranges_each_lem (count l) 0 (entries l) l.numbers l.links)
