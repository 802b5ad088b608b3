-- A tick called on a sheet: how it ends where it is refused before it begins, and where it has run.
use mathlib.Core.Path.{◌≡◌, sym, ap, ◌∙◌}
use mathlib.Core.List.{List}
use Prim.Native.Nat.{ℕ, ◌*◌, ◌≤◌}
use native.Mathlib.Omega.{arith}
use lib.ListN.{length}
use lib.Ieee.{Float}
use Rattle.rules.specs.declared.Refusal.{Refusal}
use Rattle.rules.specs.declared.Counts.{Counts}
use Rattle.rules.specs.declared.Progress.{Progress}
use Rattle.rules.specs.declared.Settings.{Settings}
use Rattle.rules.specs.Outcome.{Check, refused, fine, ◌>>=◌}
use Rattle.rules.specs.Number.{float_of}
use Rattle.rules.specs.Refusal.{most_particles}
use Rattle.rules.specs.Sheet.{particles_of, places_of}
use Rattle.rules.specs.Calls.{slots_of}
use Rattle.rules.specs.Tick.{SheetInput, count, entries, forces, forces_from, sheet_check, tick_home, tick, entry_state, tick_settings, tick_result, tick_answer, sheet_after_tick, alpha_after_tick, work_after_tick}
use Rattle.rules.proofs.RefusalLaws.{of_done}
use Rattle.sheet.specs.Columns.{flags_of}
use Rattle.std.proofs.Common.{Result, Ok, Err, IfOk}
use Rattle.std.specs.Prelude.{IfErr}
use Rattle.std.proofs.lemmas.Result.{IfOk-weaker}
use Rattle.force.specs.Draws.{came_to}
use Rattle.force.specs.Ran.{IsLate}
use Rattle.force_call.specs.Calls.{no_counts}
use Rattle.tick_checks.proofs.Whole.{keeps_slots}
use Rattle.tick_columns.specs.Stage.{Columns, columns, state_of, Stages}
use Rattle.tick_columns.specs.Columns.{Read}
use Rattle.tick_columns.proofs.Begun.{checked, entry-is, spent}
use Rattle.tick_close.specs.Settled.{TickSettled}
use Rattle.tick.specs.Tick.{cooled}
use Rattle.tick_call.specs.Tick.{AfterTick}

-- nothing is counted yet
abbrev pub start : Float → Progress
start a = record { alpha = a; used = 0; visits = 0 }

-- what is let pass has few particles
pub few : (l : SheetInput) (settings : List Float) → sheet_check l fine settings ≡ fine → count l ≤ most_particles
few l settings h = (checked l 0 settings h).fits.few

pub few-numbers : (l : SheetInput) (settings : List Float) → sheet_check l fine settings ≡ fine → count l * 2 ≤ 2 * most_particles
few-numbers l settings h = omega (arith, few l settings h)

module _ (l : SheetInput) (s : Settings) where
  -- ---- refused before it begins: nothing changes

  pub tick-stopped : (q : Refusal) (r : Counts) → sheet_check l fine (tick_settings l s) ≡ refused q → r ≡ no_counts q → AfterTick l s r l.sheet l.alpha l.work
  unfolding tick_result tick_answer sheet_after_tick alpha_after_tick work_after_tick
  tick-stopped q r e er = record { answer = er ∙ rw e; sheet = rw e; alpha = rw e; work = rw (e, keeps_slots l of_done (tick_settings l s) q e) }

  -- ---- a tick that has run

  -- it came to t, where it stands with the columns k
  settled_ends : (t : Result Progress Refusal) (k : Columns) (work : List ℕ) (r : Counts) (sheet' : List ℕ) (alpha' : ℕ) (work' : List ℕ)
      → tick_result l s ≡ came_to t (λ p. state_of k l.draws p) → IfErr t IsLate
      → k.flags ≡ flags_of (particles_of l.sheet) → IfOk t (λ p. p.used ≤ length l.draws) → length work ≡ length l.work
      → TickSettled t k.places k.speeds l.sheet l.alpha work r sheet' alpha' work' → AfterTick l s r sheet' alpha' work'
  unfolding tick_answer sheet_after_tick alpha_after_tick work_after_tick
  settled_ends (Ok p) k work r sheet' alpha' work' e z ef hu ew h =
      record {
        answer = h.answer ∙ rw (e, spent l.draws p.used hu);
        sheet = h.bytes ∙ rw (e, ef);
        alpha = h.alpha_left ∙ rw e;
        work = h.slots ∙ rw (e, ew);
      }
  settled_ends (Err q) k work r sheet' alpha' work' e z ef hu ew h =
      record { answer = h.answer ∙ rw e; sheet = h.bytes ∙ rw e; alpha = h.alpha_left ∙ rw e; work = h.slots ∙ rw (e, z, ew) }

  -- the sheet was read into columns, `home` are its places, and the tick left the columns `at` and vs
  module _ (c : sheet_check l fine (tick_settings l s) ≡ fine) (places speeds home at vs : List Float) (flags : List ℕ) (a : Float) (most : ℕ) (t : Result Progress Refusal)
      (r : Read l.sheet places speeds flags) (n : length flags ≡ count l) (ea : a ≡ float_of l.alpha) (eh : home ≡ places)
      (k : Stages (columns at vs flags) l.draws (cooled s (start a)) most t
      (tick_home s home (forces_from (length flags) (entries l) l.numbers l.links) (slots_of l.work) (state_of (columns places speeds flags) l.draws (start a)))) where
    result-is : tick_result l s ≡ came_to t (λ p. state_of (columns at vs flags) l.draws p)
    unfolding tick_result
    result-is =
        ap (λ (d : Check). d >>= λ _. tick s (forces l) (slots_of l.work) (entry_state l)) c
        ∙ sym (k.is
        ∙ ap (λ (h : List Float). tick_home s h (forces_from (length flags) (entries l) l.numbers l.links) (slots_of l.work) (state_of (columns places speeds flags) l.draws (start a))) (eh ∙ r.of_places)
        ∙ ap (λ (m : ℕ). tick_home s (places_of (particles_of l.sheet)) (forces_from m (entries l) l.numbers l.links) (slots_of l.work) (state_of (columns places speeds flags) l.draws (start a))) n
        ∙ ap (tick_home s (places_of (particles_of l.sheet)) (forces l) (slots_of l.work)) (entry-is l places speeds flags r a ea))

    pub tick_ran : (work : List ℕ) (q : Counts) (sheet' : List ℕ) (alpha' : ℕ) (work' : List ℕ) → length work ≡ length l.work
        → TickSettled t at vs l.sheet l.alpha work q sheet' alpha' work' → AfterTick l s q sheet' alpha' work'
    tick_ran work q sheet' alpha' work' ew h =
        settled_ends t (columns at vs flags) work q sheet' alpha' work' result-is k.late r.of_flags (IfOk-weaker t _ _ (λ p o. o.draws.reach) k.onward) ew h
