-- The theorems on recentering: every stated tick runs, none changes nothing, and a number of ticks may be cut where it is too many.
use mathlib.Core.Path.{◌≡◌, refl, sym, ap, ◌∙◌, subst}
use mathlib.Core.Logic.{⊎_elim}
use mathlib.Core.Bool.{Bool, true, false, cond, false≢true}
use mathlib.Core.List.{List, [], ◌∷◌, ◌++◌}
use Prim.Native.Nat.{ℕ, zero, suc, ◌+◌, ◌%◌, ◌≤◌, ◌<◌, min}
use native.Mathlib.Nat.{add-zero, min-eq_left, min-eq_right}
use native.Mathlib.Omega.{arith}
use borrow.Author.Tests.{eqb-true, lt-leb}
use lib.Dec.{eqb}
use lib.ListN.{length}
use lib.Ieee.{Float, lt}
use Rattle.rules.specs.Plain.{branch}
use Rattle.rules.specs.Outcome.{Outcome, done, refused, no_refusal, Check, fine, require, ◌then◌, ◌>>=◌, refusal_of, if_done}
use Rattle.rules.specs.Number.{1·, bits_of}
use Rattle.rules.specs.Refusal.{most_ticks, count_check}
use Rattle.rules.specs.Sheet.{record_size, whole_records, count_of, sheet_of}
use Rattle.rules.specs.Calls.{slots_of}
use Rattle.rules.specs.Tick.{Force, SheetInput, State, TicksDone, ticks_done, onward, forces, sheet_check, entry_state, tick, tick_settings, ticks_from, step_result, step_answer, alpha_after_step}
use Rattle.rules.specs.Recenter.{most_recentered, recenter_input, recenter_settings, recenter_alpha_min, unless_stopped, recentered}
use Rattle.rules.proofs.CoverCount.{lt_or_le}
use Rattle.rules.proofs.RefusalNumbers.{tick_late}
use Rattle.rules.proofs.Places.{late_numbered, step_stop}
use Rattle.rules.specs.Terms.{Bytes}
use Rattle.sheet.proofs.Sheets.{sheet_of-particles}
use Rattle.list_checks.proofs.Checks.{require_true}
use Rattle.tick_checks.proofs.Whole.{passed}
use Rattle.step.proofs.Accepted.{accepted-next}
use Rattle.recenter_call.specs.Recentered.{cooled}
use Rattle.recenter_call.specs.Ticks.{most_asked}
use Rattle.recenter_call.proofs.Alpha.{Mild, mild_next, mild_one, mild_above}
use Rattle.recenter_call.proofs.Runs.{result, unstopped}

-- ---- what is known where nothing is refused

-- the check of all that the step is lent
abbrev lent_check : List ℕ → ℕ → Check
lent_check sheet ticks = sheet_check (recenter_input sheet) (count_check most_ticks ticks) (tick_settings (recenter_input sheet) recenter_settings ++ (recenter_alpha_min ∷ []))

-- the ticks that it then runs
abbrev ticks_run : List ℕ → ℕ → TicksDone
ticks_run sheet ticks = ticks_from recenter_settings recenter_alpha_min (forces (recenter_input sheet)) (slots_of (recenter_input sheet).work) ticks 0 (entry_state (recenter_input sheet))

record Accepted (sheet : List ℕ) (ticks : ℕ) (out : List ℕ) : Type 0 where
  checked : lent_check sheet ticks ≡ fine
  is : result sheet ticks ≡ done (ticks_run sheet ticks)
  unrefused : (ticks_run sheet ticks).stop.number ≡ 0
  left : sheet_of (ticks_run sheet ticks).last.particles ≡ out

accepted : (sheet : List ℕ) (ticks : ℕ) (out : List ℕ) → recentered sheet ticks ≡ done out → Accepted sheet ticks out
unfolding recentered step_result
accepted sheet ticks out e = first (whole_records sheet then count_check most_recentered (count_of sheet)) e
  where
    ran : TicksDone
    ran = ticks_run sheet ticks

    ends : (none : Bool) → eqb ran.stop.number 0 ≡ none → lent_check sheet ticks ≡ fine → result sheet ticks ≡ done ran
        → cond none (done (sheet_of ran.last.particles)) (refused ran.stop) ≡ done out → Accepted sheet ticks out
    ends true t c i e = record { checked = c; is = i; unrefused = eqb-true ran.stop.number 0 t; left = ap (λ (o : Outcome (List ℕ)). if_done o (λ l. l) out) e }
    ends false t c i e = absurd (let z : ◌≡◌ {A = ℕ} 0 1 = cc in omega arith)

    second : (c : Check) → lent_check sheet ticks ≡ c → ((c >>= λ _. done ran) >>= unless_stopped) ≡ done out → Accepted sheet ticks out
    second (done t) h e = ends (eqb ran.stop.number 0) refl h (ap (λ (c : Check). c >>= λ _. done ran) h) e
    second (refused q) h e = absurd (let z : ◌≡◌ {A = ℕ} 0 1 = cc in omega arith)

    first : (c : Check) → (c >>= λ _. result sheet ticks >>= unless_stopped) ≡ done out → Accepted sheet ticks out
    first (done t) e = second (lent_check sheet ticks) refl e
    first (refused q) e = absurd (let z : ◌≡◌ {A = ℕ} 0 1 = cc in omega arith)

-- ---- the ticks

-- alpha stays above alpha_min, so the ticks run until one is refused
record AllRan (k t : ℕ) (a : Float) (r : TicksDone) : Type 0 where
  ticks : r.ticks ≡ t + k
  alpha : r.last.alpha ≡ cooled k a

module _ (fs : List Force) (slots : ℕ) where
  abbrev from : ℕ → ℕ → State → TicksDone
  from k t m = ticks_from recenter_settings recenter_alpha_min fs slots k t m

  all_ran : (k t : ℕ) (m : State) → Mild m.alpha → (from k t m).stop.number ≡ 0 → AllRan k t m.alpha (from k t m)
  unfolding ticks_from
  all_ran zero t m w z = record { ticks = sym (add-zero t); alpha = refl }
  all_ran (suc k) t m w z = go (lt recenter_alpha_min m.alpha) (mild_above m.alpha w) (tick recenter_settings fs slots m) refl z (λ n. all_ran k (t + 1) n)
    where
      next : Bool → Outcome State → TicksDone
      next b o = branch b (λ _. onward o (λ n. from k (t + 1) n) (λ r. ticks_done t r m)) (λ _. ticks_done t no_refusal m)

      go : (b : Bool) → b ≡ true → (o : Outcome State) → tick recenter_settings fs slots m ≡ o → (next b o).stop.number ≡ 0
          → ((n : State) → Mild n.alpha → (from k (t + 1) n).stop.number ≡ 0 → AllRan k (t + 1) n.alpha (from k (t + 1) n)) → AllRan (suc k) t m.alpha (next b o)
      go true b (done n) e z rest =
          let a = accepted-next recenter_settings fs slots m n e in
          let r = rest n (subst Mild (sym a) (mild_next m.alpha w)) z in
          record { ticks = r.ticks ∙ omega arith; alpha = r.alpha ∙ ap (cooled k) a }
      go true b (refused q) e z rest = absurd (late_numbered q ((tick_late recenter_settings fs slots m).by q e) z)
      go false b o e z rest = absurd (false≢true b)

-- ---- the theorems

-- Where the whole is accepted, every stated tick runs, none is refused, and alpha is that many steps from 1.
pub every_tick_runs : (sheet : List ℕ) (ticks : ℕ) (out : List ℕ) → recentered sheet ticks ≡ done out
    → let l = recenter_input sheet in
    ((step_answer l recenter_settings recenter_alpha_min ticks).ticks ≡ ticks)
    × ((step_answer l recenter_settings recenter_alpha_min ticks).refusal ≡ no_refusal)
    × (alpha_after_step l recenter_settings recenter_alpha_min ticks ≡ bits_of (cooled ticks 1·))
unfolding step_answer alpha_after_step
every_tick_runs sheet ticks out e =
    let l = recenter_input sheet in
    let a = accepted sheet ticks out e in
    let r = all_ran (forces l) (slots_of l.work) ticks 0 (entry_state l) mild_one a.unrefused in (
      ap (λ (o : Outcome TicksDone). if_done o (λ t. t.ticks) 0) a.is ∙ r.ticks ∙ omega arith,
      ap (λ (o : Outcome TicksDone). if_done o (λ t. t.stop) (refusal_of o)) a.is ∙ unstopped (ticks_run sheet ticks).stop (step_stop l recenter_settings recenter_alpha_min ticks (ticks_run sheet ticks) a.is) a.unrefused,
      ap (λ (o : Outcome TicksDone). if_done o (λ t. bits_of t.last.alpha) l.alpha) a.is ∙ ap bits_of r.alpha,
    )

-- No tick at all gives back the bytes that came in.
pub no_ticks_lem : (sheet : List ℕ) (out : List ℕ) → Bytes sheet → recentered sheet 0 ≡ done out → out ≡ sheet
unfolding ticks_from whole_records
no_ticks_lem sheet out b e =
    let l = recenter_input sheet in
    let a = accepted sheet 0 out e in
    let p = passed l 0 (tick_settings l recenter_settings ++ (recenter_alpha_min ∷ [])) a.checked in
    let whole = eqb-true (length sheet % record_size) 0 (require_true (eqb (length sheet % record_size) 0) 10 0 p.1) in
    sym a.left ∙ sheet_of-particles sheet b whole p.2

-- a step of too many ticks is refused, and however many they are by the same
too_many : (sheet : List ℕ) (n k : ℕ) → most_ticks < n → most_ticks < k → result sheet n ≡ result sheet k
unfolding step_result
too_many sheet n k hn hk =
    ap (λ (few : Bool). sheet_check l (require few 1 0) settings >>= λ _. done (ticks_run sheet n)) (lt-leb n most_ticks hn ∙ sym (lt-leb k most_ticks hk)) ∙ go (lent_check sheet k) refl
  where
    l : SheetInput
    l = recenter_input sheet

    settings : List Float
    settings = tick_settings l recenter_settings ++ (recenter_alpha_min ∷ [])

    go : (c : Check) → lent_check sheet k ≡ c → (c >>= λ _. done (ticks_run sheet n)) ≡ (c >>= λ _. done (ticks_run sheet k))
    go (done t) e = absurd (omega (arith, hk, (passed l k settings e).3))
    go (refused q) e = refl

-- A number of ticks may be cut at 4,097: that many and any more are refused alike.
pub cut_ticks : (sheet : List ℕ) (n : ℕ) → recentered sheet (min n most_asked) ≡ recentered sheet n
unfolding recentered
cut_ticks sheet n = ap (λ (o : Outcome TicksDone). whole_records sheet then count_check most_recentered (count_of sheet) >>= λ _. o >>= unless_stopped) (⊎_elim above below (lt_or_le most_asked n))
  where
    above : most_asked < n → result sheet (min n most_asked) ≡ result sheet n
    above h = ap (λ (k : ℕ). result sheet k) (min-eq_right (omega arith)) ∙ too_many sheet most_asked n (omega arith) (omega arith)

    below : n ≤ most_asked → result sheet (min n most_asked) ≡ result sheet n
    below h = ap (λ (k : ℕ). result sheet k) (min-eq_left h)
