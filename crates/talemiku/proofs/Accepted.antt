-- The outcomes of a force's call, of a tick and of a step, taken apart: what it is that they accept. Assumes nothing.
use mathlib.Core.Path.{◌≡◌, refl, sym, ap, ◌∙◌}
use mathlib.Core.Bool.{Bool, true, and-eq-true_iff}
use mathlib.Core.List.{List}
use Prim.Native.Nat.{ℕ}
use native.Mathlib.Omega.{arith}
use lib.Ieee.{Float}
use Rattle.rules.specs.declared.Refusal.{Refusal}
use Rattle.rules.specs.declared.Settings.{Settings}
use Rattle.rules.specs.declared.Counts.{Counts}
use Rattle.rules.specs.Outcome.{Outcome, done, refused, Check, fine, ◌then◌, ◌>>=◌, check_each, refusal_of}
use Rattle.rules.specs.Number.{within, x_at, y_at}
use Rattle.rules.specs.Refusal.{most_particles, count_check, lengths_check, draws_check, settings_check, result_check}
use Rattle.rules.specs.Sheet.{whole_records, particles_of, records_check}
use Rattle.rules.specs.Tree.{tree_check}
use Rattle.rules.specs.Walk.{Counted, counted}
use Rattle.rules.specs.Flow.{Flow, flow}
use Rattle.rules.specs.ManyBody.{standard}
use Rattle.rules.specs.Force.{Push, push_lengths, run}
use Rattle.rules.specs.Calls as Calls
use Rattle.rules.specs.Calls.{slots_of, ForceInput, speeds, lent_check, numbers_check, force_check, force_result, force_answer}
use Rattle.rules.specs.Tick.{SheetInput, count, entries, forces, entry_counts, force_ends, force_ranges, tick_lengths, sheet_check, State, tick, entry_state, tick_settings, tick_result, tick_answer}
use Rattle.rules.specs.Terms.{NotOfTree}
use Rattle.rules.proofs.RefusalLaws.{Refuses, done_of, of_answer}
use Rattle.rules.proofs.Places.{force_refuses, tick_refuses, early_numbered, late_numbered}
use Rattle.tree_cells.proofs.Prefix.{InRange}
use Rattle.tree_cells.proofs.WholeTree.{building, ruled-exactly, earliest}
use Rattle.list_checks.proofs.Checks.{then_both}
use Rattle.force_call.specs.Calls.{AfterForce}
use Rattle.force_call.proofs.Called.{lent-all}
use Rattle.force_call.proofs.Ranged.{places-within}
use Rattle.tick_call.specs.Tick.{AfterTick}
use Rattle.talemiku.specs.Told.{TreeRefused}

-- ---- a force's call

-- what its checks let pass: lists of the right lengths, and places in range
pub record Checked (l : ForceInput) (f : Push) : Type 0 where
  pub lengths : push_lengths (Calls.count l) f ≡ true
  pub ranged : InRange l.places (Calls.count l)

-- it ran on these, and its counts are those of the run
pub record ForceRan (l : ForceInput) (f : Push) (alpha : Float) (r : Counts) : Type 0 where
  pub checked : Checked l f
  pub last : Counted Flow
  pub run : run standard f l.places alpha (slots_of l.work) (counted (flow (speeds l) l.draws) 0) ≡ done last
  pub visits : r.visits ≡ last.visits

module _ (l : ForceInput) (f : Push) (whole_ends : Bool) (alpha : Float) where
  pub checked : force_check l f whole_ends alpha ≡ fine → Checked l f
  unfolding force_check
  checked h =
      let a = then_both (lent_check l f whole_ends) (numbers_check l.places (speeds l) f l.draws alpha) h in
      record {
        lengths = (lent-all l f whole_ends a.0).lengths;
        ranged = λ i k. (and-eq-true_iff (within (x_at l.places i)) (within (y_at l.places i))).1 (places-within l f (speeds l) l.draws alpha a.1 i k);
      }

  force_done : (r : Counts) (m : Counted Flow) → force_result l f whole_ends alpha ≡ done m → r ≡ force_answer l (force_result l f whole_ends alpha) → ForceRan l f alpha r
  unfolding force_result force_answer
  force_done r m e h = go (force_check l f whole_ends alpha) (run standard f l.places alpha (slots_of l.work) (counted (flow (speeds l) l.draws) 0)) refl refl e (ap (λ (r : Counts). r.visits) h ∙ rw e)
    where
      go : (c : Check) (o : Outcome (Counted Flow)) → force_check l f whole_ends alpha ≡ c → run standard f l.places alpha (slots_of l.work) (counted (flow (speeds l) l.draws) 0) ≡ o
          → (c >>= λ _. o >>= λ m. result_check l.places m.state.speeds >>= λ _. done m) ≡ done m → r.visits ≡ m.visits → ForceRan l f alpha r
      go (done u) (done k) p q e v = record { checked = checked p; last = k; run = q; visits = v ∙ ap (λ (m : Counted Flow). m.visits) (sym (kept (result_check l.places k.state.speeds) e)) }
        where
          kept : (c : Check) → (c >>= λ _. done k) ≡ done m → k ≡ m
          kept (done u) e = cc
          kept (refused r) e = absurd (let z : ◌≡◌ {A = ℕ} 0 1 = cc in omega arith)
      go (done u) (refused r) p q e v = absurd (let z : ◌≡◌ {A = ℕ} 0 1 = cc in omega arith)
      go (refused r) o p q e v = absurd (let z : ◌≡◌ {A = ℕ} 0 1 = cc in omega arith)

  -- answered 0
  pub force_ran : {r : Counts} {buffer work : List ℕ} → AfterForce l (force_result l f whole_ends alpha) r buffer work → r.refusal.number ≡ 0 → ForceRan l f alpha r
  unfolding force_answer
  force_ran {r} a z =
      let (m, e) = done_of (force_result l f whole_ends alpha) (force_refuses early_numbered late_numbered l f whole_ends alpha) (sym (ap (λ (r : Counts). r.refusal.number) a.answer) ∙ z) in
      force_done r m e a.answer

-- a force of k = n particles that refuses as building its tree does, and where that is fine by neither 6 nor 7
pub force_refuses_tree : (l : ForceInput) {r : Counts} {buffer work : List ℕ} (o : Outcome (Counted Flow)) (k : ℕ) → AfterForce l o r buffer work → InRange l.places (Calls.count l) → k ≡ Calls.count l
    → ((q : Refusal) → tree_check l.places k (slots_of l.work) ≡ refused q → o ≡ refused q) × (tree_check l.places k (slots_of l.work) ≡ fine → Refuses NotOfTree o)
    → TreeRefused l.places (Calls.count l) (slots_of l.work) r.refusal
unfolding force_answer
force_refuses_tree l {r} o k a ranged e b =
    let is : r.refusal ≡ refusal_of o = ap (λ (r : Counts). r.refusal) a.answer in
    let same = ap (λ (k : ℕ). tree_check l.places k (slots_of l.work)) e in
    let w = building l.places (Calls.count l) (slots_of l.work) ranged r.refusal (λ q g. is ∙ ap refusal_of (b.0 q (same ∙ g))) (λ g. rw is (of_answer (omega arith) (b.1 (same ∙ g)))) in
    record { exactly = ruled-exactly l.places (Calls.count l) (slots_of l.work) w; earliest = earliest l.places (Calls.count l) (slots_of l.work) w }

-- ---- a tick and a step

module _ (l : SheetInput) where
  -- the counts of all slots are within the limits
  pub entries-fine : (ticks : Check) (settings : List Float) → sheet_check l ticks settings ≡ fine → check_each (λ _ e. entry_counts e) (entries l) ≡ fine
  unfolding sheet_check
  entries-fine ticks settings h =
      let counts = whole_records l.sheet then count_check most_particles (count l) then ticks in
      let slots = check_each (λ _ e. entry_counts e) (entries l) in
      let ends = check_each (λ _ f. force_ends (count l) f) (forces l) in
      let records = records_check (particles_of l.sheet) in
      let ranges = check_each (λ _ f. force_ranges f) (forces l) in
      let a = then_both (counts then slots then lengths_check (tick_lengths l) then ends then records then ranges then draws_check l.draws) (settings_check settings) h in
      let b = then_both (counts then slots then lengths_check (tick_lengths l) then ends then records then ranges) (draws_check l.draws) a.0 in
      let c = then_both (counts then slots then lengths_check (tick_lengths l) then ends then records) ranges b.0 in
      let d = then_both (counts then slots then lengths_check (tick_lengths l) then ends) records c.0 in
      let e = then_both (counts then slots then lengths_check (tick_lengths l)) ends d.0 in
      let f = then_both (counts then slots) (lengths_check (tick_lengths l)) e.0 in
      (then_both counts slots f.0).1

  -- a tick that ran, with its counts
  pub record TickRan (s : Settings) (r : Counts) : Type 0 where
    pub input : sheet_check l fine (tick_settings l s) ≡ fine
    pub last : State
    pub run : tick s (forces l) (slots_of l.work) (entry_state l) ≡ done last
    pub visits : r.visits ≡ last.visits

  tick_done : (s : Settings) (r : Counts) (m : State) → tick_result l s ≡ done m → r ≡ tick_answer l s → TickRan s r
  unfolding tick_result tick_answer
  tick_done s r m e h = go (sheet_check l fine (tick_settings l s)) refl e (ap (λ (r : Counts). r.visits) h ∙ rw e)
    where
      go : (c : Check) → sheet_check l fine (tick_settings l s) ≡ c → (c >>= λ _. tick s (forces l) (slots_of l.work) (entry_state l)) ≡ done m → r.visits ≡ m.visits → TickRan s r
      go (done u) p e v = record { input = p; last = m; run = e; visits = v }
      go (refused r) p e v = absurd (let z : ◌≡◌ {A = ℕ} 0 1 = cc in omega arith)

  -- answered 0
  pub tick_ran : {s : Settings} {r : Counts} {sheet : List ℕ} {alpha : ℕ} {work : List ℕ} → AfterTick l s r sheet alpha work → r.refusal.number ≡ 0 → TickRan s r
  unfolding tick_answer
  tick_ran {s} {r} a z =
      let (m, e) = done_of (tick_result l s) (tick_refuses early_numbered late_numbered l s) (sym (ap (λ (r : Counts). r.refusal.number) a.answer) ∙ z) in
      tick_done s r m e a.answer
