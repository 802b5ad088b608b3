-- A force called alone, stated over any force f that changes velocities.
use mathlib.Core.Path.{◌≡◌, refl, sym, ap, ◌∙◌}
use mathlib.Core.Bool.{Bool, true, false, ◌&&◌, and-eq-true_iff}
use mathlib.Core.List.{List}
use Prim.Native.Nat.{ℕ, ◌+◌, ◌-◌, ◌*◌, ◌/◌, ◌%◌, ◌≤◌, ◌<◌}
use native.Mathlib.Omega.{arith}
use borrow.Author.Tests.{eq-eqb, ne_eqb, le-leb, lt-leb, eqb-true, leb-true}
use lib.Dec.{eqb, leb}
use lib.ListN.{length, drop, replicate, length-drop}
use lib.Ieee.{Float}
use Rattle.rules.specs.declared.Refusal.{Refusal}
use Rattle.rules.specs.declared.Counts.{Counts}
use Rattle.rules.specs.Plain.{zeros}
use Rattle.rules.specs.Outcome.{Outcome, done, refused, Check, fine, require, ◌then◌, ◌>>=◌, result_of}
use Rattle.rules.specs.Refusal.{most_particles, count_check, lengths_check, result_check}
use Rattle.rules.specs.Sheet.{pair_size}
use Rattle.rules.specs.Walk.{Counted, counted}
use Rattle.rules.specs.Flow.{Flow, flow}
use Rattle.rules.specs.ManyBody.{standard}
use Rattle.rules.specs.Force.{Push, push_counts, push_lengths, push_ends, run}
use Rattle.rules.specs.Calls.{ForceInput, slots_of, count, speeds, input_lengths, force_check, force_result, force_answer, buffer_after, lent_check, numbers_check}
use Rattle.rules.proofs.RefusalNumbers.{Early, early-stays}
use Rattle.sheet.specs.Columns.{put_pairs}
use Rattle.sheet.proofs.Columns.{put_beside}
use Rattle.std.proofs.Common.{Result, Ok, Err, IfOk}
use Rattle.std.specs.Prelude.{IfErr}
use Rattle.rules.specs.declared.Progress.{Progress}
use Rattle.rules.specs.Plain.{all}
use Rattle.rules.specs.Number.{within, finite}
use Rattle.force.specs.Draws.{came_to}
use Rattle.force.specs.Ran.{flow_at, IsLate}
use Rattle.force_call.specs.Calls.{no_counts, counts_of, stands_as, Settled, AfterForce}
use Rattle.list_checks.proofs.Checks.{then_both, require_true}

-- ---- lengths

module _ (n m k start : ℕ) where
  pub uneven : (n ≡ k * 2 → ⊥) → false ≡ eqb n (k * 2) && leb (start + k * pair_size) m
  uneven h = rw (ne_eqb n (k * 2) h)

  pub reaches-past : n ≡ k * 2 → m < start + k * pair_size → false ≡ eqb n (k * 2) && leb (start + k * pair_size) m
  reaches-past e h = rw (eq-eqb n (k * 2) e, lt-leb (start + k * pair_size) m h)

  pub agrees : n ≡ k * 2 → start + k * pair_size ≤ m → true ≡ eqb n (k * 2) && leb (start + k * pair_size) m
  agrees e h = rw (eq-eqb n (k * 2) e, le-leb (start + k * pair_size) m h)

-- ---- a force that has run

module _ (t : Result Progress Refusal) (vs : List Float) (start : ℕ) (buffer work : List ℕ) (r : Counts) (buffer' work' : List ℕ) (cleared : work' ≡ zeros work) where
  pub settled_refused : (q : Refusal) → t ≡ Err q → r ≡ no_counts q → buffer' ≡ buffer → Settled t vs start buffer work r buffer' work'
  settled_refused q e er eb = record { answer = er ∙ rw e; bytes = eb ∙ rw e; slots = cleared }

  pub settled_done : (p : Progress) → t ≡ Ok p → r ≡ counts_of (Ok p) → buffer' ≡ put_pairs pair_size buffer start vs → length vs % 2 ≡ 0
      → start + length vs / 2 * pair_size ≤ length buffer → Settled t vs start buffer work r buffer' work'
  settled_done p e er eb even room =
      record {
        answer = er ∙ rw e;
        bytes = eb ∙ put_beside (length vs / 2) buffer start vs (omega arith) room ∙ rw e;
        slots = cleared;
      }

-- a force that builds a tree hands on as many work slots as it was lent
pub settled_slots : {t : Result Progress Refusal} {vs : List Float} {start : ℕ} {buffer m work : List ℕ} {r : Counts} {buffer' work' : List ℕ} → length m ≡ length work
    → Settled t vs start buffer m r buffer' work' → Settled t vs start buffer work r buffer' work'
settled_slots e s = record { answer = s.answer; bytes = s.bytes; slots = s.slots ∙ ap (λ (n : ℕ). replicate n 0) e }

-- what is said of a force that ended so is said of it once 9 is tested
pub stands_ok : (places vs : List Float) (ran : Result Progress Refusal) (P : Progress → Type 0) → IfOk ran P → IfOk (stands_as places vs ran) P
stands_ok places vs (Ok p) P h = go (result_check places vs)
  where
    go : (c : Check) → IfOk (result_of (c >>= λ _. done p)) P
    go (done t) = h
    go (refused q) = tt
stands_ok places vs (Err q) P h = tt

pub stands_late : (places vs : List Float) (ran : Result Progress Refusal) → IfErr ran IsLate → IfErr (stands_as places vs ran) IsLate
unfolding result_check
stands_late places vs (Ok p) h = go (all within places && all finite vs)
  where
    go : (ok : Bool) → IfErr (result_of (require ok 9 0 >>= λ _. done p)) IsLate
    go true = tt
    go false = refl
stands_late places vs (Err q) h = h

-- ---- the outcome of a call, check by check

-- what is left once 1 to 5 are past: f runs on the velocities vs, and 9 is tested
abbrev rest : ForceInput → Push → Float → List Float → Outcome (Counted Flow)
rest l f alpha vs =
    run standard f l.places alpha (slots_of l.work) (counted (flow vs l.draws) 0) >>= λ m. result_check l.places m.state.speeds >>= λ _. done m

-- the outcome, given what 1, 2 and 3 say
abbrev after : ForceInput → Push → Float → Check → Outcome (Counted Flow)
after l f alpha c = c then numbers_check l.places (speeds l) f l.draws alpha >>= λ _. rest l f alpha (speeds l)

module _ (l : ForceInput) (f : Push) (w : Bool) (alpha : Float) where
  result-is : force_result l f w alpha ≡ after l f alpha (lent_check l f w)
  unfolding force_result force_check
  result-is = refl

  -- 1, 2 or 3
  pub result-lent : (q : Refusal) → lent_check l f w ≡ refused q → force_result l f w alpha ≡ refused q
  result-lent q e = result-is ∙ ap (after l f alpha) e

  module _ (e : lent_check l f w ≡ fine) (vs : List Float) (is : vs ≡ speeds l) where
    past-lent : force_result l f w alpha ≡ numbers_check l.places vs f l.draws alpha >>= λ _. rest l f alpha vs
    past-lent =
        result-is
        ∙ ap (after l f alpha) e
        ∙ ap (λ (v : List Float). numbers_check l.places v f l.draws alpha >>= λ _. rest l f alpha v) (sym is)

    -- 4 or 5
    pub result-numbers : (q : Refusal) → numbers_check l.places vs f l.draws alpha ≡ refused q → force_result l f w alpha ≡ refused q
    result-numbers q h = past-lent ∙ ap (λ (c : Check). c >>= λ _. rest l f alpha vs) h

    -- none of them: the force ran, and left the velocities vs'
    pub result-ran : numbers_check l.places vs f l.draws alpha ≡ fine → (vs' : List Float) (ran : Result Progress Refusal)
        → came_to ran (λ q. flow_at vs' l.draws q) ≡ run standard f l.places alpha (slots_of l.work) (counted (flow vs l.draws) 0)
        → force_result l f w alpha ≡ came_to (stands_as l.places vs' ran) (λ q. flow_at vs' l.draws q)
    result-ran h vs' ran r =
        past-lent
        ∙ ap (λ (c : Check). c >>= λ _. rest l f alpha vs) h
        ∙ ap (λ (o : Outcome (Counted Flow)). o >>= λ m. result_check l.places m.state.speeds >>= λ _. done m) (sym r)
        ∙ go ran
      where
        tested : (q : Progress) (c : Check) → (c >>= λ _. done (flow_at vs' l.draws q)) ≡ came_to (result_of (c >>= λ _. done q)) (λ q. flow_at vs' l.draws q)
        tested q (done t) = refl
        tested q (refused e) = refl

        go : (ran : Result Progress Refusal)
            → came_to ran (λ q. flow_at vs' l.draws q) >>= (λ m. result_check l.places m.state.speeds >>= λ _. done m)
            ≡ came_to (stands_as l.places vs' ran) (λ q. flow_at vs' l.draws q)
        go (Ok q) = tested q (result_check l.places vs')
        go (Err q) = refl

-- ---- answers

pub answered_refused : (l : ForceInput) (o : Outcome (Counted Flow)) (q : Refusal) (r : Counts) → o ≡ refused q → Early q → r ≡ no_counts q
    → AfterForce l o r l.buffer l.work
unfolding force_answer buffer_after
answered_refused l o q r e h er = record { answer = er ∙ rw e; bytes = rw e; slots = rw (e, early-stays q h) }

-- the force stands, or is refused, and was settled
pub answered_ran : (l : ForceInput) (o : Outcome (Counted Flow)) (t : Result Progress Refusal) (vs : List Float) (r : Counts) (buffer' work' : List ℕ)
    → o ≡ came_to t (λ q. flow_at vs l.draws q) → IfOk t (λ q. q.used ≤ length l.draws) → IfErr t IsLate
    → Settled t vs l.start l.buffer l.work r buffer' work' → AfterForce l o r buffer' work'
unfolding force_answer buffer_after
answered_ran l o (Ok q) vs r buffer' work' e h z s =
    let used : length l.draws - length (drop q.used l.draws) ≡ q.used = simp length-drop (omega arith) in
    record { answer = s.answer ∙ rw (e, used); bytes = s.bytes ∙ rw e; slots = s.slots ∙ rw e }
answered_ran l o (Err q) vs r buffer' work' e h z s = record { answer = s.answer ∙ rw e; bytes = s.bytes ∙ rw e; slots = s.slots ∙ rw (e, z) }

-- ---- what 1, 2 and 3 let pass

-- everything that they say
pub record Lent (l : ForceInput) (f : Push) (w : Bool) : Type 0 where
  pub few : count l ≤ most_particles
  pub counts : push_counts f ≡ fine
  pub pairs : length l.places ≡ count l * 2
  pub reach : l.start + count l * pair_size ≤ length l.buffer
  pub whole : w ≡ true
  pub lengths : push_lengths (count l) f ≡ true
  pub ends : push_ends (count l) f ≡ fine

pub lent-all : (l : ForceInput) (f : Push) (w : Bool) → lent_check l f w ≡ fine → Lent l f w
lent-all l f w h =
    let a = then_both (count_check most_particles (count l) then push_counts f then lengths_check (input_lengths l && w && push_lengths (count l) f)) (push_ends (count l) f) h in
    let b = then_both (count_check most_particles (count l) then push_counts f) (lengths_check (input_lengths l && w && push_lengths (count l) f)) a.0 in
    let c = then_both (count_check most_particles (count l)) (push_counts f) b.0 in
    let d = (and-eq-true_iff (input_lengths l && w) (push_lengths (count l) f)).0 (require_true _ 2 0 b.1) in
    let e = (and-eq-true_iff (input_lengths l) w).0 d.0 in
    let i = (and-eq-true_iff (eqb (length l.places) (count l * 2)) (leb (l.start + count l * pair_size) (length l.buffer))).0 e.0 in
    record {
      few = leb-true (count l) most_particles (require_true _ 1 0 c.0);
      counts = c.1;
      pairs = eqb-true (length l.places) (count l * 2) i.0;
      reach = leb-true (l.start + count l * pair_size) (length l.buffer) i.1;
      whole = e.1;
      lengths = d.1;
      ends = a.1;
    }

-- ---- the same call on the part of the buffer alone
