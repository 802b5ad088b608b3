-- A stage of a tick by columns: a force that pushes, and Center.
use mathlib.Core.Path.{◌≡◌, refl, sym, ap, ap₂, ◌∙◌}
use mathlib.Core.Bool.{Bool, true, false, ◌&&◌}
use mathlib.Core.List.{List, [], ◌∷◌, map}
use Prim.Native.Nat.{ℕ, zero, suc, ◌+◌, ◌*◌, ◌≤◌}
use native.Mathlib.Omega.{arith}
use lib.ListN.{length, drop}
use lib.Ieee.{Float, nan}
use Rattle.rules.specs.declared.Particle.{Particle}
use Rattle.rules.specs.declared.Progress.{Progress}
use Rattle.rules.specs.declared.Tuning.{Tuning}
use Rattle.rules.specs.Plain.{all, count_from}
use Rattle.rules.specs.Outcome.{Outcome, done, refused, require, ◌>>=◌, result_of, if_done}
use Rattle.rules.specs.Particle.{centered, closing}
use Rattle.rules.specs.Number.{within, finite}
use Rattle.rules.specs.Refusal.{result_check}
use Rattle.rules.specs.Sheet.{places_of, speeds_of}
use Rattle.rules.specs.Walk.{Counted, counted}
use Rattle.rules.specs.Flow.{Flow, flow}
use Rattle.rules.specs.Force.{Push, run}
use Rattle.rules.specs.Tick.{State, state, if_in_range, with_speeds, push_stage, center, force_stage}
use Rattle.sheet.specs.Columns.{flags_of}
use Rattle.sheet.proofs.PairLists.{pair-off}
use Rattle.std.proofs.Common.{Result, Ok, Err}
use Rattle.rules.specs.declared.Refusal.{Refusal}
use Rattle.force.specs.Ran.{flow_at, Onward, IsLate, RanAs, visited}
use Rattle.closing.specs.Columns.{particle_at, particles_from}
use Rattle.center.proofs.Centring.{center_speeds}
use Rattle.closing.proofs.Closing.{places-back, speeds-back, flags_back}
use Rattle.tick_columns.specs.Stage.{Columns, columns, ColumnsFit, state_of, ranged_to, Stages}
use Rattle.tick_columns.proofs.Flags.{centered_flags, closing_flags, columns_of}

-- ---- particles from columns

module _ (places speeds vs : List Float) (flags : List ℕ) where
  with_none : (l : List Float) → with_speeds l [] ≡ []
  with_none [] = refl
  with_none (x ∷ []) = refl
  with_none (x ∷ y ∷ l) = refl

  speeds-from : (i k : ℕ) → length vs ≡ (i + k) * 2 → with_speeds (drop (i * 2) vs) (map (particle_at places speeds flags) (count_from i k)) ≡ map (particle_at places vs flags) (count_from i k)
  speeds-from i zero e = with_none (drop (i * 2) vs)
  speeds-from i (suc k) e = rw (pair-off vs i nan (omega arith), speeds-from (i + 1) k (omega arith))

  -- other velocities are another column
  pub speeds-set : length vs ≡ length flags * 2 → with_speeds vs (particles_from places speeds flags) ≡ particles_from places vs flags
  unfolding particles_from
  speeds-set e = speeds-from 0 (length flags) (omega arith)

-- ---- 9 after what a stage came to

-- the particles' own test is that of their columns
module _ (places speeds : List Float) (flags : List ℕ) (p : length places ≡ length flags * 2) (v : length speeds ≡ length flags * 2) where
  in_range-is : (m : State) → (result_check places speeds >>= λ _. done (state (particles_from places speeds flags) m.alpha m.draws m.visits)) ≡ if_in_range (particles_from places speeds flags) m
  in_range-is m = rw (places-back places speeds flags p, speeds-back places speeds flags v)

-- 9 was tested where a stage that began at `at` has come to q
pub ranged_stages : (k : Columns) (ds : List Float) (at q : Progress) (most : ℕ) (r : Result Progress Refusal) {o : Outcome State} → Onward ds at q → q.visits ≤ most
    → r ≡ ranged_to k.places k.speeds q → (result_check k.places k.speeds >>= λ _. done (state_of k ds q)) ≡ o → Stages k ds at most r o
unfolding result_check
ranged_stages k ds at q most r {o} on few e is = rw e (go (all within k.places) (all finite k.speeds) refl is)
  where
    go : (a b : Bool) → all within k.places ≡ a → (require (a && b) 9 0 >>= λ _. done (state_of k ds q)) ≡ o → Stages k ds at most (result_of (require (a && b) 9 0 >>= λ _. done q)) o
    go true true w h = record { is = h; onward = on; few = few; ranged = w; late = tt }
    go true false w h = record { is = h; onward = tt; few = tt; ranged = tt; late = refl }
    go false b w h = record { is = h; onward = tt; few = tt; ranged = tt; late = refl }

-- a stage that was refused
pub refused_stages : (k : Columns) (ds : List Float) (at : Progress) (most : ℕ) (q : Refusal) {o : Outcome State} → IsLate q → refused q ≡ o → Stages k ds at most (Err q) o
refused_stages k ds at most q l is = record { is = is; onward = tt; few = tt; ranged = tt; late = l }

-- a force that hands out no node answers the visits that it was handed
pub visits_kept : (vs ds : List Float) (q : Progress) (visits : ℕ) (o : Outcome Flow) → done (flow_at vs ds q) ≡ visited visits o → q.visits ≤ visits
visits_kept vs ds q visits (done σ) e = omega (arith, ap (λ (o : Outcome (Counted Flow)). if_done o (λ m. m.visits) 0) e)
visits_kept vs ds q visits (refused r) e = let h : ◌≡◌ {A = ℕ} 0 1 = cc in absurd (omega arith)

-- a force f ran, and left the velocities vs
module _ (places speeds vs ds : List Float) (flags : List ℕ) (p : length places ≡ length flags * 2) (v : length speeds ≡ length flags * 2) (w : length vs ≡ length flags * 2) (t : Tuning) (f : Push) (slots : ℕ) (at : Progress) where
  abbrev ps : List Particle
  ps = particles_from places speeds flags

  abbrev after : Counted Flow → Outcome State
  after r = if_in_range (with_speeds r.state.speeds ps) (state ps at.alpha r.state.draws r.visits)

  abbrev pushed : Outcome (Counted Flow) → Outcome State
  pushed o = o >>= λ r. after r

  pushed-as : pushed (run t f places at.alpha slots (flow_at speeds ds at)) ≡ push_stage t slots f (state_of (columns places speeds flags) ds at)
  unfolding push_stage
  pushed-as = sym (ap₂ (λ (a b : List Float). run t f a at.alpha slots (counted (flow b (drop at.used ds)) at.visits) >>= λ r. after r) (places-back places speeds flags p) (speeds-back places speeds flags v))

  -- it was refused
  pub pushed-refused : (most : ℕ) (q : Refusal) → RanAs vs ds at (Err q) (run t f places at.alpha slots (flow_at speeds ds at))
      → Stages (columns places vs flags) ds at most (Err q) (push_stage t slots f (state_of (columns places speeds flags) ds at))
  pushed-refused most q ran = refused_stages (columns places vs flags) ds at most q ran.late (ap pushed ran.is ∙ pushed-as)

  -- it came to q, and 9 was tested
  pub pushed-stages : (most : ℕ) (q : Progress) (r : Result Progress Refusal) → q.visits ≤ most → RanAs vs ds at (Ok q) (run t f places at.alpha slots (flow_at speeds ds at)) → r ≡ ranged_to places vs q
      → Stages (columns places vs flags) ds at most r (push_stage t slots f (state_of (columns places speeds flags) ds at))
  pushed-stages most q r few ran e =
      ranged_stages (columns places vs flags) ds at q most r ran.onward few e
      (in_range-is places vs flags p w (state_of (columns places vs flags) ds q)
      ∙ ap₂ (λ (qs : List Particle) (a : Float). if_in_range qs (state ps a (drop q.used ds) q.visits)) (sym (speeds-set places speeds vs flags w)) ran.onward.alpha
      ∙ ap pushed ran.is
      ∙ pushed-as)

-- ---- 9 alone, where no force pushed

-- the particles ps became qs, whose columns these are; the stage began at `at` and came to p
moved_stages : (places speeds ds : List Float) (flags : List ℕ) (at p : Progress) (most : ℕ) (ps qs : List Particle) (r : Result Progress Refusal)
    → length places ≡ length flags * 2 → length speeds ≡ length flags * 2 → Onward ds at p → p.visits ≤ most
    → particles_from places speeds flags ≡ qs → r ≡ ranged_to places speeds p
    → Stages (columns places speeds flags) ds at most r (if_in_range qs (state ps p.alpha (drop p.used ds) p.visits))
moved_stages places speeds ds flags at p most ps qs r l v on few is e =
    ranged_stages (columns places speeds flags) ds at p most r on few e
    (in_range-is places speeds flags l v (state ps p.alpha (drop p.used ds) p.visits)
    ∙ ap (λ (qs : List Particle). if_in_range qs (state ps p.alpha (drop p.used ds) p.visits)) is)

-- Center moved the places to `to`
pub centered-stages : (places to speeds ds : List Float) (flags : List ℕ) (x y strength : Float) (t : Tuning) (slots : ℕ) (at : Progress) (most : ℕ) (r : Result Progress Refusal)
    → length places ≡ length flags * 2 → length speeds ≡ length flags * 2 → length to ≡ length places → at.used ≤ length ds → at.visits ≤ most
    → ((ps : List Particle) → places_of ps ≡ places → to ≡ places_of (centered x y strength ps)) → r ≡ ranged_to to speeds at
    → Stages (columns to speeds flags) ds at most r (force_stage t slots (state_of (columns places speeds flags) ds at) (center x y strength))
centered-stages places to speeds ds flags x y strength t slots at most r p v k d few moves e =
    moved_stages to speeds ds flags at at most ps (centered x y strength ps) r (k ∙ p) v (record { alpha = refl; draws = record { begun = omega arith; reach = d } }) few
    (columns_of (centered x y strength ps) to speeds flags (sym (moves ps (places-back places speeds flags p))) (center_speeds x y strength ps ∙ speeds-back places speeds flags v)
    (centered_flags x y strength ps ∙ flags_back places speeds flags))
    e
  where
    ps : List Particle
    ps = particles_from places speeds flags

-- the closing move changed the columns to `to` and vs, from a stage that began at `at` and came to p
pub closed-stages : (home places speeds to vs ds : List Float) (flags : List ℕ) (decay : Float) (at p : Progress) (most : ℕ) (r : Result Progress Refusal)
    → length home ≡ length flags * 2 → length to ≡ length flags * 2 → length vs ≡ length flags * 2 → Onward ds at p → p.visits ≤ most
    → to ≡ places_of (closing decay home (particles_from places speeds flags)) → vs ≡ speeds_of (closing decay home (particles_from places speeds flags)) → r ≡ ranged_to to vs p
    → Stages (columns to vs flags) ds at most r (if_in_range (closing decay home (particles_from places speeds flags)) (state_of (columns places speeds flags) ds p))
closed-stages home places speeds to vs ds flags decay at p most r h l v on few ea ev e =
    moved_stages to vs ds flags at p most ps qs r l v on few (columns_of qs to vs flags (sym ea) (sym ev) kept) e
  where
    ps : List Particle
    ps = particles_from places speeds flags

    qs : List Particle
    qs = closing decay home ps

    kept : flags_of qs ≡ flags
    kept = closing_flags decay home ps (h ∙ ap (λ (l : List ℕ). length l * 2) (sym (flags_back places speeds flags))) ∙ flags_back places speeds flags

-- ---- no force

pub idle-stages : (places speeds ds : List Float) (flags : List ℕ) (n : ℕ) (at : Progress) (most : ℕ) (o : Outcome State)
    → ColumnsFit places speeds ds n at.used → at.visits ≤ most → done (state_of (columns places speeds flags) ds at) ≡ o
    → Stages (columns places speeds flags) ds at most (Ok at) o
idle-stages places speeds ds flags n at most o h few is =
    record {
      is = is;
      onward = record { alpha = refl; draws = record { begun = omega arith; reach = h.drawn } };
      few = few;
      ranged = h.ranged;
      late = tt;
    }
