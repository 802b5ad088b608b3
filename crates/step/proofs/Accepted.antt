-- An accepted tick leaves a state that passes 4 and 5, so that a tick may follow it: theorems over the rules alone.
use mathlib.Core.Path.{◌≡◌, refl, sym, ap, ◌∙◌}
use mathlib.Core.Bool.{Bool, true, false, ◌&&◌}
use mathlib.Core.List.{List, [], ◌∷◌}
use Prim.Native.Nat.{ℕ, zero, suc, ◌+◌, ◌*◌}
use native.Mathlib.Omega.{arith}
use lib.Dec.{leb}
use lib.ListN.{length}
use lib.Ieee.{Float, lt}
use Rattle.rules.specs.declared.Particle.{Particle}
use Rattle.rules.specs.declared.Settings.{Settings}
use Rattle.rules.specs.declared.Tuning.{Tuning}
use Rattle.rules.specs.Plain.{all, branch}
use Rattle.rules.specs.Outcome.{Outcome, done, refused, no_refusal, Check, fine, require, ◌>>=◌, fold_stages, if_done}
use Rattle.rules.specs.Number.{within, finite}
use Rattle.rules.specs.Refusal.{alpha_check, result_check}
use Rattle.rules.specs.Sheet.{places_of, speeds_of, records_check}
use Rattle.rules.specs.Walk.{Counted, counted}
use Rattle.rules.specs.Flow.{Flow, flow}
use Rattle.rules.specs.Force.{run}
use Rattle.rules.specs.Particle.{centered, closing}
use Rattle.rules.specs.Tick.{State, state, Force, empty, push, center, unknown, next_alpha, alpha_stage, if_in_range, with_speeds, push_stage, force_stage, tick_home, tick, ticks_done, onward, ticks_from}
use Rattle.sheet.specs.Columns.{flags_of}
use Rattle.sheet.proofs.Checked.{records-sound, sound-records}
use Rattle.tick_columns.proofs.Flags.{places_flags, pushed_flags, centered_flags, closing_flags}

-- ---- a stage that refuses nothing

same_done : {A : Type 0} {a b : A} → done a ≡ done b → a ≡ b
same_done {a = a} e = ap (λ (o : Outcome _). if_done o (λ x. x) a) e

-- what if_in_range leaves
record InRange (qs : List Particle) (m n : State) : Type 0 where
  particles : n.particles ≡ qs
  alpha : n.alpha ≡ m.alpha
  places : all within (places_of qs) ≡ true
  speeds : all finite (speeds_of qs) ≡ true

in_range : (qs : List Particle) (m n : State) → if_in_range qs m ≡ done n → InRange qs m n
unfolding result_check
in_range qs m n e = go (all within (places_of qs)) (all finite (speeds_of qs)) refl refl e
  where
    go : (a b : Bool) → all within (places_of qs) ≡ a → all finite (speeds_of qs) ≡ b
        → (require (a && b) 9 0 >>= λ _. done (state qs m.alpha m.draws m.visits)) ≡ done n → InRange qs m n
    go true true p v e =
        let k = same_done e in
        record { particles = sym (ap (λ (n : State). n.particles) k); alpha = sym (ap (λ (n : State). n.alpha) k); places = p; speeds = v }
    go true false p v e = absurd (let z : ◌≡◌ {A = ℕ} 0 1 = cc in omega arith)
    go false b p v e = absurd (let z : ◌≡◌ {A = ℕ} 0 1 = cc in omega arith)

-- a state with the flags and the alpha of another
record Keeps (m n : State) : Type 0 where
  flags : flags_of n.particles ≡ flags_of m.particles
  alpha : n.alpha ≡ m.alpha

keeps_in_range : (qs : List Particle) (m k n : State) → if_in_range qs k ≡ done n → flags_of qs ≡ flags_of m.particles → k.alpha ≡ m.alpha → Keeps m n
keeps_in_range qs m k n e f a = let h = in_range qs k n e in record { flags = ap flags_of h.particles ∙ f; alpha = h.alpha ∙ a }

keeps_same : {m n : State} → done m ≡ done n → Keeps m n
keeps_same e = let k = same_done e in record { flags = ap (λ (n : State). flags_of n.particles) (sym k); alpha = ap (λ (n : State). n.alpha) (sym k) }

-- a force changes no flag and no alpha
keeps_stage : (t : Tuning) (slots : ℕ) (m n : State) (f : Force) → force_stage t slots m f ≡ done n → Keeps m n
unfolding push_stage
keeps_stage t slots m n empty e = keeps_same e
keeps_stage t slots m n unknown e = keeps_same e
keeps_stage t slots m n (center x y strength) e = keeps_in_range (centered x y strength m.particles) m m n e (centered_flags x y strength m.particles) refl
keeps_stage t slots m n (push f) e = go (run t f (places_of ps) m.alpha slots (counted (flow (speeds_of ps) m.draws) m.visits)) e
  where
    ps : List Particle
    ps = m.particles

    go : (o : Outcome (Counted Flow)) → (o >>= λ r. if_in_range (with_speeds r.state.speeds ps) (state ps m.alpha r.state.draws r.visits)) ≡ done n → Keeps m n
    go (done r) e = keeps_in_range (with_speeds r.state.speeds ps) m (state ps m.alpha r.state.draws r.visits) n e (pushed_flags r.state.speeds ps) refl
    go (refused q) e = absurd (let z : ◌≡◌ {A = ℕ} 0 1 = cc in omega arith)

-- and neither do all of them
keeps_all : (t : Tuning) (slots : ℕ) (fs : List Force) (m n : State) → fold_stages (force_stage t slots) m fs ≡ done n → Keeps m n
keeps_all t slots [] m n e = keeps_same e
keeps_all t slots (f ∷ fs) m n e = go (force_stage t slots m f) refl e (λ k. keeps_all t slots fs k n)
  where
    go : (o : Outcome State) → force_stage t slots m f ≡ o → (o >>= λ k. fold_stages (force_stage t slots) k fs) ≡ done n
        → ((k : State) → fold_stages (force_stage t slots) k fs ≡ done n → Keeps k n) → Keeps m n
    go (done k) h e rest =
        let a = keeps_stage t slots m k f h in
        let b = rest k e in
        record { flags = b.flags ∙ a.flags; alpha = b.alpha ∙ a.alpha }
    go (refused q) h e rest = absurd (let z : ◌≡◌ {A = ℕ} 0 1 = cc in omega arith)

-- ---- an accepted tick

-- what it leaves
record Leaves (m n : State) : Type 0 where
  flags : flags_of n.particles ≡ flags_of m.particles
  same : n.alpha ≡ m.alpha
  alpha : within n.alpha ≡ true
  places : all within (places_of n.particles) ≡ true
  speeds : all finite (speeds_of n.particles) ≡ true

leaves-stages : (t : Tuning) (decay : Float) (home : List Float) (fs : List Force) (slots : ℕ) (m n : State) → length home ≡ length (flags_of m.particles) * 2
    → (alpha_check m.alpha >>= λ _. fold_stages (force_stage t slots) m fs >>= λ k. if_in_range (closing decay home k.particles) k) ≡ done n → Leaves m n
leaves-stages t decay home fs slots m n f e = go (within m.alpha) refl (fold_stages (force_stage t slots) m fs) refl e
  where
    go : (w : Bool) → within m.alpha ≡ w → (o : Outcome State) → fold_stages (force_stage t slots) m fs ≡ o
        → (require w 9 0 >>= λ _. o >>= λ k. if_in_range (closing decay home k.particles) k) ≡ done n → Leaves m n
    go true w (done k) h e =
        let a = keeps_all t slots fs m k h in
        let b = in_range (closing decay home k.particles) k n e in
        record {
          flags = ap flags_of b.particles ∙ closing_flags decay home k.particles (f ∙ ap (λ (l : List ℕ). length l * 2) (sym a.flags)) ∙ a.flags;
          same = b.alpha ∙ a.alpha;
          alpha = rw (b.alpha, a.alpha) w;
          places = rw b.particles b.places;
          speeds = rw b.particles b.speeds;
        }
    go true w (refused q) h e = absurd (let z : ◌≡◌ {A = ℕ} 0 1 = cc in omega arith)
    go false w o h e = absurd (let z : ◌≡◌ {A = ℕ} 0 1 = cc in omega arith)

module _ (s : Settings) (fs : List Force) (slots : ℕ) (m n : State) (e : tick s fs slots m ≡ done n) where
  -- the state with alpha a step further
  abbrev cooler : State
  cooler = state m.particles (next_alpha s m.alpha) m.draws m.visits

  abbrev rest : State → Outcome State
  rest k = fold_stages (force_stage s.tuning slots) k fs >>= λ k. if_in_range (closing s.velocity_decay (places_of m.particles) k.particles) k

  leaves : Leaves cooler n
  unfolding tick_home alpha_stage
  leaves = leaves-stages s.tuning s.velocity_decay (places_of m.particles) fs slots cooler n (places_flags m.particles) (go (alpha_check (next_alpha s m.alpha)) ∙ e)
    where
      go : (c : Check) → (c >>= λ _. rest cooler) ≡ ((c >>= λ _. done cooler) >>= rest)
      go (done t) = refl
      go (refused q) = refl

  -- no flag is changed, no particle lost
  pub accepted_flags : flags_of n.particles ≡ flags_of m.particles
  accepted_flags = leaves.flags

  -- alpha is a step further, whatever the particles are
  pub accepted-next : n.alpha ≡ next_alpha s m.alpha
  accepted-next = leaves.same

  -- alpha is within 2 ^ 40 of zero
  pub accepted_alpha : within n.alpha ≡ true
  accepted_alpha = leaves.alpha

  -- every record passes: known flags, coordinates within 2 ^ 40 of zero, finite velocities
  pub accepted-records : all (λ f. leb f 3) (flags_of m.particles) ≡ true → records_check n.particles ≡ fine
  accepted-records h = sound-records n.particles (record { places = leaves.places; speeds = leaves.speeds; flags = rw accepted_flags h })

-- ---- the ticks of a step, from particles whose records pass

-- the state that they leave: no flag is changed, and every record passes
pub record Lasts (m n : State) : Type 0 where
  pub flags : flags_of n.particles ≡ flags_of m.particles
  pub records : records_check n.particles ≡ fine

pub steps_last : (s : Settings) (alpha_min : Float) (fs : List Force) (slots k t : ℕ) (m : State) → records_check m.particles ≡ fine → Lasts m (ticks_from s alpha_min fs slots k t m).last
unfolding ticks_from
steps_last s alpha_min fs slots zero t m h = record { flags = refl; records = h }
steps_last s alpha_min fs slots (suc k) t m h = go (lt alpha_min m.alpha) (tick s fs slots m) refl (λ n. steps_last s alpha_min fs slots k (t + 1) n)
  where
    go : (c : Bool) (o : Outcome State) → tick s fs slots m ≡ o → ((n : State) → records_check n.particles ≡ fine → Lasts n (ticks_from s alpha_min fs slots k (t + 1) n).last)
        → Lasts m (branch c (λ _. onward o (λ n. ticks_from s alpha_min fs slots k (t + 1) n) (λ r. ticks_done t r m)) (λ _. ticks_done t no_refusal m)).last
    go true (done n) e rest =
        let r = rest n (accepted-records s fs slots m n e (records-sound m.particles h).flags) in
        record { flags = r.flags ∙ accepted_flags s fs slots m n e; records = r.records }
    go true (refused q) e rest = record { flags = refl; records = h }
    go false o e rest = record { flags = refl; records = h }
