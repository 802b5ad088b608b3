-- The outcome of a call on a list, check by check: what it answers, and what it leaves.
use mathlib.Core.Path.{◌≡◌, refl, sym, ap, ◌∙◌}
use mathlib.Core.List.{List, map}
use lib.ListN.{length}
use lib.Ieee.{Float}
use Rattle.rules.specs.declared.Particle.{Particle}
use Rattle.rules.specs.declared.Refusal.{Refusal}
use Rattle.std.proofs.Common.{Result}
use Rattle.rules.specs.Outcome as Outcome
use Rattle.rules.specs.Outcome.{Outcome, done, refused, Check, fine, ◌then◌, ◌>>=◌, check_each, refusal_in, if_done}
use Rattle.rules.specs.Refusal.{most_particles, count_check, settings_check}
use Rattle.rules.specs.Sheet.{records_check}
use Rattle.rules.specs.Calls.{particles_result, particles_answer, particles_after}
use Rattle.talemiku.specs.AfterParticles.{AfterParticles}
use Rattle.talemiku.specs.Pass.{result_of}
use Rattle.talemiku.proofs.Passes.{results}

refused_says : (o : Outcome (List Particle)) (ps : List Particle) (r : Refusal) → o ≡ refused r → AfterParticles o ps r ps
refused_says o ps r e = record { answer = rw e; particles = rw e }

-- f changes each particle by g
module _ (settings : List Float) (f : List Particle → List Particle) (ps : List Particle) (g : Particle → Particle) (each : f ps ≡ map g ps) where
  abbrev o : Outcome (List Particle)
  o = particles_result settings f ps

  -- 1, then the first bad particle
  abbrev input : Check
  input = count_check most_particles (length ps) then records_check ps

  pub stops-input : (r : Refusal) → input ≡ refused r → AfterParticles o ps r ps
  unfolding particles_result
  stops-input r e = refused_says o ps r (rw e)

  module _ (sound : input ≡ fine) where
    pub stops-settings : (r : Refusal) → settings_check settings ≡ refused r → AfterParticles o ps r ps
    unfolding particles_result
    stops-settings r e = refused_says o ps r (rw (sound, e))

    module _ (set : settings_check settings ≡ fine) where
      -- 9, of each particle as it is to be
      abbrev results_check : Check
      results_check = check_each (λ _ p. result_of (g p)) ps

      -- it is all that is left, and then all is done
      last : o ≡ results_check >>= λ _. done (map g ps)
      unfolding particles_result
      last = rw (sound, set, each, results g ps)

      pub changes : (answer : Result (Unit {0}) Refusal) (after : List Particle) → answer ≡ Outcome.result_of results_check → after ≡ if_done results_check (λ _. map g ps) ps → AfterParticles o ps (refusal_in answer) after
      changes answer after ea ef = go results_check last ea ef
        where
          go : (c : Check) → o ≡ (c >>= λ _. done (map g ps)) → answer ≡ Outcome.result_of c → after ≡ if_done c (λ _. map g ps) ps → AfterParticles o ps (refusal_in answer) after
          go (done t) e a l = record { answer = ap refusal_in a ∙ sym (ap particles_answer e); particles = l ∙ sym (ap (λ (o : Outcome (List Particle)). particles_after o ps) e) }
          go (refused r) e a l = record { answer = ap refusal_in a ∙ sym (ap particles_answer e); particles = l ∙ sym (ap (λ (o : Outcome (List Particle)). particles_after o ps) e) }

  -- either of them refuses
  pub stops : (r : Refusal) → (input then settings_check settings) ≡ refused r → AfterParticles o ps r ps
  stops r e = go input refl e
    where
      go : (c : Check) → input ≡ c → (c then settings_check settings) ≡ refused r → AfterParticles o ps r ps
      go (done t) i e = stops-settings i r e
      go (refused q) i e = stops-input r (i ∙ e)
