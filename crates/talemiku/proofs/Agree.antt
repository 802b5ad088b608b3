-- Center and the closing move come in two forms: over a lent list of particles here, and over columns in the crate `center` (`center_all`) and the crate `closing` (`close_all`). Where the list's form accepts, both give the same particles.
--     accepted         number 0 is answered only for an outcome that is done
--     closing-agrees, center_agrees        the particles of the columns that one form leaves are those that the other leaves
use mathlib.Core.Path.{◌≡◌, refl, sym, ap, ◌∙◌}
use mathlib.Core.List.{List, [], ◌∷◌}
use Prim.Native.Nat.{ℕ}
use native.Mathlib.Omega.{arith}
use lib.ListN.{length}
use lib.Ieee.{Float}
use Rattle.rules.specs.declared.Particle.{Particle}
use Rattle.rules.specs.declared.Refusal.{Refusal}
use Rattle.rules.specs.Outcome.{done, refused, Check, ◌then◌, ◌>>=◌}
use Rattle.rules.specs.Refusal.{most_particles, count_check, settings_check, result_check}
use Rattle.rules.specs.Sheet.{records_check, places_of, speeds_of}
use Rattle.rules.specs.Particle.{centered, closing}
use Rattle.rules.specs.Calls.{particles_result, particles_answer, center_result, closing_result}
use Rattle.rules.proofs.RefusalLaws.{done_of}
use Rattle.rules.proofs.Places.{list_refuses, early_numbered, late_numbered}
use Rattle.sheet.specs.Columns.{flags_of}
use Rattle.closing.specs.Columns.{particles_from}
use Rattle.closing.proofs.Closing.{particles-back}
use Rattle.center.proofs.Centring.{center_speeds}
use Rattle.talemiku.specs.AfterParticles.{AfterParticles}
use Rattle.tick_columns.proofs.Flags.{places_flags, centered_flags, closing_flags}

-- ---- number 0 is an outcome that is done

module _ (settings : List Float) (f : List Particle → List Particle) (ps : List Particle) where
  pub accepted : (particles_answer (particles_result settings f ps)).number ≡ 0 → particles_result settings f ps ≡ done (f ps)
  unfolding particles_result
  accepted z =
      let (qs, e) = done_of (particles_result settings f ps) (list_refuses early_numbered late_numbered settings f ps) z in
      go (count_check most_particles (length ps) then records_check ps then settings_check settings) (result_check (places_of (f ps)) (speeds_of (f ps))) qs e
    where
      go : (a b : Check) (qs : List Particle) → (a >>= λ _. b >>= λ _. done (f ps)) ≡ done qs → (a >>= λ _. b >>= λ _. done (f ps)) ≡ done (f ps)
      go (done u) (done v) qs e = refl
      go (done u) (refused r) qs e = absurd (let z : ◌≡◌ {A = ℕ} 0 1 = cc in omega arith)
      go (refused r) b qs e = absurd (let z : ◌≡◌ {A = ℕ} 0 1 = cc in omega arith)

  -- what such a call leaves
  left : (r : Refusal) (after : List Particle) → AfterParticles (particles_result settings f ps) ps r after → r.number ≡ 0 → after ≡ f ps
  left r after a z = a.particles ∙ rw (accepted (sym (ap (λ (q : Refusal). q.number) a.answer) ∙ z))

-- ---- the two forms, on the same particles ps

-- the particles that the columns of ps give
abbrev pub by_columns : List Particle → List Particle
by_columns ps = particles_from (places_of ps) (speeds_of ps) (flags_of ps)

module _ (ps : List Particle) (r : Refusal) (after : List Particle) (z : r.number ≡ 0) where
  -- `talemiku_apply_velocities` left `after`, and `close_all` left `places` and `speeds`
  pub closing-agrees : (decay : Float) → AfterParticles (closing_result decay ps) ps r after
      → (places speeds : List Float) → places ≡ places_of (closing decay (places_of ps) (by_columns ps)) → speeds ≡ speeds_of (closing decay (places_of ps) (by_columns ps))
      → particles_from places speeds (flags_of ps) ≡ after
  closing-agrees decay a places speeds hp hs =
      rw (hp, hs, particles-back ps, ← closing_flags decay (places_of ps) ps (places_flags ps)) (particles-back (closing decay (places_of ps) ps)) ∙ sym (left (decay ∷ []) (closing decay (places_of ps)) ps r after a z)

  -- `talemiku_center` left `after`, and `center_all` left `places`
  pub center_agrees : (x y strength : Float) → AfterParticles (center_result x y strength ps) ps r after
      → (places : List Float) → ((qs : List Particle) → places_of qs ≡ places_of ps → places ≡ places_of (centered x y strength qs))
      → particles_from places (speeds_of ps) (flags_of ps) ≡ after
  center_agrees x y strength a places h =
      rw (h ps refl, ← center_speeds x y strength ps, ← centered_flags x y strength ps) (particles-back (centered x y strength ps)) ∙ sym (left (x ∷ y ∷ strength ∷ []) (centered x y strength) ps r after a z)
