-- Strengths, the links one after the other, and how the force ends. Assumes nothing.
use mathlib.Core.Path.{◌≡◌, refl, sym, ◌∙◌}
use mathlib.Core.List.{List, [], ◌∷◌}
use Prim.Native.Nat.{ℕ, ◌+◌, ◌/◌, ◌≤◌, ◌<◌}
use lib.ListN.{length}
use lib.Ieee.{Float}
use Rattle.rules.specs.declared.Refusal.{Refusal}
use Rattle.rules.specs.Outcome.{Outcome, done, refused, ◌>>=◌}
use Rattle.rules.specs.Flow.{Flow, flow}
use Rattle.rules.specs.Force.{ends_of}
use Rattle.rules.specs.Link.{Ends, count_ends, default_strength, strength_at, pull, pull_from, run_link}
use Rattle.rules.specs.declared.Progress.{Progress}
use Rattle.force.specs.declared.lent.Draws.{Draws}
use Rattle.force.specs.Draws as Draws
use Rattle.force.specs.Draws.{came_to, OnlyDry, Further}
use Rattle.force.specs.Ran.{ended_by, visited, RanAs}
use Rattle.force.proofs.Stages.{left, left-first, ran_ended}
use Rattle.std.specs.Prelude.{Result, Ok, Err}
use Rattle.link.specs.Links.{pull_each}
use Rattle.link_tally.specs.Tally.{strength_or}
use Rattle.list_checks.specs.Checks.{ends_at}
use Rattle.list_checks.proofs.Scans.{ends_left, ends-left, ends-none}

-- ---- strengths

pub strength_is : (es : List Ends) (ss : List Float) (k : ℕ) (e : Ends) → strength_at es ss k e ≡ strength_or ss k (count_ends es e.source) (count_ends es e.target)
unfolding default_strength
strength_is es [] k e = refl
strength_is es (s ∷ ss) k e = refl

-- ---- all links

module _ (at : List Float) (links : List ℕ) (ss ds : List Float) (alpha : Float) where
  -- what is left to pull from number k on
  abbrev pub pull_left : ℕ → Flow → Outcome Flow
  pull_left k σ = pull_from at (ends_of links) ss ds alpha k (ends_left links k) σ

  pull_next : (k : ℕ) (σ : Flow) → k < length links / 2
      → pull_left k σ ≡ pull at (ends_of links) ss ds alpha k (ends_at links k) σ >>= λ σ. pull_left (k + 1) σ
  unfolding pull_from
  pull_next k σ h = rw (ends-left links k h)

  module _ (k : ℕ) (h : k < length links / 2) (σ : Flow) where
    pub pull_stops : {q : Refusal} → refused q ≡ pull at (ends_of links) ss ds alpha k (ends_at links k) σ → refused q ≡ pull_left k σ
    pull_stops e = sym (pull_next k σ h ∙ rw (← e))

    pub pull_goes : {τ : Flow} → done τ ≡ pull at (ends_of links) ss ds alpha k (ends_at links k) σ → pull_left (k + 1) τ ≡ pull_left k σ
    pull_goes e = sym (pull_next k σ h ∙ rw (← e))

  pub all_end : (k : ℕ) (σ : Flow) → length links / 2 ≤ k → done σ ≡ pull_left k σ
  unfolding pull_from
  all_end k σ h = rw (ends-none links k h)

  -- what is left of n iterations from number i on
  abbrev pub times_left : ℕ → ℕ → Flow → Outcome Flow
  times_left n i σ = left (λ σ _. pull_each at links ss ds alpha σ) n i σ

  pub times_first : (n : ℕ) (σ : Flow) → times_left n 0 σ ≡ run_link at (ends_of links) ss ds n alpha σ
  unfolding run_link
  times_first n σ = sym (left-first (λ σ _. pull_each at links ss ds alpha σ) n σ)

-- ---- how the force ends

-- no node was handed out
pub ran_unvisited : (vs draws : List Float) (p : Progress) (old new : Draws) → old.lent.now ≡ draws → old.used ≡ p.used → Further old new
    → (r : Result (Unit {0}) Refusal) {o : Outcome Flow} → OnlyDry r → came_to r (λ _. flow vs (Draws.left new)) ≡ o → RanAs vs draws p (ended_by r p new p.visits) (visited p.visits o)
ran_unvisited vs draws p old new lent begun further (Ok a) d e = ran_ended vs draws p old new lent begun further p.visits (Ok a) d (rw (← e))
ran_unvisited vs draws p old new lent begun further (Err q) d e = ran_ended vs draws p old new lent begun further p.visits (Err q) d (rw (← e))
