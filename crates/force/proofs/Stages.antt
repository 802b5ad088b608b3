-- How a force that has run ended, and its stages one after the other. Assumes nothing.
use mathlib.Core.Path.{◌≡◌, refl, ◌∙◌}
use mathlib.Core.Bool.{true}
use mathlib.Core.List.{List}
use Prim.Native.Nat.{ℕ, suc, ◌+◌, ◌-◌, ◌≤◌, ◌<◌}
use native.Mathlib.Nat.{sub-zero}
use native.Mathlib.Omega.{arith}
use borrow.Author.Tests.{ne_eqb}
use lib.Ieee.{Float}
use Rattle.std.specs.Prelude.{IfOk, Result, Ok, Err, IfErr}
use Rattle.rules.specs.Plain.{count_from, up_to}
use Rattle.rules.specs.declared.Progress.{Progress}
use Rattle.rules.specs.declared.Refusal.{Refusal}
use Rattle.rules.specs.Outcome.{Outcome, done, ◌>>=◌, fold_stages, zeroes_work}
use Rattle.rules.specs.Walk.{Counted, counted}
use Rattle.rules.specs.Flow.{Flow, flow}
use Rattle.force.specs.Draws.{From}
use Rattle.force.specs.declared.lent.Draws.{Draws}
use Rattle.force.specs.Draws as Draws
use Rattle.force.specs.Draws.{came_to, OnlyDry, Further}
use Rattle.force.specs.Ran.{ended_by, IsLate, RanAs}

-- a refusal with a number that clears the slots is met on the way
pub met : (r : Refusal) → (r.number ≡ 0 → ⊥) → zeroes_work r ≡ true → IsLate r
unfolding zeroes_work
met r n e = rw (ne_eqb r.number 0 n) at e

-- the lack of a draw is
pub dry_late : {A : Type 0} (r : Result A Refusal) → OnlyDry r → IfErr r IsLate
dry_late (Ok a) d = tt
dry_late (Err q) d = rw d

-- a force that began at p, with the draws `old` of those lent, and answered r with the draws `new`
module _ (vs draws : List Float) (p : Progress) (old new : Draws) (lent : old.lent.now ≡ draws) (begun : old.used ≡ p.used) (further : Further old new) where
  reach : From draws p.used new.used
  reach = let h = new.in_range in record { begun = omega (arith, further.begun); reach = rw (further.same, lent) at h }

  pub ran_ended_late : (visits : ℕ) (r : Result (Unit {0}) Refusal) {o : Outcome (Counted Flow)} → IfErr r IsLate → came_to r (λ _. counted (flow vs (Draws.left new)) visits) ≡ o → RanAs vs draws p (ended_by r p new visits) o
  ran_ended_late visits (Ok a) l e = record { is = rw (further.same, lent) at e; onward = record { alpha = refl; draws = reach }; late = tt }
  ran_ended_late visits (Err q) l e = record { is = e; onward = tt; late = l }

  pub ran_ended : (visits : ℕ) (r : Result (Unit {0}) Refusal) {o : Outcome (Counted Flow)} → OnlyDry r → came_to r (λ _. counted (flow vs (Draws.left new)) visits) ≡ o → RanAs vs draws p (ended_by r p new visits) o
  ran_ended visits r d e = ran_ended_late visits r (dry_late r d) e

-- its visits are those that it came to
pub ended_few : (r : Result (Unit {0}) Refusal) (p : Progress) (draws : Draws) (visits : ℕ) {most : ℕ} → visits ≤ most → IfOk (ended_by r p draws visits) (λ q. q.visits ≤ most)
ended_few (Ok a) p draws visits h = h
ended_few (Err q) p draws visits h = tt

-- ---- stages one after the other

module _ {S : Type 0} (f : S → ℕ → Outcome S) where
  -- the stages from number i on, of n
  abbrev pub left : ℕ → ℕ → S → Outcome S
  left n i s = fold_stages f s (count_from i (n - i))

  pub left-first : (n : ℕ) (s : S) → fold_stages f s (up_to n) ≡ left n 0 s
  left-first n s = rw sub-zero

  left-next : (n i : ℕ) (s : S) → i < n → left n i s ≡ f s i >>= λ t. left n (i + 1) t
  left-next n i s h = rw e
    where
      e : n - i ≡ suc (n - (i + 1))
      e = omega arith

  -- a stage that is refused, and one that is done
  module _ (n i : ℕ) (h : i < n) (s : S) where
    pub left-goes : {t : S} → f s i ≡ done t → left n i s ≡ left n (i + 1) t
    left-goes e = left-next n i s h ∙ rw e
