-- Checks in a row: what passes them, and which refusal of several is answered.
use mathlib.Core.Path.{◌≡◌, refl, sym, ap, ◌∙◌}
use mathlib.Core.Bool.{Bool, true, false, ◌&&◌}
use mathlib.Core.List.{List}
use Prim.Native.Nat.{ℕ, ◌<◌}
use native.Mathlib.Omega.{arith}
use lib.Ieee.{Float}
use borrow.Author.Tests.{eqb-true, ne_eqb}
use Rattle.rules.specs.declared.Refusal.{Refusal}
use Rattle.rules.specs.Plain.{all}
use Rattle.rules.specs.Number.{within, finite}
use Rattle.rules.specs.Outcome.{done, refused, Check, fine, require, ◌then◌, ◌>>=◌, refusal_of}
use Rattle.rules.specs.Refusal.{result_check}
use Rattle.rules.specs.Force.{strengths_agree}
use Rattle.rules.proofs.RefusalLaws.{Refuses}
use Rattle.rules.proofs.RefusalNumbers.{Early}
use Rattle.list_checks.proofs.Scans.{passes, stops}

pub then_both : (c d : Check) → c then d ≡ fine → (c ≡ fine) × (d ≡ fine)
then_both (done t) d h = (refl, h)
then_both (refused r) d h = absurd (let z : ◌≡◌ {A = ℕ} 0 1 = cc in omega arith)

pub bind_both : (c d : Check) → c >>= (λ _. d) ≡ fine → (c ≡ fine) × (d ≡ fine)
bind_both (done t) d h = (refl, h)
bind_both (refused r) d h = absurd (let z : ◌≡◌ {A = ℕ} 0 1 = cc in omega arith)

-- a check that nothing follows
pub then_fine : (c : Check) → c then fine ≡ c
then_fine (done t) = refl
then_fine (refused r) = refl

pub bind_fine : (c : Check) → (c >>= λ _. fine) ≡ c
bind_fine (done t) = refl
bind_fine (refused r) = refl

pub require_true : (ok : Bool) (n i : ℕ) → require ok n i ≡ fine → ok ≡ true
require_true true n i h = refl
require_true false n i h = absurd (let z : ◌≡◌ {A = ℕ} 0 1 = cc in omega arith)

-- 9 is answered, or nothing
pub result-fine : (places vs : List Float) → (refusal_of (result_check places vs)).number ≡ 0 → result_check places vs ≡ fine
unfolding result_check
result-fine places vs h = go (all within places && all finite vs) h
  where
    go : (ok : Bool) → (refusal_of (require ok 9 0)).number ≡ 0 → require ok 9 0 ≡ fine
    go true e = refl
    go false e = absurd (omega arith)

-- a check that an answer with a number stands for
pub stopped : (c : Check) (q : Refusal) → Refuses Early c → q ≡ refusal_of c → (q.number ≡ 0 → ⊥) → (c ≡ refused q) × Early q
stopped c q early e h =
    let s = stops c (λ z. h (ap (λ (r : Refusal). r.number) e ∙ z)) ∙ ap refused (sym e) in
    (s, early.by q s)

-- and one that number 0 stands for
pub passed : (c : Check) (q : Refusal) → Refuses Early c → q ≡ refusal_of c → q.number ≡ 0 → c ≡ fine
passed c q early e h = passes c early (sym (ap (λ (r : Refusal). r.number) e) ∙ h)

-- one for each, or none
pub as_many : (k m : ℕ) → 0 < k → strengths_agree m k ≡ true → k ≡ m
as_many k m some e = eqb-true k m (rw (ne_eqb k 0 (λ z. omega arith)) at e)
