-- Checks one after the other, and the settings of a tick before those of a step.
use mathlib.Core.Path.{◌≡◌, refl, ap, ◌∙◌}
use mathlib.Core.List.{List, [], ◌∷◌, ◌++◌}
use Prim.Native.Nat.{ℕ, ◌+◌}
use lib.Ieee.{Float}
use Rattle.rules.specs.Number.{within}
use Rattle.rules.specs.Outcome.{Check, done, refused, require, ◌then◌, ◌>>=◌, check_from}
use Rattle.rules.specs.Refusal.{settings_check}
use Rattle.rules.proofs.OutcomeLaws.{check-any}

then_bind : (c d e : Check) → (c >>= λ _. d then e) ≡ (c >>= λ _. d) then e
then_bind (done t) d e = refl
then_bind (refused r) d e = refl

pub then_assoc : (c d e : Check) → (c then (d then e)) ≡ c then d then e
then_assoc (done t) d e = refl
then_assoc (refused r) d e = refl

from-append : {A : Type 0} (f : A → Check) (i j k : ℕ) (l m : List A) → check_from (λ _ a. f a) i (l ++ m) ≡ check_from (λ _ a. f a) j l then check_from (λ _ a. f a) k m
from-append f i j k [] m = check-any f i k m
from-append f i j k (a ∷ l) m =
    ap (λ (c : Check). f a >>= λ _. c) (from-append f (i + 1) (j + 1) k l m)
    ∙ then_bind (f a) (check_from (λ _ a. f a) (j + 1) l) (check_from (λ _ a. f a) k m)

pub settings-append : (l m : List Float) → settings_check (l ++ m) ≡ settings_check l then settings_check m
settings-append l m = from-append (λ x. require (within x) 5 0) 0 0 0 l m
