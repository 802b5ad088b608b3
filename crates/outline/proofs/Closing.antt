-- Whether an outline closes, as the code tests it, and how far its last number is from 0.
use mathlib.Core.Path.{◌≡◌, refl, sym, ap, ap₂, ◌∙◌}
use mathlib.Core.Bool.{Bool, true, false, false≢true}
use mathlib.Core.List.{List, [], ◌∷◌}
use Prim.Native.Nat.{◌≤◌, ◌<◌}
use native.Mathlib.Omega.{arith}
use borrow.Author.Tests.{eq-eqb, ne_eqb}
use lib.Dec.{eqb}
use lib.IntN.{ℤ, nat_abs}
use lib.ListN.{length}
use mir.Syntax.{w64}
use mir.Val.{SFits, to_z, of_z}
use mir.ValLaws.{to_z-of_z}
use Rattle.rules.specs.Plain.{eq_z}
use Rattle.rules.specs.Outline.{short_way, outline, last_from, closes}
use Rattle.rules.proofs.Signs.{eq_z_true, eq_z_refl}
use Rattle.rules.proofs.Outline.{longitude_size, last-size}
use Rattle.outline.specs.Unwrap.{Sound, farthest}
use Rattle.outline.proofs.Turns.{corner_at}

pub closes-none : (c : ℤ) (l : List ℤ) → length l ≡ 0 → true ≡ closes c l
unfolding closes
closes-none c [] e = refl
closes-none c (a ∷ l) e = absurd (omega arith)

closes-some : (c : ℤ) (l : List ℤ) → 0 < length l → closes c l ≡ eq_z (short_way (last_from c (outline c l)) (corner_at l 0)) (short_way c (corner_at l 0))
unfolding outline closes
closes-some c [] h = absurd (omega arith)
closes-some c (a ∷ l) h = refl

-- two words are the same where the numbers are
words_same : (a b : ℤ) → SFits w64 a → SFits w64 b → eqb (of_z w64 a) (of_z w64 b) ≡ eq_z a b
words_same a b fa fb = go (eq_z a b) refl
  where
    numbers : of_z w64 a ≡ of_z w64 b → a ≡ b
    numbers e = sym (to_z-of_z w64 a fa) ∙ ap (to_z w64) e ∙ to_z-of_z w64 b fb

    go : (t : Bool) → eq_z a b ≡ t → eqb (of_z w64 a) (of_z w64 b) ≡ eq_z a b
    go true e = eq-eqb (of_z w64 a) (of_z w64 b) (ap (of_z w64) (eq_z_true a b e)) ∙ sym e
    go false e = ne_eqb (of_z w64 a) (of_z w64 b) (λ q. false≢true (sym e ∙ ap (eq_z a) (sym (numbers q)) ∙ eq_z_refl a)) ∙ sym e

-- what the code compares: the way back to the first corner, and where the outline began
pub closes_tested : (c : ℤ) (l : List ℤ) (began back : ℤ) → 0 < length l → SFits w64 began → SFits w64 back
    → began ≡ short_way c (corner_at l 0) → back ≡ short_way (last_from c (outline c l)) (corner_at l 0) → eqb (of_z w64 back) (of_z w64 began) ≡ closes c l
closes_tested c l began back some fb fk eb ek = words_same back began fk fb ∙ ap₂ eq_z ek eb ∙ sym (closes-some c l some)

pub last-far : (l : List ℤ) (c : ℤ) → Sound l c → nat_abs (last_from c (outline c l)) ≤ farthest
last-far l c s = omega (arith, last-size c l, longitude_size c s.centred, s.few)
