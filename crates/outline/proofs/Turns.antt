-- A loop along the corners that stands at the number `at` before corner i: what it asks of the next step, and what that leaves.
use mathlib.Core.Path.{◌≡◌, sym, ap, ◌∙◌, subst}
use mathlib.Core.Bool.{true}
use mathlib.Core.List.{List, ◌∷◌}
use Prim.Native.Nat.{ℕ, ◌+◌, ◌*◌, ◌≤◌, ◌<◌}
use native.Mathlib.Omega.{arith}
use lib.IntN.{ℤ, pos, nat_abs}
use lib.ListN.{length, get_or, set, drop, length-drop}
use mir.Syntax.{w64}
use mir.Val.{SFits, to_z, of_z}
use mir.ValLaws.{to_z-of_z}
use Rattle.rules.specs.Plain.{overwritten}
use Rattle.rules.specs.Outline.{half_turn, longitude_range, short_way, outline, last_from}
use Rattle.rules.proofs.Outline.{longitude_size, way-size, outline-length}
use Rattle.sheet.proofs.Checked.{all-at}
use Rattle.sheet.proofs.Lists.{store_first}
use Rattle.list_checks.proofs.Scans.{list_left}
use Rattle.outline.specs.Unwrap.{Sound, farthest}

-- corner i
abbrev pub corner_at : List ℤ → ℕ → ℤ
corner_at l i = get_or l i (pos 0)

-- what a step asks: half a turn for each corner passed, and one for the centre
module _ (l : List ℤ) (c : ℤ) (s : Sound l c) where
  pub at_centre : nat_abs c ≤ half_turn * (0 + 1)
  at_centre = omega (arith, longitude_size c s.centred)

  pub asked : (i : ℕ) (at : ℤ) → i < length l → nat_abs at ≤ half_turn * (i + 1) → (nat_abs at ≤ farthest) × (longitude_range (corner_at l i) ≡ true)
  asked i at h near = (omega (arith, s.few), all-at longitude_range l i (pos 0) s.ranged h)

-- the step to corner i, v being where it leads
module _ (l : List ℤ) (i : ℕ) (at v : ℤ) (h : i < length l) (e : v ≡ short_way at (corner_at l i)) where
  pub nearer : nat_abs at ≤ half_turn * (i + 1) → nat_abs v ≤ half_turn * (i + 1 + 1)
  nearer near = subst (λ (v : ℤ). nat_abs v ≤ half_turn * (i + 1 + 1)) (sym e) (omega (arith, way-size at (corner_at l i)))

  outline-next : outline at (drop i l) ≡ v ∷ outline v (drop (i + 1) l)
  unfolding outline
  outline-next = ap (outline at) (list_left l i (pos 0) h) ∙ ap (λ (v : ℤ). v ∷ outline v (drop (i + 1) l)) (sym e)

  pub last_turn : last_from at (outline at (drop i l)) ≡ last_from v (outline v (drop (i + 1) l))
  last_turn = ap (last_from at) outline-next

  pub lay-turn : (m : List ℤ) → length l ≤ length m → overwritten m i (outline at (drop i l)) ≡ overwritten (set m i v) (i + 1) (outline v (drop (i + 1) l))
  lay-turn m room =
      let n = outline-length v (drop (i + 1) l) in
      ap (overwritten m i) outline-next ∙ store_first m i v (outline v (drop (i + 1) l)) (omega (arith, n, length-drop (i + 1) l))

-- what the machine reads back of a corner, and of where a step led
pub step-read : (from corner r : ℤ) → SFits w64 corner → SFits w64 r → r ≡ short_way from (to_z w64 (of_z w64 corner)) → to_z w64 (of_z w64 r) ≡ short_way from corner
step-read from corner r fc fr e = to_z-of_z w64 r fr ∙ e ∙ ap (short_way from) (to_z-of_z w64 corner fc)
