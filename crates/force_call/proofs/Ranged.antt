-- A force called alone: what check 4 lets pass.
use mathlib.Core.Path.{◌≡◌, sym, ◌∙◌}
use mathlib.Core.Bool.{true, and-eq-true_iff}
use mathlib.Core.List.{List}
use Prim.Native.Nat.{ℕ, ◌<◌}
use native.Mathlib.Omega.{arith}
use lib.Ieee.{Float}
use Rattle.rules.specs.Outcome.{Check, fine, ◌then◌}
use Rattle.rules.specs.Number.{within, place_range, x_at, y_at}
use Rattle.rules.specs.Refusal.{place_check, draws_check, settings_check, coordinates_check, velocities_check}
use Rattle.rules.specs.Force.{Push, push_ranges, push_settings}
use Rattle.rules.specs.Calls.{ForceInput, count, numbers_check}
use Rattle.rules.proofs.OutcomeLaws.{place_both}
use Rattle.tree_cells.proofs.Prefix.{fine_each}
use Rattle.list_checks.proofs.Checks.{then_both, require_true}

-- every place is in range
pub places-within : (l : ForceInput) (f : Push) (vs draws : List Float) (alpha : Float) → numbers_check l.places vs f draws alpha ≡ fine
    → (i : ℕ) → i < count l → (within (x_at l.places i) ≡ true) × (within (y_at l.places i) ≡ true)
places-within l f vs draws alpha e i h =
    (and-eq-true_iff (within (x_at l.places i)) (within (y_at l.places i))).0
    (require_true (place_range (x_at l.places i) (y_at l.places i)) 4 i (sym (place_both i (x_at l.places i) (y_at l.places i)) ∙ fine_each (λ j. place_check j (x_at l.places j) (y_at l.places j)) 0 (count l) coordinates i (omega arith) (omega arith)))
  where
    points : Check
    points = coordinates_check (count l) l.places then velocities_check (count l) vs

    coordinates : coordinates_check (count l) l.places ≡ fine
    coordinates =
        let a = then_both (points then push_ranges f then draws_check draws) (settings_check (push_settings f alpha)) e in
        let b = then_both (points then push_ranges f) (draws_check draws) a.0 in
        let c = then_both points (push_ranges f) b.0 in
        (then_both (coordinates_check (count l) l.places) (velocities_check (count l) vs) c.0).0
