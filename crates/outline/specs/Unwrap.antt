-- The call that unwraps an outline: what it is lent, what its parts ask, and what it leaves. Definitions only.
use Rattle.std.specs.Prelude.{◌≡◌, true, List, ℕ, ◌+◌, ◌*◌, ◌≤◌, ℤ, length, Result}
use Rattle.rules.specs.declared.Refusal.{Refusal}
use Rattle.rules.specs.Plain.{all, overwritten}
use Rattle.rules.specs.Outcome.{fine, require, ◌>>=◌, result_of, if_done}
use Rattle.rules.specs.Refusal.{most_corners}
use Rattle.rules.specs.Outline.{half_turn, longitude_range, outline, closes, OutlineInput, outline_result, outline_answer, unwrapped_after}

-- what is lent to the call
abbrev pub lent_outline : List ℤ → ℤ → List ℤ → OutlineInput
lent_outline corners centre unwrapped = record { corners = corners; centre = centre; unwrapped = unwrapped }

-- the call ended as the rules say: refused, or not
abbrev pub Ended : OutlineInput → Result (Unit {0}) Refusal → Type 0
Ended l r = r ≡ result_of (outline_result l >>= λ _. fine)

-- past all checks but the last: 16 where the outline doesn't close, and else its numbers are written
abbrev pub LaidClosed : OutlineInput → Result (Unit {0}) Refusal → List ℤ → Type 0
LaidClosed l r after =
    let c = require (closes l.centre l.corners) 16 0 in
    (r ≡ result_of c) × (after ≡ if_done c (λ _. overwritten l.unwrapped 0 (outline l.centre l.corners)) l.unwrapped)

-- the answer and the output after the call
pub record Unwrapped (l : OutlineInput) (r : Refusal) (after : List ℤ) : Type 0 where
  pub answer : r ≡ outline_answer l
  pub written : after ≡ unwrapped_after l

-- past 1 and 5: few enough corners, all of them and the centre in range
pub record Sound (corners : List ℤ) (centre : ℤ) : Type 0 where
  pub few : length corners ≤ most_corners
  pub ranged : all longitude_range corners ≡ true
  pub centred : longitude_range centre ≡ true

-- how far from 0 a step may begin: half a turn for the centre, and one for each corner
abbrev pub farthest : ℕ
farthest = half_turn * (most_corners + 1)
