-- Document 02, R-10: outlines in longitudes, unwrapped the short way round. Definitions only.
use Rattle.std.specs.Prelude.{◌≡◌, Bool, true, ◌&&◌, List, [], ◌∷◌, ℕ, ◌-◌, ◌%◌, leb, ℤ, pos, negsuc, neg_ℤ, ◌+ℤ◌, ◌-ℤ◌, ◌*ℤ◌, ◌≤ℤ◌, ◌<ℤ◌, length}
use Rattle.std.specs.Int.Signed.{le_z}
use Rattle.rules.specs.declared.Refusal.{Refusal}
use Rattle.rules.specs.Plain.{eq_z, overwritten}
use Rattle.rules.specs.Outcome.{Outcome, done, Check, require, require_all, ◌then◌, ◌>>=◌, refusal_of, if_done}
use Rattle.rules.specs.Refusal.{most_corners, count_check, lengths_check}

-- ---- longitudes, in units of 1e-7 degree

-- 180 degrees
abbrev pub half_turn : ℕ
half_turn = 1800000000

-- 360 degrees
abbrev pub turn : ℕ
turn = 3600000000

-- -1800000000 to 1800000000
unfoldable pub longitude_range : ℤ → Bool
longitude_range a = le_z (neg_ℤ (pos half_turn)) a && le_z a (pos half_turn)

-- ---- the short way

-- z modulo a turn, from 0 to 3599999999; negsuc n is -(n + 1)
unfoldable pub mod_turn : ℤ → ℕ
mod_turn (pos n) = n % turn
mod_turn (negsuc n) = turn - 1 - n % turn

-- the one step in [-1800000000, 1800000000) that leads from p to an equivalent of a
unfoldable pub short_step : ℤ → ℤ → ℤ
short_step p a = pos (mod_turn (a -ℤ p +ℤ pos half_turn)) -ℤ pos half_turn

-- where it leads: to the one equivalent of a within [p - 1800000000, p + 1800000000)
unfoldable pub short_way : ℤ → ℤ → ℤ
short_way p a = p +ℤ short_step p a

-- ---- the outline: the first corner against the centre, each later one against the one before

unfoldable pub outline : ℤ → List ℤ → List ℤ
outline p [] = []
outline p (a ∷ l) = let u = short_way p a in u ∷ outline u l

-- the last of these numbers, and p where there are none
abbrev pub last_from : ℤ → List ℤ → ℤ
last_from p [] = p
last_from p (u ∷ us) = last_from u us

-- the closing step, from the last corner to the first, returns to the first corner's unwrapped number u
unfoldable pub closes : ℤ → List ℤ → Bool
closes c [] = true
closes c (a ∷ l) = let u = short_way c a in eq_z (short_way (last_from u (outline u l)) a) u

-- ---- the call

-- 1, then 2 for a short output, which has room for so many numbers, then 5 for the first corner out of range, then 5 for the centre
unfoldable pub outline_check : List ℤ → ℤ → ℕ → Check
outline_check corners centre room =
    count_check most_corners (length corners)
    then lengths_check (leb (length corners) room)
    then require_all longitude_range 5 corners
    then require (longitude_range centre) 5 0

-- Lent: the corners' longitudes, the sheet's centre, and the list for the unwrapped numbers.
pub record OutlineInput : Type 0 where
  pub corners : List ℤ
  pub centre : ℤ
  pub unwrapped : List ℤ

module _ (l : OutlineInput) where
  -- these checks, then 16 for the outline that doesn't close
  unfoldable pub outline_result : Outcome (List ℤ)
  outline_result =
      outline_check l.corners l.centre (length l.unwrapped) >>= λ _.
      require (closes l.centre l.corners) 16 0 >>= λ _.
      done (outline l.centre l.corners)

  -- the answer is the refusal, or number 0
  unfoldable pub outline_answer : Refusal
  outline_answer = refusal_of outline_result

  -- a longer output keeps its rest; a refusal writes nothing
  unfoldable pub unwrapped_after : List ℤ
  unwrapped_after = if_done outline_result (overwritten l.unwrapped 0) l.unwrapped

-- ---- what it has to be

-- b is an equivalent of a: whole turns lie between them
pub record Equivalent (a b : ℤ) : Type 0 where
  pub count : ℤ
  pub apart : b ≡ a +ℤ count *ℤ pos turn

-- a short step lies in [-1800000000, 1800000000)
pub record Short (s : ℤ) : Type 0 where
  pub from : neg_ℤ (pos half_turn) ≤ℤ s
  pub below : s <ℤ pos half_turn

-- us is an outline of these corners round p: each number is an equivalent of its corner and a short step from the one before, the first from p
abbrev pub IsOutline : ℤ → List ℤ → List ℤ → Type 0
IsOutline p [] [] = Unit {0}
IsOutline p [] (u ∷ us) = ⊥
IsOutline p (a ∷ l) [] = ⊥
IsOutline p (a ∷ l) (u ∷ us) = Equivalent a u × Short (u -ℤ p) × IsOutline u l us

-- it is closed: from its last number back to its first is a short step too
abbrev pub Closed : List ℤ → Type 0
Closed [] = Unit {0}
Closed (u ∷ us) = Short (u -ℤ last_from u us)

-- the short steps from a through these corners, and then to `first`
abbrev pub steps_to : ℤ → ℤ → List ℤ → List ℤ
steps_to first a [] = short_step a first ∷ []
steps_to first a (b ∷ l) = short_step a b ∷ steps_to first b l

-- the short steps from corner to corner, and the closing one
abbrev pub steps_round : List ℤ → List ℤ
steps_round [] = []
steps_round (a ∷ l) = steps_to a a l

-- what steps add up to
abbrev pub total : List ℤ → ℤ
total [] = pos 0
total (s ∷ ss) = s +ℤ total ss

-- a and b are the same meridian: equivalents, both longitudes or neither
abbrev pub SameMeridian : ℤ → ℤ → Type 0
SameMeridian a b = Equivalent a b × (longitude_range a ≡ longitude_range b)

-- so of corner after corner
abbrev pub SameMeridians : List ℤ → List ℤ → Type 0
SameMeridians [] [] = Unit {0}
SameMeridians [] (b ∷ m) = ⊥
SameMeridians (a ∷ l) [] = ⊥
SameMeridians (a ∷ l) (b ∷ m) = SameMeridian a b × SameMeridians l m
