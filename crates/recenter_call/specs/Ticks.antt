-- How an argument says a number of ticks. Definitions only.
use Rattle.std.specs.Prelude.{Bool, false, cond, ◌&&◌, List, [], ◌∷◌, ℕ, ◌+◌, ◌-◌, ◌*◌, min, leb, Option, Some, None}
use Rattle.rules.specs.Plain.{all, foldl}
use Rattle.rules.specs.Refusal.{most_ticks}

-- '0' to '9'
abbrev pub is_digit : ℕ → Bool
is_digit b = leb 48 b && leb b 57

-- a number with one digit more
abbrev pub with_digit : ℕ → ℕ → ℕ
with_digit n b = n * 10 + (b - 48)

-- the number that digits spell, the highest first
abbrev pub value_of : List ℕ → ℕ
value_of text = foldl with_digit 0 text

-- one digit or more, and nothing else
abbrev pub is_whole : List ℕ → Bool
is_whole [] = false
is_whole (b ∷ text) = all is_digit (b ∷ text)

-- more ticks than these are refused alike, so a number is cut there
abbrev pub most_asked : ℕ
most_asked = most_ticks + 1

-- the value, cut, of a text that is a whole number
unfoldable pub ticks_of : List ℕ → Option ℕ
ticks_of text = cond (is_whole text) (Some (min (value_of text) most_asked)) None
