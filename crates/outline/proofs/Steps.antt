-- The remainder that the library takes of a way round is what lies past whole turns.
use mathlib.Core.Path.{◌≡◌, refl}
use lib.IntN.{ℤ, pos, negsuc}
use Rattle.std.specs.Int.{int_rem_euclid}
use Rattle.rules.specs.Outline.{turn, mod_turn}

pub rem_is : (z : ℤ) → int_rem_euclid z (pos turn) ≡ pos (mod_turn z)
unfolding mod_turn
rem_is (pos n) = refl
rem_is (negsuc n) = refl
