-- The room in a sheet: as many records fit as there are whole ones.
use mathlib.Core.Path.{◌≡◌, refl, sym, ◌∙◌}
use mathlib.Core.Bool.{Bool, true, false}
use Prim.Native.Nat.{ℕ, ◌*◌, ◌/◌}
use native.Mathlib.Omega.{arith}
use borrow.Author.Tests.{leb-true, leb-false, le-leb, lt-leb}
use lib.Dec.{leb}
use Rattle.rules.specs.Sheet.{record_size}

pub fits_whole : (n bytes : ℕ) → leb n (bytes / record_size) ≡ leb (n * record_size) bytes
fits_whole n bytes = go (leb n (bytes / record_size)) refl
  where
    go : (b : Bool) → leb n (bytes / record_size) ≡ b → leb n (bytes / record_size) ≡ leb (n * record_size) bytes
    go true e = e ∙ sym (le-leb (n * record_size) bytes (omega (arith, leb-true n (bytes / record_size) e)))
    go false e = e ∙ sym (lt-leb (n * record_size) bytes (omega (arith, leb-false n (bytes / record_size) e)))
