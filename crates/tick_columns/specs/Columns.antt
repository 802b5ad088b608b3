-- A sheet by columns: the lists that a tick and a step work on, read from it and written back. Definitions only.
use Rattle.std.specs.Prelude.{◌≡◌, List, ℕ, ◌*◌, length, Float}
use Rattle.rules.specs.Sheet.{record_size, count_of, particles_of, sheet_of, places_of, speeds_of}
use Rattle.sheet.specs.Columns.{flags_of}
use Rattle.closing.specs.Columns.{particles_from}

-- of n particles: places and velocities in pairs, and flags
pub record ColumnsLent (n : ℕ) (places speeds : List Float) (flags : List ℕ) : Type 0 where
  pub place_each : length places ≡ n * 2
  pub speed_each : length speeds ≡ n * 2
  pub flag_each : length flags ≡ n

-- the columns are the sheet's
pub record Read (sheet : List ℕ) (places speeds : List Float) (flags : List ℕ) : Type 0 where
  pub of_places : places ≡ places_of (particles_of sheet)
  pub of_speeds : speeds ≡ speeds_of (particles_of sheet)
  pub of_flags : flags ≡ flags_of (particles_of sheet)

-- the sheet is whole records, and the columns have a pair for each
pub record Writable (sheet : List ℕ) (places speeds : List Float) : Type 0 where
  pub whole : length sheet ≡ count_of sheet * record_size
  pub place_each : length places ≡ count_of sheet * 2
  pub speed_each : length speeds ≡ count_of sheet * 2

-- the sheet with these places and speeds, and its own flags
abbrev pub written : List ℕ → List Float → List Float → List ℕ
written sheet places speeds = sheet_of (particles_from places speeds (flags_of (particles_of sheet)))
