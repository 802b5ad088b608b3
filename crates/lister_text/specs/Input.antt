-- How much of its input the lister keeps, and how long a listing may be. Definitions only.
use Rattle.std.specs.Prelude.{ℕ, ◌*◌}
use Rattle.rules.specs.Sheet.{record_size}
use Rattle.rules.specs.Listing.{most_listed}

-- the bytes of the records that are listed
abbrev pub kept_bytes : ℕ
kept_bytes = record_size * most_listed

-- no listing is longer
abbrev pub listing_bytes : ℕ
listing_bytes = 16384
