-- The ends of a link. Definitions only.
use Rattle.std.specs.Prelude.{List, ℕ, ◌+◌, ◌*◌, get_or}
use Rattle.rules.specs.Link.{Ends, ends}

-- the ends of link number k
abbrev pub ends_at : List ℕ → ℕ → Ends
ends_at links k = ends (get_or links (k * 2) 0) (get_or links (k * 2 + 1) 0)
