-- What writing a text into a buffer does. Definitions only.
use Rattle.std.specs.Prelude.{◌≡◌, List, [], ◌∷◌, ℕ, ◌+◌, length}
use Rattle.rules.specs.Plain.{overwritten}
use Rattle.rules.specs.Listing.{line}

-- the list l with the text t at a place is k, and r is the place behind it
pub record TextWritten (l : List ℕ) (at : ℕ) (t : List ℕ) (k : List ℕ) (r : ℕ) : Type 0 where
  pub list : k ≡ overwritten l at t
  pub next : r ≡ at + length t

-- what stands in a line behind its first word, where these are the other words
abbrev pub other_words : List (List ℕ) → List ℕ
other_words ws = line ([] ∷ ws)
