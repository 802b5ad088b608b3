-- `put_extent` puts the ends of an extent one after another.
use Rattle.std.proofs.Common.{List, ℕ, [], ◌∷◌, ◌+◌, ◌≤◌, length}
use lib.Ieee.{Float}
use Rattle.rules.specs.declared.Extent.{Extent}
use Rattle.rules.specs.Cover.{holds}
use Rattle.rules.specs.Listing.{ascii, signed, extent_line}
use Rattle.lister_text.specs.Text.{TextWritten, other_words}
use Rattle.lister_text.specs.Told.{integer, integer_square}
use Rattle.lister_text.proofs.Writing.{Next, left-all, left-next, left-last}
use Rattle.lister_text.proofs.lines.put_extent.Goals as goal

abbrev word : Float → List ℕ
word x = signed (integer x)

-- what is ahead where these ends were written
module _ (out : List ℕ) (at : ℕ) (e : Extent) (room : at + length (extent_line (holds (integer_square e))) ≤ length out) where
  abbrev Ahead : List ℕ → ℕ → Float → List (List ℕ) → Type 0
  Ahead k next x rest = Next out at (extent_line (holds (integer_square e))) k next (32 ∷ word x) (other_words rest)

  module _ {k : List ℕ} {next : ℕ} (first : TextWritten out at (ascii "extent") k next) where
    x0-ahead : Ahead k next e.x0 (word e.y0 ∷ word e.x1 ∷ word e.y1 ∷ [])
    x0-ahead = left-next _ _ ((left-next (ascii "extent") _ (left-all _ _ _ room)).after first)

    module _ {k₁ : List ℕ} {next₁ : ℕ} (x0 : TextWritten k next (32 ∷ word e.x0) k₁ next₁) where
      y0-ahead : Ahead k₁ next₁ e.y0 (word e.x1 ∷ word e.y1 ∷ [])
      y0-ahead = left-next _ _ (x0-ahead.after x0)

      module _ {k₂ : List ℕ} {next₂ : ℕ} (y0 : TextWritten k₁ next₁ (32 ∷ word e.y0) k₂ next₂) where
        x1-ahead : Ahead k₂ next₂ e.x1 (word e.y1 ∷ [])
        x1-ahead = left-next _ _ (y0-ahead.after y0)

        module _ {k₃ : List ℕ} {next₃ : ℕ} (x1 : TextWritten k₂ next₂ (32 ∷ word e.x1) k₃ next₃) where
          y1-ahead : Ahead k₃ next₃ e.y1 []
          y1-ahead = left-next _ _ (x1-ahead.after x1)

pub returns : goal.returns
returns c =
    left-last
    ((y1-ahead c.args.out.now c.args.at c.args.e c.requires.e_in_bounds c.put_text-next.ensures c.put_end-next.ensures c.put_end-next-2.ensures c.put_end-next-3.ensures).after
    c.put_end-next-4.ensures)
    c.put_byte.ensures
