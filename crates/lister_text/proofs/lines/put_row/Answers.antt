-- `put_row` puts the words of a line one after another.
use Rattle.std.proofs.Common.{List, ℕ, [], ◌∷◌, ◌+◌, ◌++◌, ◌≤◌, length, map, arith}
use Rattle.rules.specs.Listing.{decimal, row_letter, line}
use Rattle.lister_text.specs.Text.{TextWritten, other_words}
use Rattle.lister_text.proofs.Writing.{Next, left-all, left-next, left-last}
use Rattle.lister_text.proofs.lines.put_row.Goals as goal

-- what is ahead, and then left, where these words were written
module _ (out : List ℕ) (at level quadrant kind : ℕ) (chain : List ℕ) (room : at + length (line (decimal level ∷ decimal quadrant ∷ row_letter kind ∷ map decimal chain)) ≤ length out) where
  abbrev Ahead : List ℕ → ℕ → List ℕ → List ℕ → Type 0
  Ahead k next w rest = Next out at (line (decimal level ∷ decimal quadrant ∷ row_letter kind ∷ map decimal chain)) k next w rest

  level-ahead : Ahead out at (decimal level) (other_words (decimal quadrant ∷ row_letter kind ∷ map decimal chain))
  level-ahead = left-next _ _ (left-all _ _ _ room)

  module _ {k : List ℕ} {next : ℕ} (levels : TextWritten out at (decimal level) k next) where
    quadrant-ahead : Ahead k next (32 ∷ decimal quadrant) (other_words (row_letter kind ∷ map decimal chain))
    quadrant-ahead = left-next _ _ (level-ahead.after levels)

    module _ {k₁ : List ℕ} {next₁ : ℕ} (quadrants : TextWritten k next (32 ∷ decimal quadrant) k₁ next₁) where
      space-ahead : Ahead k₁ next₁ (32 ∷ []) (row_letter kind ++ other_words (map decimal chain))
      space-ahead = left-next _ _ (quadrant-ahead.after quadrants)

      module _ {k₂ : List ℕ} {next₂ : ℕ} (space : TextWritten k₁ next₁ (32 ∷ []) k₂ next₂) where
        kind-ahead : Ahead k₂ next₂ (row_letter kind) (other_words (map decimal chain))
        kind-ahead = left-next _ _ (space-ahead.after space)

pub put_number-next-requires : goal.put_number-next-requires
put_number-next-requires c = (omega arith, (quadrant-ahead c.args.out.now c.args.at c.args.level c.args.quadrant c.args.kind c.args.chain.now c.requires c.put_decimal-next.ensures).room)

pub put_byte-next-requires : goal.put_byte-next-requires
put_byte-next-requires c = (space-ahead c.args.out.now c.args.at c.args.level c.args.quadrant c.args.kind c.args.chain.now c.requires c.put_decimal-next.ensures c.put_number-next.ensures).room

pub put_kind-next-requires : goal.put_kind-next-requires
put_kind-next-requires c = (kind-ahead c.args.out.now c.args.at c.args.level c.args.quadrant c.args.kind c.args.chain.now c.requires c.put_decimal-next.ensures c.put_number-next.ensures c.put_byte-next.ensures).room

pub put_chain-requires : goal.put_chain-requires
put_chain-requires c = ((kind-ahead c.args.out.now c.args.at c.args.level c.args.quadrant c.args.kind c.args.chain.now c.requires c.put_decimal-next.ensures c.put_number-next.ensures c.put_byte-next.ensures).after c.put_kind-next.ensures).fits

pub returns : goal.returns
returns c = left-last ((kind-ahead c.args.out.now c.args.at c.args.level c.args.quadrant c.args.kind c.args.chain.now c.requires c.put_decimal-next.ensures c.put_number-next.ensures c.put_byte-next.ensures).after c.put_kind-next.ensures) c.put_chain.ensures
