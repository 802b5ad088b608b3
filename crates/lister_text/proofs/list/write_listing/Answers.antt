-- `write_listing` writes the listing of a tree, from what is told of it.
use Rattle.std.proofs.Common.{List, ℕ, ◌≡◌, ◌+◌, ◌++◌, ◌≤◌, length, arith}
use Rattle.rules.specs.declared.Extent.{Extent}
use Rattle.rules.specs.Cover.{Covered, nothing, holds}
use Rattle.rules.specs.Tree.{Tree, rows_of, chains_of}
use Rattle.rules.specs.Listing.{extent_line, row_lines}
use Rattle.lister_text.specs.Told.{Told, integer_square, rows_at}
use Rattle.lister_text.specs.Input.{listing_bytes}
use Rattle.lister_text.proofs.Writing.{Left, Next, left_as, left-next, left-last}
use Rattle.lister_text.proofs.Sizes.{listing-length}
use Rattle.lister_text.proofs.Reading.{none_told, some_extent, some-told, rows_room, chains-room}
use Rattle.lister_text.proofs.list.write_listing.Goals as goal

-- what is ahead, and then left, of the text of the tree that is told of
module _ (out : List ℕ) (room : listing_bytes ≤ length out) {cov : Covered} {t : Tree Extent} {e : Extent} {n : ℕ} {rows chains : List ℕ} (told : Told cov t e n rows chains) where
  abbrev text : List ℕ
  text = extent_line cov ++ row_lines (rows_of t) (chains_of t)

  fits : 0 + length text ≤ length out
  fits = omega (arith, listing-length cov t told.listed)

  empty-ahead : n ≡ 0 → Left out 0 text out 0 (extent_line nothing)
  empty-ahead none = left_as out 0 _ _ (none_told cov t _ _ _ _ told none) fits

  module _ (some : n ≡ 0 → ⊥) where
    extent-ahead : Next out 0 text out 0 (extent_line (holds (integer_square e))) (row_lines (rows_at n rows) chains)
    extent-ahead = left-next _ _ (left_as out 0 _ _ (some-told cov t _ _ _ _ told some) fits)

pub returns-then-nodes-eq0 : goal.returns-then-nodes-eq0
returns-then-nodes-eq0 c = λ cov t told. left-last (empty-ahead c.args.out.now c.requires.listing_bytes_in_bounds told c.if-nodes-eq0.true) c.put_empty.ensures

pub put_extent-next-requires-clause-whole_extent : goal.put_extent-next-requires-clause-whole_extent
put_extent-next-requires-clause-whole_extent c = some_extent _ _ _ _ _ _ c.requires.some_tree.told c.if-nodes-eq0.false

pub put_extent-next-requires-clause-e_in_bounds : goal.put_extent-next-requires-clause-e_in_bounds
put_extent-next-requires-clause-e_in_bounds c = (extent-ahead c.args.out.now c.requires.listing_bytes_in_bounds c.requires.some_tree.told c.if-nodes-eq0.false).room

pub put_rows-requires-clause-nodes_in_bounds : goal.put_rows-requires-clause-nodes_in_bounds
put_rows-requires-clause-nodes_in_bounds c = rows_room _ _ _ _ _ _ c.requires.some_tree.told

pub put_rows-requires-clause-rows_in_bounds : goal.put_rows-requires-clause-rows_in_bounds
put_rows-requires-clause-rows_in_bounds c = chains-room _ _ _ _ _ _ c.requires.some_tree.told

pub put_rows-requires-clause-chains_in_bounds : goal.put_rows-requires-clause-chains_in_bounds
put_rows-requires-clause-chains_in_bounds c = ((extent-ahead c.args.out.now c.requires.listing_bytes_in_bounds c.requires.some_tree.told c.if-nodes-eq0.false).after c.put_extent-next.ensures).fits

pub returns : goal.returns
returns c = λ cov t told. left-last ((extent-ahead c.args.out.now c.requires.listing_bytes_in_bounds told c.if-nodes-eq0.false).after c.put_extent-next.ensures) c.put_rows.ensures
