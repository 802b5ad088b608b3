-- `list_tree` writes what the tree call's answer comes to.
use Rattle.std.proofs.Common.{arith}
use Rattle.lister_text.proofs.Inputs.{lent_right, refuses, lists}
use Rattle.lister_text.proofs.input.list_tree.Goals as goal

pub put_refused-requires : goal.put_refused-requires
put_refused-requires c =
    let small = (refuses (lent_right _ _ _ _ c.requires.rows_len) c.tree_within-answer.ensures c.if-number-ne0.true).small in
    (omega (arith, small), omega (arith, c.requires.listing_bytes_in_bounds))

pub returns-then-number-ne0 : goal.returns-then-number-ne0
returns-then-number-ne0 c = rw (refuses (lent_right _ _ _ _ c.requires.rows_len) c.tree_within-answer.ensures c.if-number-ne0.true).text c.put_refused.ensures

pub write_listing-requires-clause-some_tree : goal.write_listing-requires-clause-some_tree
write_listing-requires-clause-some_tree c = (lists (lent_right _ _ _ _ c.requires.rows_len) c.tree_within-answer.ensures c.if-number-ne0.false).some

pub returns : goal.returns
returns c =
    let k = lists (lent_right _ _ _ _ c.requires.rows_len) c.tree_within-answer.ensures c.if-number-ne0.false in
    rw k.text (c.write_listing.ensures k.some.covered k.some.tree k.some.told)
