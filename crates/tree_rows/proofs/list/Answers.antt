-- `list` writes the listing of a whole tree, and zeros behind it.
use Rattle.std.proofs.Common.{refl}
use Rattle.tree_rows.proofs.ListWhole.{whole_listable, chains-end, rows-listed, chains-listed}
use Rattle.tree_rows.proofs.list.Goals as goal

pub list_node-end-requires : goal.list_node-end-requires
list_node-end-requires c = (_, whole_listable c.requires.1)

pub clear_from-requires-2 : goal.clear_from-requires-2
clear_from-requires-2 c = chains-end c.requires.1 (c.list_node-end.ensures _ (whole_listable c.requires.1)) refl

pub returns : goal.returns
returns c t w =
    let v = c.list_node-end.ensures _ (whole_listable w) in
    (rows-listed w v refl c.clear_from.ensures, chains-listed w v refl c.clear_from-2.ensures)
