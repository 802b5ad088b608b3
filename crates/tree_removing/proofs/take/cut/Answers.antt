-- `cut` takes the leaf of i out of the tree, and what has one leaf left below it becomes that leaf.
use Rattle.std.proofs.Common.{refl, ◌∙◌, arith}
use Rattle.tree_removing.proofs.Taking.{cut-root, cut-slot, cut-hollow, cut-tidies, cut-done}
use Rattle.tree_removing.proofs.take.cut.Goals as goal

pub returns-in_default : goal.returns-in_default
returns-in_default c is g h gone = (cut-root _ is _ _ _ g _ h gone c.in_default.is, refl)

pub children-children-requires : goal.children-children-requires
children-children-requires c = let p = c.requires in (cut-slot _ _ _ _ _ p.1 _ p.2 p.3 _ c.in-Some.is).0

pub offset_bounds-children-edge : goal.offset_bounds-children-edge
offset_bounds-children-edge c =
    let p = c.requires in
    let l = (cut-slot _ _ _ _ _ p.1 _ p.2 p.3 _ c.in-Some.is).1 in
    omega arith

pub bounds-children-edge : goal.bounds-children-edge
bounds-children-edge c = let p = c.requires in (cut-slot _ _ _ _ _ p.1 _ p.2 p.3 _ c.in-Some.is).1

pub put_internal-requires : goal.put_internal-requires
put_internal-requires c = let p = c.requires in (cut-slot _ _ _ _ _ p.1 _ p.2 p.3 _ c.in-Some.is).0

pub fewer-requires : goal.fewer-requires
fewer-requires c = let p = c.requires in (cut-slot _ _ _ _ _ p.1 _ p.2 p.3 _ c.in-Some.is).2

pub fill-filled-requires : goal.fill-filled-requires
fill-filled-requires c =
    let p = c.requires in
    rw c.fewer.ensures (cut-hollow _ _ _ _ _ p.1 _ p.2 p.3 _ c.in-Some.is _ c.children-children.ensures _ c.put_internal.ensures)

pub tidy-requires : goal.tidy-requires
tidy-requires c =
    let p = c.requires in
    cut-tidies _ _ _ _ _ p.1 _ p.2 p.3 _ c.in-Some.is _ c.children-children.ensures _ c.put_internal.ensures _ _ c.fewer.ensures _ (c.fill-filled.auto.m ∙ c.put_internal.auto.m) c.fill-filled.ensures

pub returns : goal.returns
returns c is g h gone =
    cut-done _ is _ _ _ g _ h gone _ c.in-Some.is _ c.children-children.ensures _ c.put_internal.ensures _ _ c.fewer.ensures _ (c.fill-filled.auto.m ∙ c.put_internal.auto.m) c.fill-filled.ensures _ _ c.tidy.auto.m c.tidy.ensures
