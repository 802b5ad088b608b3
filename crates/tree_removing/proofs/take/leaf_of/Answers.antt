-- `leaf_of` finds the leaf of i and the node above it.
use Rattle.std.proofs.Common.{sym, ◌∙◌, arith}
use Rattle.tree_removing.proofs.Spotting.{rooted, root_there, spot_root, spot_tops, spot-slot, spot-child, spot-below}
use Rattle.tree_removing.proofs.take.leaf_of.Goals as goal

pub overflow_sub-root : goal.overflow_sub-root
overflow_sub-root c = rooted _ c.requires.0 _ _ _ c.requires.1

pub tag-requires : goal.tag-requires
tag-requires c = root_there _ c.requires.0 _ _ _ c.requires.1

pub returns-then-tag-ne0 : goal.returns-then-tag-ne0
returns-then-tag-ne0 c is g = spot_root _ is _ _ _ g (λ z. c.if-tag-ne0.true (c.tag.ensures ∙ z))

pub inner-edge-requires : goal.inner-edge-requires
inner-edge-requires c = (_, spot_tops _ _ _ _ _ c.requires.1 (sym c.tag.ensures ∙ c.if-tag-ne0.false))

pub children-children-requires : goal.children-children-requires
children-children-requires c =
    let g = c.requires.1 in
    (spot-slot _ _ _ _ _ g _ (c.inner-edge.ensures g.holds.tree (spot_tops _ _ _ _ _ g (sym c.tag.ensures ∙ c.if-tag-ne0.false)))).0

pub offset_bounds-children-edge : goal.offset_bounds-children-edge
offset_bounds-children-edge c =
    let g = c.requires.1 in
    let l = (spot-slot _ _ _ _ _ g _ (c.inner-edge.ensures g.holds.tree (spot_tops _ _ _ _ _ g (sym c.tag.ensures ∙ c.if-tag-ne0.false)))).1 in
    omega arith

pub bounds-children-edge : goal.bounds-children-edge
bounds-children-edge c =
    let g = c.requires.1 in
    (spot-slot _ _ _ _ _ g _ (c.inner-edge.ensures g.holds.tree (spot_tops _ _ _ _ _ g (sym c.tag.ensures ∙ c.if-tag-ne0.false)))).1

pub overflow_sub-result : goal.overflow_sub-result
overflow_sub-result c =
    let g = c.requires.1 in
    spot-child _ _ _ _ _ g _ (c.inner-edge.ensures g.holds.tree (spot_tops _ _ _ _ _ g (sym c.tag.ensures ∙ c.if-tag-ne0.false))) _ c.children-children.ensures

pub returns : goal.returns
returns c is g = spot-below _ is _ _ _ g _ (c.inner-edge.ensures g.holds.tree (spot_tops _ is _ _ _ g (sym c.tag.ensures ∙ c.if-tag-ne0.false))) _ c.children-children.ensures
