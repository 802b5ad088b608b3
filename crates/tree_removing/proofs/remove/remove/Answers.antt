-- `remove` takes a particle out of its chain and out of the tree, and the slots then hold the tree of those that are left.
use Rattle.std.proofs.Common.{◌≡◌, ◌-◌, refl, ap, ◌∙◌, arith}
use Rattle.tree_slots.specs.Slots.{put_leaf}
use Rattle.tree_slots.specs.Trees.{first}
use Rattle.tree_leaves.specs.Chain.{at_point}
use Rattle.tree_removing.proofs.Taking.{spot-leaf, rest-few, rest-holds}
use Rattle.tree_removing.proofs.Removing.{finds, member, rest-none, rest_some, rest-linked}
use Rattle.tree_removing.proofs.remove.remove.Goals as goal

pub leaf_of-spot-requires : goal.leaf_of-spot-requires
leaf_of-spot-requires c = (_, finds _ _ _ _ _ _ _ c.requires.1)

pub tag-tag-requires : goal.tag-tag-requires
tag-tag-requires c =
    let g = finds _ _ _ _ _ _ _ c.requires.1 in
    (spot-leaf _ _ _ _ _ g _ (c.leaf_of-spot.ensures _ g)).0

pub overflow_sub-first : goal.overflow_sub-first
overflow_sub-first c =
    let g = finds _ _ _ _ _ _ _ c.requires.1 in
    let w = (spot-leaf _ _ _ _ _ g _ (c.leaf_of-spot.ensures _ g)).1.tag in
    omega (arith, w, c.tag-tag.ensures)

pub leave-link-requires : goal.leave-link-requires
leave-link-requires c =
    let p = c.requires in
    let g = finds _ _ _ _ _ _ _ p.1 in
    let w = (spot-leaf _ _ _ _ _ g _ (c.leaf_of-spot.ensures _ g)).1.tag in
    let y : c.tag-tag.result - 1 ≡ first (at_point c.args.at.now p.0 c.args.i) = omega (arith, w, c.tag-tag.ensures) in
    (_, member _ _ _ _ _ _ _ p.1 _ y, p.1.lengths)

pub put_leaf-requires : goal.put_leaf-requires
put_leaf-requires c =
    let p = c.requires in
    let g = finds _ _ _ _ _ _ _ p.1 in
    let h = c.leaf_of-spot.ensures _ g in
    let s = spot-leaf _ _ _ _ _ g _ h in
    let w = s.1.tag in
    let y : c.tag-tag.result - 1 ≡ first (at_point c.args.at.now p.0 c.args.i) = omega (arith, w, c.tag-tag.ensures) in
    let z = rest_some _ _ _ _ _ _ _ p.1 _ y _ _ _ (c.leave-link.ensures _ (member _ _ _ _ _ _ _ p.1 _ y)) c.if-link-ne0.true in
    (s.0, omega (arith, z.1, rest-few _ _ _ _ _ g _ h z.0))

pub returns-then-link-ne0 : goal.returns-then-link-ne0
returns-then-link-ne0 c is g =
    let f = finds _ is _ _ _ _ _ g in
    let h = c.leaf_of-spot.ensures is f in
    let w = (spot-leaf _ is _ _ _ f _ h).1.tag in
    let y : c.tag-tag.result - 1 ≡ first (at_point c.args.at.now is c.args.i) = omega (arith, w, c.tag-tag.ensures) in
    let l = c.leave-link.ensures _ (member _ is _ _ _ _ _ g _ y) in
    let z = rest_some _ is _ _ _ _ _ g _ y _ _ _ l c.if-link-ne0.true in
    record {
      holds = rest-holds _ is _ _ _ f _ h z.0 c.put_leaf.new.m (c.put_leaf.ensures ∙ ap (put_leaf c.args.m.now c.leaf_of-spot.result.leaf) z.1);
      linked = rest-linked _ is _ _ _ _ _ g _ y _ _ _ l;
      extent = refl;
    }

pub cut-requires : goal.cut-requires
cut-requires c =
    let p = c.requires in
    let g = finds _ _ _ _ _ _ _ p.1 in
    let h = c.leaf_of-spot.ensures _ g in
    let w = (spot-leaf _ _ _ _ _ g _ h).1.tag in
    let y : c.tag-tag.result - 1 ≡ first (at_point c.args.at.now p.0 c.args.i) = omega (arith, w, c.tag-tag.ensures) in
    (_, g, h, rest-none _ _ _ _ _ _ _ p.1 _ y _ _ _ (c.leave-link.ensures _ (member _ _ _ _ _ _ _ p.1 _ y)) c.if-link-ne0.false)

pub returns : goal.returns
returns c is g =
    let f = finds _ is _ _ _ _ _ g in
    let h = c.leaf_of-spot.ensures is f in
    let w = (spot-leaf _ is _ _ _ f _ h).1.tag in
    let y : c.tag-tag.result - 1 ≡ first (at_point c.args.at.now is c.args.i) = omega (arith, w, c.tag-tag.ensures) in
    let l = c.leave-link.ensures _ (member _ is _ _ _ _ _ g _ y) in
    let z = c.cut.ensures is f h (rest-none _ is _ _ _ _ _ g _ y _ _ _ l c.if-link-ne0.false) in
    record { holds = z.0; linked = rest-linked _ is _ _ _ _ _ g _ y _ _ _ l; extent = z.1 }
