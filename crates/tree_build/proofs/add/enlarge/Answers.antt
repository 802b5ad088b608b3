-- `enlarge` wraps the tree in the extent with p, or refuses where the rules refuse the tree with p.
use Rattle.std.proofs.Common.{sym, ◌∙◌, arith}
use Rattle.tree_build.proofs.AddInsert.{leaf-enlarged, bounded, enlarge-deep, enlarge-full, enlarge-asks}
use Rattle.tree_build.proofs.add.enlarge.Goals as goal

pub returns-then-tag-ne0 : goal.returns-then-tag-ne0
returns-then-tag-ne0 c is g =
    leaf-enlarged _ _ _ _ c.args.covered _ g c.requires.2 (λ z. c.if-tag-ne0.true (c.tag.ensures ∙ z))

pub deepest-deepest-requires : goal.deepest-deepest-requires
deepest-deepest-requires c =
    (_, bounded _ _ _ _ c.requires.1.holds c.requires.2, omega (arith, c.requires.3.covered.few))

pub overflow_add-deepest : goal.overflow_add-deepest
overflow_add-deepest c =
    let d = c.deepest-deepest.ensures _ (bounded _ _ _ _ c.requires.1.holds c.requires.2) in
    omega (arith, d.shallow, c.requires.3.covered.few)

pub returns-then-deepest-w-gt-GREATEST_LEVEL : goal.returns-then-deepest-w-gt-GREATEST_LEVEL
returns-then-deepest-w-gt-GREATEST_LEVEL c is g =
    enlarge-deep _ _ _ _ c.args.covered _ g c.requires.2 (sym c.tag.ensures ∙ c.if-tag-ne0.false) c.requires.3 _ (c.deepest-deepest.ensures _ (bounded _ _ _ _ g.holds c.requires.2)) (omega arith) c.args.m.now

pub returns-then-slots-q : goal.returns-then-slots-q
returns-then-slots-q c is g =
    enlarge-full _ _ _ _ c.args.covered _ g c.requires.2 (sym c.tag.ensures ∙ c.if-tag-ne0.false) c.requires.3 _ (c.deepest-deepest.ensures _ (bounded _ _ _ _ g.holds c.requires.2)) (omega arith) (omega (arith, c.slots.ensures))

pub wrap-requires : goal.wrap-requires
wrap-requires c =
    let g = c.requires.1 in
    (_, enlarge-asks _ _ _ _ c.args.covered _ g c.requires.2 (sym c.tag.ensures ∙ c.if-tag-ne0.false) c.requires.3 _ (c.deepest-deepest.ensures _ (bounded _ _ _ _ g.holds c.requires.2)) (omega arith) (omega (arith, c.slots.ensures)))

pub returns : goal.returns
returns c is g =
    c.wrap.ensures is
    (enlarge-asks _ _ _ _ c.args.covered _ g c.requires.2 (sym c.tag.ensures ∙ c.if-tag-ne0.false) c.requires.3 _ (c.deepest-deepest.ensures _ (bounded _ _ _ _ g.holds c.requires.2)) (omega arith) (omega (arith, c.slots.ensures)))
