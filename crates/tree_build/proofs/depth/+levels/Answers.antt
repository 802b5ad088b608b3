-- `levels` counts the levels of a tree in slots, by calling itself for each child.
use Rattle.std.proofs.Common.{◌≡◌, sym, ◌∙◌, arith}
use Rattle.tree_build.proofs.Levels.{goes_some, goes_child, below_more, below_all}
use Rattle.tree_build.proofs.depth.+levels.Goals as goal

pub levels-requires : goal.levels-requires
levels-requires t c =
    let g = c.requires.1 in (
      omega (arith, (goes_some _ _ _ _ g c.if-p-eq0.false).1, c.decreases),
      (_, goes_child _ _ _ _ _ g c.if-p-eq0.false (sym c.tag.ensures ∙ c.if-tag-ne0.false) c.children-child-items.ensures _ (omega arith)),
    )

pub overflow_add-result : goal.overflow_add-result
overflow_add-result t c =
    let g = c.requires.1 in
    let all : c.loop-child.child-index ≡ 4 = omega arith in
    let e = rw all at (c.loop-child.invariant _ g) in
    omega (arith, g.levels, below_all _ _ _ _ g c.if-p-eq0.false (sym c.tag.ensures ∙ c.if-tag-ne0.false))

pub loop-child-preserved : goal.loop-child-preserved
loop-child-preserved t c x g =
    let l = c.levels.ensures _ (goes_child _ _ _ _ x g c.if-p-eq0.false (sym c.tag.ensures ∙ c.if-tag-ne0.false) c.children-child-items.ensures _ (omega arith)) in
    omega (arith, c.max-below.ensures, c.loop-child.invariant x g, below_more x c.loop-child.child-index)

pub returns : goal.returns
returns t c x g =
    let all : c.loop-child.child-index ≡ 4 = omega arith in
    let e = rw all at (c.loop-child.invariant x g) in
    omega (arith, below_all _ _ _ x g c.if-p-eq0.false (sym c.tag.ensures ∙ c.if-tag-ne0.false))
