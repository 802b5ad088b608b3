-- `lone` finds the last internal node on the way of i if it has one child, a leaf.
use Rattle.std.proofs.Common.{ℕ, ◌-◌, sym, ap, ◌∙◌, subst, arith}
use Rattle.tree_slots.specs.Slots.{word, InSlots}
use Rattle.tree_removing.specs.Remove.{FoldsAt}
use Rattle.tree_removing.proofs.Folding.{lone_none, lone_leaf, lone_tops, lone-slot, lone-some, lone-many, lone-child, lone-inner, lone-fold}
use Rattle.tree_removing.proofs.tidy.lone.Goals as goal
use Rattle.tree_removing.proofs.tidy.lone.Goals.{then-q-eq0-via-then-q-eq0, then-q-eq0-via-else-q-eq0+then-tag-ne0}

pub returns-then-q-eq0 : goal.returns-then-q-eq0
returns-then-q-eq0 c t g =
    elim c.then-q-eq0.branch [
      | then-q-eq0-via-then-q-eq0 w ↦ lone_none _ _ _ _ t g w.if-q-eq0.true
      | then-q-eq0-via-else-q-eq0+then-tag-ne0 w ↦ lone_leaf _ _ _ _ t g w.if-q-eq0.false (λ z. w.if-tag-ne0.true (w.tag.ensures ∙ z))
    ]

pub inner-edge-requires : goal.inner-edge-requires
inner-edge-requires c = (_, lone_tops _ _ _ _ _ c.requires.1 c.if-q-eq0.false (sym c.tag.ensures ∙ c.if-tag-ne0.false))

pub children-children-requires : goal.children-children-requires
children-children-requires c =
    let g = c.requires.1 in
    let n = c.inner-edge.ensures _ (lone_tops _ _ _ _ _ g c.if-q-eq0.false (sym c.tag.ensures ∙ c.if-tag-ne0.false)) in
    lone-slot _ _ _ _ _ g _ n

pub returns-in_err-first : goal.returns-in_err-first
returns-in_err-first c t g =
    let n = c.inner-edge.ensures t (lone_tops _ _ _ _ t g c.if-q-eq0.false (sym c.tag.ensures ∙ c.if-tag-ne0.false)) in
    absurd (omega (arith, c.in_err-first.ensures, lone-some _ _ _ _ t g _ n _ c.children-children.ensures))

pub returns-then-child_count-ne1 : goal.returns-then-child_count-ne1
returns-then-child_count-ne1 c t g =
    let n = c.inner-edge.ensures t (lone_tops _ _ _ _ t g c.if-q-eq0.false (sym c.tag.ensures ∙ c.if-tag-ne0.false)) in
    lone-many _ _ _ _ t g _ n _ c.children-children.ensures (λ z. c.if-child_count-ne1.true (c.child_count.ensures ∙ z))

pub tag-requires-2 : goal.tag-requires-2
tag-requires-2 c =
    let g = c.requires.1 in
    let n = c.inner-edge.ensures _ (lone_tops _ _ _ _ _ g c.if-q-eq0.false (sym c.tag.ensures ∙ c.if-tag-ne0.false)) in
    subst (λ (y : ℕ). InSlots (y - 1) c.args.m.now) (sym c.in_ok-first.ensures.0) (lone-child _ _ _ _ _ g _ n _ c.children-children.ensures (sym c.child_count.ensures ∙ c.if-child_count-ne1.false)).1

pub returns-then-tag-eq0 : goal.returns-then-tag-eq0
returns-then-tag-eq0 c t g =
    let n = c.inner-edge.ensures t (lone_tops _ _ _ _ t g c.if-q-eq0.false (sym c.tag.ensures ∙ c.if-tag-ne0.false)) in
    lone-inner _ _ _ _ t g _ n _ c.children-children.ensures (sym c.child_count.ensures ∙ c.if-child_count-ne1.false)
    (ap (λ (y : ℕ). word c.args.m.now (y - 1) 0) (sym c.in_ok-first.ensures.0) ∙ sym c.tag-2.ensures ∙ c.if-tag-eq0.true)

pub returns : goal.returns
returns c t g =
    let n = c.inner-edge.ensures t (lone_tops _ _ _ _ t g c.if-q-eq0.false (sym c.tag.ensures ∙ c.if-tag-ne0.false)) in
    subst (λ (y : ℕ). FoldsAt c.args.at.now c.args.q.extent t c.args.i c.inner-edge.result.slot (y - 1)) (sym c.in_ok-first.ensures.0)
    (lone-fold _ _ _ _ t g _ n _ c.children-children.ensures (sym c.child_count.ensures ∙ c.if-child_count-ne1.false) (λ z. c.if-tag-eq0.false (c.tag-2.ensures ∙ ap (λ (y : ℕ). word c.args.m.now (y - 1) 0) c.in_ok-first.ensures.0 ∙ z)))
