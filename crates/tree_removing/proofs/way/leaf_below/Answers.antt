-- `leaf_below` goes down from a slot to a leaf, and answers the leaf's first particle.
use Rattle.std.proofs.Common.{◌≡◌, ℕ, ◌+◌, ◌-◌, ◌<◌, sym, ap, ◌∙◌, subst, arith}
use Rattle.tree_slots.specs.Slots.{kids}
use Rattle.tree_removing.specs.Remove.{LeafOf}
use Rattle.tree_removing.specs.Ways.{some_kid}
use Rattle.tree_removing.proofs.Turns.{height, Deeper, deeper_leaf, deeper-turn}
use Rattle.tree_removing.proofs.way.leaf_below.Goals as goal

pub returns-then-tag-ne0 : goal.returns-then-tag-ne0
returns-then-tag-ne0 c t g =
    subst (λ (w : ℕ). LeafOf (w - 1) t) (sym c.tag-tag.ensures) (deeper_leaf _ t _ (c.loop-s.invariant t g) (λ z. c.if-tag-ne0.true (c.tag-tag.ensures ∙ z)))

pub loop-s-smaller : goal.loop-s-smaller
loop-s-smaller c =
    let d = deeper-turn _ _ _ (c.loop-s.invariant c.requires.0 c.requires.1) (sym c.tag-tag.ensures ∙ c.if-tag-ne0.false) in
    let k = rw c.unwrap-child.ensures at c.some_child.ensures in
    let n : c.unwrap-child.result - 1 + 1 ≡ some_kid (kids c.args.m.now c.loop-s.x) = omega (arith, k, ap some_kid c.children.ensures) in
    subst (λ (p : ℕ). height 65 c.args.m.now p < height 65 c.args.m.now (c.loop-s.x + 1)) (sym n) d.1

pub loop-s-preserved : goal.loop-s-preserved
loop-s-preserved c t g =
    let d = deeper-turn _ t _ (c.loop-s.invariant t g) (sym c.tag-tag.ensures ∙ c.if-tag-ne0.false) in
    let k = rw c.unwrap-child.ensures at c.some_child.ensures in
    subst (λ (p : ℕ). Deeper c.args.m.now t (p - 1)) (sym (k.0 ∙ ap some_kid c.children.ensures)) d.2
