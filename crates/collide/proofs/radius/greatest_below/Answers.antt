-- A child's radius is taken where there is a child and its radius is greater.
use Rattle.std.proofs.Common.{◌<◌, length, ap, ◌∙◌, arith}
use Rattle.rules.specs.Collide.{greater}
use Rattle.tree_walk.proofs.WalkAfter.{fold-none, fold-some}
use Rattle.collide.specs.Radius.{radius_in}
use Rattle.collide.proofs.radius.greatest_below.Goals as goal
use Rattle.collide.proofs.radius.greatest_below.Goals.{then-child-ne0, else-child-ne0}

pub loop-child-preserved : goal.loop-child-preserved
loop-child-preserved c =
    let l = c.loop-child in
    let ks = c.children-child-items.result in
    let h : l.child-index < length ks = omega (arith, ap length c.children-child-items.ensures, c.loop-child-test.true) in
    elim c.if-child-ne0.branch [
      | then-child-ne0 w ↦ l.invariant ∙ fold-some radius_in greater c.args.m.now ks l.child-index h l.greatest w.if-child-ne0.true ∙ rw (w.greatest-is, w.greater-greatest.ensures, w.node_value.ensures)
      | else-child-ne0 w ↦ l.invariant ∙ fold-none radius_in greater c.args.m.now ks l.child-index h l.greatest w.if-child-ne0.false ∙ rw w.greatest-is
    ]
