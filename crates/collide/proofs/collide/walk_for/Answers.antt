-- Each turn of the walk of particle i: a leaf is met or is dry, an internal node is skipped or opened.
use Rattle.std.proofs.Common.{refl, sym, ◌∙◌, ◌≡◌, arith, rules}
use Rattle.std.proofs.lemmas.Result.{err_from_is_err_and}
use Rattle.rules.specs.declared.Visit.TheVariants.{Continue, Skip}
use Rattle.tree_walk.proofs.Visits.{reach, falls, room, turn-skip, turn-down, falls_down, chain, turn-leaf, turn-refused-leaf}
use Rattle.collide.proofs.RadiusLaws.{chain-below}
use Rattle.collide.proofs.CollideSteps.{sets-out, handed, node_step, leaf_met, leaf_dry}
use Rattle.collide.proofs.collide.walk_for.Goals as goal

pub loop-node-init : goal.loop-node-init
loop-node-init c =
    let a = c.args in
    (search rules, (c.requires.1.next, sets-out a.at.now a.radii.now a.strength a.i c.requires.1 _ c.begin.ensures))

pub overflow_add-visits : goal.overflow_add-visits
overflow_add-visits c =
    let t = handed _ _ _ _ c.loop-node.invariant.1.1 c.in-Some.ensures in
    omega (arith, (reach t).1, c.requires.3)

pub tag-requires : goal.tag-requires
tag-requires c =
    let t = handed _ _ _ _ c.loop-node.invariant.1.1 c.in-Some.ensures in
    (reach t).0

-- ---- a leaf

pub meet_first-requires : goal.meet_first-requires
meet_first-requires c =
    let t = handed _ _ _ _ c.loop-node.invariant.1.1 c.in-Some.ensures in
    let first = chain-below (chain t (λ z. c.if-tag-ne0.true (c.tag.ensures ∙ z))) in (
      record { places = c.requires.0.places; speeds = c.loop-node.auto.vs ∙ c.requires.0.speeds },
      c.requires.2,
      (reach t).0,
      omega (arith, c.if-tag-ne0.true, c.tag.ensures),
      omega (arith, first),
    )

pub loop-node-smaller-in-Continue-1 : goal.loop-node-smaller-in-Continue-1
loop-node-smaller-in-Continue-1 c =
    falls (handed _ _ _ _ c.loop-node.invariant.1.1 c.in-Some.ensures)

pub loop-node-preserved-in-Continue-1 : goal.loop-node-preserved-in-Continue-1
loop-node-preserved-in-Continue-1 c =
    let a = c.args in
    let t = handed _ _ _ _ c.loop-node.invariant.1.1 c.in-Some.ensures in (
      search rules,
      (
        c.loop-node.invariant.1.0,
        turn-leaf t (λ z. c.if-tag-ne0.true (c.tag.ensures ∙ z)) Continue
            (λ is f b h. leaf_met a.at.now a.radii.now a.strength a.i _ c.loop-node.invariant.1.0 is _ _ f b.tag c.in_ok-meet_first.ensures.is),
      ),
    )

pub returns-in_err-meet_first-clause-is : goal.returns-in_err-meet_first-clause-is
returns-in_err-meet_first-clause-is c =
    let a = c.args in
    let t = handed _ _ _ _ c.loop-node.invariant.1.1 c.in-Some.ensures in
    let e = err_from_is_err_and c.from_residual.result c.from_residual.ensures.1 in
    rw (e.1, e.2)
    (sym
    (turn-refused-leaf t (λ z. c.if-tag-ne0.true (c.tag.ensures ∙ z))
    (λ is f b h. leaf_dry a.at.now a.radii.now a.strength a.i _ c.loop-node.invariant.1.0 is _ _ f b.tag c.in_err-meet_first.ensures.is)))

pub returns-in_err-meet_first-clause-few : goal.returns-in_err-meet_first-clause-few
returns-in_err-meet_first-clause-few c =
    let t = handed _ _ _ _ c.loop-node.invariant.1.1 c.in-Some.ensures in
    omega (arith, (reach t).1)

-- ---- an internal node

pub below-requires : goal.below-requires
below-requires c =
    let t = handed _ _ _ _ c.loop-node.invariant.1.1 c.in-Some.ensures in
    (c.requires.0.places, c.requires.2, (reach t).0)

pub push_children-requires-clause-lent : goal.push_children-requires-clause-lent
push_children-requires-clause-lent c =
    let t = handed _ _ _ _ c.loop-node.invariant.1.1 c.in-Some.ensures in
    (reach t).0

pub push_children-requires-clause-room : goal.push_children-requires-clause-room
push_children-requires-clause-room c =
    room (handed _ _ _ _ c.loop-node.invariant.1.1 c.in-Some.ensures) (sym c.tag.ensures ∙ c.if-tag-ne0.false)

pub loop-node-smaller-in-Continue : goal.loop-node-smaller-in-Continue
loop-node-smaller-in-Continue c =
    falls_down (handed _ _ _ _ c.loop-node.invariant.1.1 c.in-Some.ensures) (sym c.tag.ensures ∙ c.if-tag-ne0.false) c.push_children.ensures

pub loop-node-preserved-in-Continue : goal.loop-node-preserved-in-Continue
loop-node-preserved-in-Continue c =
    let a = c.args in
    let t = handed _ _ _ _ c.loop-node.invariant.1.1 c.in-Some.ensures in (
      c.loop-node.invariant.0,
      (
        c.loop-node.invariant.1.0,
        turn-down t (sym c.tag.ensures ∙ c.if-tag-ne0.false) (node_step a.at.now a.radii.now a.strength a.i _ _ _ c.below.result Continue refl c.below.ensures c.in-Continue.is) c.push_children.ensures,
      ),
    )

pub loop-node-smaller : goal.loop-node-smaller
loop-node-smaller c =
    falls (handed _ _ _ _ c.loop-node.invariant.1.1 c.in-Some.ensures)

pub loop-node-preserved : goal.loop-node-preserved
loop-node-preserved c =
    let a = c.args in
    let t = handed _ _ _ _ c.loop-node.invariant.1.1 c.in-Some.ensures in
    let v : c.below.result ≡ Skip = cc in (
      c.loop-node.invariant.0,
      (
        c.loop-node.invariant.1.0,
        turn-skip t (sym c.tag.ensures ∙ c.if-tag-ne0.false) (node_step a.at.now a.radii.now a.strength a.i _ _ _ c.below.result Skip refl c.below.ensures v),
      ),
    )
