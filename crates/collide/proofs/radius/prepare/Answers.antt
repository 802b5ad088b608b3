-- Each turn lays the radius of the node that was handed out.
use Rattle.std.proofs.Common.{List, ℕ, length, sym, ap, ◌∙◌, arith, rules}
use Rattle.std.specs.Prelude.{Float}
use Rattle.rules.specs.Collide.{leaf_radius, node_radius}
use Rattle.tree_slots.specs.Trees.{Below, put_value}
use Rattle.tree_walk.proofs.WalkStands.{chains-below}
use Rattle.tree_walk.proofs.WalkValues.{one_value}
use Rattle.tree_walk.proofs.Laying.{start, climbing, reach, falls, kids-lent, chain, turn-node, turn-leaf, finish-read}
use Rattle.collide.specs.Radius.{radius_in}
use Rattle.collide.proofs.RadiusLaws.{leaf_fits, node_fits, chain-below, leaf_radius_lem}
use Rattle.collide.proofs.radius.prepare.Goals as goal
use Rattle.collide.proofs.radius.prepare.Goals.{then-tag-eq0, else-tag-eq0}

abbrev write : List ℕ → ℕ → Float → List ℕ
write m s x = put_value m s 0 x

pub loop-slot-init : goal.loop-slot-init
loop-slot-init c = λ s.
    let n = length c.args.radii.now in
    start radius_in write (leaf_radius c.args.radii.now) node_radius (Below n) s.stands (chains-below s.at n s.stands) _ c.begin-path.ensures

pub next-requires : goal.next-requires
next-requires c = climbing (c.loop-slot.invariant c.requires)

pub tag-tag-requires : goal.tag-tag-requires
tag-tag-requires c = reach (record { laying = c.loop-slot.invariant c.requires; went = c.in-Some.ensures })

pub greatest_below-radius-requires : goal.greatest_below-radius-requires
greatest_below-radius-requires c = (
  reach (record { laying = c.loop-slot.invariant c.requires; went = c.in-Some.ensures }),
  kids-lent (record { laying = c.loop-slot.invariant c.requires; went = c.in-Some.ensures }) (sym c.tag-tag.ensures ∙ c.if-tag-eq0.true),
)

pub radius_of-radius-requires : goal.radius_of-radius-requires
radius_of-radius-requires c =
    let first = chain-below (chain (record { laying = c.loop-slot.invariant c.requires; went = c.in-Some.ensures }) (λ z. c.if-tag-eq0.false (c.tag-tag.ensures ∙ z))) in
    omega (arith, first, c.tag-tag.ensures)

pub put_value-requires : goal.put_value-requires
put_value-requires c = (reach (record { laying = c.loop-slot.invariant c.requires; went = c.in-Some.ensures }), search rules)

pub loop-slot-smaller : goal.loop-slot-smaller
loop-slot-smaller c =
    falls (record { laying = c.loop-slot.invariant c.requires; went = c.in-Some.ensures }) one_value _ c.put_value.ensures

-- an internal node's radius, or a leaf's, is the rule's
pub loop-slot-preserved : goal.loop-slot-preserved
loop-slot-preserved c = λ s.
    let lay = write c.loop-slot.m c.in-Some.slot in
    elim c.if-tag-eq0.branch [
      | then-tag-eq0 w ↦
          turn-node (record { laying = c.loop-slot.invariant s; went = c.in-Some.ensures }) (sym c.tag-tag.ensures ∙ w.if-tag-eq0.true) one_value c.put_value.new.m
          (c.put_value.ensures ∙ ap lay (w.radius-is ∙ w.greatest_below-radius.ensures))
      | else-tag-eq0 w ↦
          turn-leaf (record { laying = c.loop-slot.invariant s; went = c.in-Some.ensures }) (λ z. w.if-tag-eq0.false (c.tag-tag.ensures ∙ z)) one_value c.put_value.new.m
          (λ is f b p.
          c.put_value.ensures ∙ ap lay (w.radius-is ∙ w.radius_of-radius.ensures ∙ rw c.tag-tag.ensures (leaf_radius_lem c.args.radii.now s.next is _ f b.tag)))
    ]

-- ---- the end

pub returns : goal.returns
returns c = λ s.
    let n = length c.args.radii.now in
    record {
      next = s.next;
      valued = finish-read one_value (leaf_radius c.args.radii.now) node_radius (Below n) (λ is p. leaf_fits c.args.radii.now c.type_inv.radii is) node_fits s.stands (chains-below s.at n s.stands)
          c.in_default.ensures (c.loop-slot.invariant s);
    }
