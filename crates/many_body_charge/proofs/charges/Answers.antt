-- At each turn the nodes that were taken so far, children first, have their charges.
use Rattle.std.proofs.Common.{◌-◌, sym, ap, ◌∙◌, arith, length}
use Rattle.rules.specs.ManyBody.{leaf_charge, node_charge}
use Rattle.tree_slots.specs.Trees.{InternalIn, Stands}
use Rattle.tree_walk.proofs.Laying.{Taken, start, climbing, reach, kids-lent, chain, turn-node, turn-leaf, falls, finish}
use Rattle.many_body_chains.specs.Chain.{Few, Chain}
use Rattle.many_body_charge.specs.Charge.{read_charge, put_charge}
use Rattle.many_body_charge.proofs.ChargeChain.{chains-few}
use Rattle.many_body_charge.proofs.ChargeLaws.{charge_values, node_fit, leaf_fit}
use Rattle.many_body_charge.proofs.charges.Goals as goal
use Rattle.many_body_charge.proofs.charges.Goals.{At-loop-slot, In-Some, Then-tag-eq0, Else-tag-eq0}

-- a turn, over a tree that stood in the slots
taken : (c : In-Some) (s : Stands c.args.at.now (length c.args.strengths.now) c.args.m.now c.args.next.now c.args.q)
    → Taken read_charge put_charge (leaf_charge c.args.at.now c.args.strengths.now) node_charge (Few (length c.args.strengths.now)) c.args.next.now s.tree c.args.m.now c.loop-slot.m c.loop-slot.path c.next.new.self c.in-Some.slot
taken c s = record { laying = c.loop-slot.invariant s; went = c.in-Some.ensures }

internal : (c : Then-tag-eq0) → InternalIn c.loop-slot.m c.in-Some.slot
internal c = sym c.tag-tag.ensures ∙ c.if-tag-eq0.true

leaf : (c : Else-tag-eq0) → InternalIn c.loop-slot.m c.in-Some.slot → ⊥
leaf c z = c.if-tag-eq0.false (c.tag-tag.ensures ∙ z)

pub loop-slot-init : goal.loop-slot-init
loop-slot-init c = λ s.
    let n = length c.args.strengths.now in
    start read_charge put_charge (leaf_charge c.args.at.now c.args.strengths.now) node_charge (Few n) s (chains-few c.args.at.now n s) c.begin-path.result c.begin-path.ensures

pub next-requires : goal.next-requires
next-requires c = climbing (c.loop-slot.invariant c.requires.stands)

pub tag-tag-requires : goal.tag-tag-requires
tag-tag-requires c = reach (taken (goal.at.tag-tag-requires c).In-Some c.requires.stands)

pub node_charge-requires : goal.node_charge-requires
node_charge-requires c =
    let at = goal.at.node_charge-requires c in
    let t = taken at.In-Some c.requires.stands in
    (reach t, kids-lent t (internal at.Then-tag-eq0))

pub put_charge-requires : goal.put_charge-requires
put_charge-requires c = reach (taken (goal.at.put_charge-requires c).In-Some c.requires.stands)

pub loop-slot-smaller-then-tag-eq0 : goal.loop-slot-smaller-then-tag-eq0
loop-slot-smaller-then-tag-eq0 c = falls (taken (goal.at.loop-slot-smaller-then-tag-eq0 c).In-Some c.requires.stands) charge_values _ c.put_charge.ensures

pub loop-slot-preserved-then-tag-eq0 : goal.loop-slot-preserved-then-tag-eq0
loop-slot-preserved-then-tag-eq0 c = λ s.
    let at = goal.at.loop-slot-preserved-then-tag-eq0 c in
    turn-node (taken at.In-Some s) (internal at.Then-tag-eq0) charge_values c.put_charge.new.m
    (c.put_charge.ensures ∙ ap (put_charge c.loop-slot.m c.in-Some.slot) c.node_charge.ensures)

pub leaf_charge-requires : goal.leaf_charge-requires
leaf_charge-requires c =
    let at = goal.at.leaf_charge-requires c in
    let n = length c.args.strengths.now in
    let h : Chain c.args.next.now n (c.tag-tag.result - 1) = rw c.tag-tag.ensures (chain (taken at.In-Some c.requires.stands) (leaf at.Else-tag-eq0)) in
    (h, c.requires.next_len.0, c.requires.next_len.1)

pub put_charge-requires-else-tag-eq0 : goal.put_charge-requires-else-tag-eq0
put_charge-requires-else-tag-eq0 c = reach (taken (goal.at.put_charge-requires-else-tag-eq0 c).In-Some c.requires.stands)

pub loop-slot-smaller : goal.loop-slot-smaller
loop-slot-smaller c = falls (taken (goal.at.loop-slot-smaller c).In-Some c.requires.stands) charge_values _ c.put_charge-else-tag-eq0.ensures

pub loop-slot-preserved : goal.loop-slot-preserved
loop-slot-preserved c = λ s.
    let at = goal.at.loop-slot-preserved c in
    turn-leaf (taken at.In-Some s) (leaf at.Else-tag-eq0) charge_values c.put_charge-else-tag-eq0.new.m
    (λ is f b p.
    c.put_charge-else-tag-eq0.ensures
    ∙ ap (put_charge c.loop-slot.m c.in-Some.slot)
    (c.leaf_charge.ensures (record { members = is; follows = f; starts = omega (arith, b.tag, c.tag-tag.ensures); good = p })))

pub returns : goal.returns
returns c =
    let n = length c.args.strengths.now in
    finish charge_values (leaf_charge c.args.at.now c.args.strengths.now) node_charge (Few n) (leaf_fit c.args.at.now c.args.strengths.now c.type_inv.at n) node_fit
    c.requires.stands (chains-few c.args.at.now n c.requires.stands) c.in_default.ensures (c.loop-slot.invariant c.requires.stands)
