-- A node that is met acts as the rules' step says, and the walk goes on, or a draw is lacking.
use Rattle.std.proofs.Common.{◌≡◌, ◌-◌, List, ℕ, length, refl, sym, ◌∙◌, rules, arith}
use Rattle.rules.specs.declared.Visit.TheVariants.{Skip}
use Rattle.rules.specs.Flow.{flow}
use Rattle.rules.specs.Walk.{counted}
use Rattle.rules.specs.ManyBody.{charged_tree, many_body_step}
use Rattle.tree_slots.specs.Trees.{word, InternalIn, LeafIn, Follows}
use Rattle.tree_walk.proofs.Visits.{Visited, few, reach, falls, room, turn-skip, turn-down, falls_down, chain, turn-leaf}
use Rattle.force.specs.Draws.{left}
use Rattle.many_body_chains.specs.Chain.{Few, Chain}
use Rattle.many_body_node.specs.NodePull.{node_at}
use Rattle.many_body.proofs.ManyBodyWalk.{charged_nodes, pull-start, refused_there}
use Rattle.many_body.proofs.many_body.pull.Goals as goal
use Rattle.many_body.proofs.many_body.pull.Goals.{In-Some, Then-tag-eq0, Else-tag-eq0}

-- a turn, with the node on top taken
turn : (c : In-Some)
    → Visited (many_body_step c.args.t c.args.at.now c.args.strengths.now c.args.alpha c.args.i) (node_at c.args.m.now) (Few (length c.args.strengths.now)) c.args.m.now c.args.next.now
    (charged_tree c.args.at.now c.args.strengths.now) (counted (flow c.args.vs.now (left c.args.draws.now)) c.args.visits.now) c.loop-node.walk
    (counted (flow c.loop-node.vs (left c.loop-node.draws)) c.loop-node.visits) c.in-Some.node c.pop.new.self
turn c = record { visiting = c.loop-node.invariant.walking; popped = c.in-Some.ensures }

internal : (c : Then-tag-eq0) → InternalIn c.args.m.now c.in-Some.node.slot
internal c = sym c.tag.ensures ∙ c.if-tag-eq0.true

leaf : (c : Else-tag-eq0) → InternalIn c.args.m.now c.in-Some.node.slot → ⊥
leaf c z = c.if-tag-eq0.false (c.tag.ensures ∙ z)

-- the chain that the walk hands over
handed : (next m : List ℕ) (n s : ℕ) (is : List ℕ) → Follows next is → LeafIn m s is → Few n is → Chain next n (word m s 0 - 1)
handed next m n s is f b p = record { members = is; follows = f; starts = omega (arith, b.tag); good = p }

pub loop-node-init : goal.loop-node-init
loop-node-init c =
    record {
      further = record { same = refl; begun = omega arith };
      walking = pull-start c.args.at.now c.args.strengths.now c.requires.charged c.args.t c.args.alpha c.args.i _ c.begin.ensures;
    }

-- one node more is one of the tree's
pub overflow_add-visits : goal.overflow_add-visits
overflow_add-visits c =
    let t = turn (goal.at.overflow_add-visits c).In-Some in
    omega (arith, (reach t).1, charged_nodes c.args.at.now c.args.strengths.now c.requires.charged, c.requires.bodies)

pub many_body_step-requires-clause-bodies : goal.many_body_step-requires-clause-bodies
many_body_step-requires-clause-bodies c =
    let b = c.requires.bodies.0 in
    let t = turn (goal.at.many_body_step-requires-clause-bodies c).In-Some in
    (record { few = b.few; places = b.places; speeds = c.loop-node.auto.vs ∙ b.speeds; links = b.links }, c.requires.bodies.1, (reach t).0)

pub many_body_step-requires-clause-chain : goal.many_body_step-requires-clause-chain
many_body_step-requires-clause-chain c = λ z. chain (turn (goal.at.many_body_step-requires-clause-chain c).In-Some) z

pub returns-in_err-below-clause-is : goal.returns-in_err-below-clause-is
unfolding handed
returns-in_err-below-clause-is c =
    let t = turn (goal.at.returns-in_err-below-clause-is c).In-Some in
    let e = refused_there t (λ z. sym (c.in_err-below.ensures.inner z)) (λ z is f b p. sym (c.in_err-below.ensures.leaf z (handed c.args.next.now c.args.m.now (length c.args.strengths.now) _ is f b p))) in
    search rules

pub returns-in_err-below-clause-count : goal.returns-in_err-below-clause-count
returns-in_err-below-clause-count c =
    let t = turn (goal.at.returns-in_err-below-clause-count c).In-Some in
    omega (arith, (reach t).1, charged_nodes c.args.at.now c.args.strengths.now c.requires.charged)

pub tag-requires : goal.tag-requires
tag-requires c = (reach (turn (goal.at.tag-requires c).In-Some)).0

pub push_children-requires-clause-lent : goal.push_children-requires-clause-lent
push_children-requires-clause-lent c = (reach (turn (goal.at.push_children-requires-clause-lent c).In-Some)).0

pub push_children-requires-clause-room : goal.push_children-requires-clause-room
push_children-requires-clause-room c =
    let at = goal.at.push_children-requires-clause-room c in
    room (turn at.In-Some) (internal at.Then-tag-eq0)

pub loop-node-smaller-in-Continue : goal.loop-node-smaller-in-Continue
loop-node-smaller-in-Continue c =
    let at = goal.at.loop-node-smaller-in-Continue c in
    falls_down (turn at.In-Some) (internal at.Then-tag-eq0) c.push_children.ensures

pub loop-node-preserved-in-Continue : goal.loop-node-preserved-in-Continue
loop-node-preserved-in-Continue c =
    let at = goal.at.loop-node-preserved-in-Continue c in
    let z = internal at.Then-tag-eq0 in
    record {
      further = search rules;
      walking = turn-down (turn at.In-Some) z (rw c.in-Continue.is at (sym (c.in_ok-below.ensures.inner z))) c.push_children.ensures;
    }

pub loop-node-smaller-in_default-below : goal.loop-node-smaller-in_default-below
loop-node-smaller-in_default-below c = falls (turn (goal.at.loop-node-smaller-in_default-below c).In-Some)

pub loop-node-preserved-in_default-below : goal.loop-node-preserved-in_default-below
loop-node-preserved-in_default-below c =
    let at = goal.at.loop-node-preserved-in_default-below c in
    let z = internal at.Then-tag-eq0 in
    let v : c.in_ok-below.below ≡ Skip = cc in
    record { further = search rules; walking = turn-skip (turn at.In-Some) z (rw v at (sym (c.in_ok-below.ensures.inner z))) }

pub loop-node-smaller : goal.loop-node-smaller
loop-node-smaller c = falls (turn (goal.at.loop-node-smaller c).In-Some)

pub loop-node-preserved : goal.loop-node-preserved
unfolding handed
loop-node-preserved c =
    let at = goal.at.loop-node-preserved c in
    let z = leaf at.Else-tag-eq0 in
    record {
      further = search rules;
      walking = turn-leaf (turn at.In-Some) z c.in_ok-below.below
          (λ is f b p. sym (c.in_ok-below.ensures.leaf z (handed c.args.next.now c.args.m.now (length c.args.strengths.now) _ is f b p)));
    }

pub returns-clause-count : goal.returns-clause-count
returns-clause-count c = omega (arith, few c.loop-node.invariant.walking, charged_nodes c.args.at.now c.args.strengths.now c.requires.charged)
