-- `place` puts a particle where its way ends, and the slots then hold the tree with it, or it is refused as the rules do.
use Rattle.std.proofs.Common.{Ok, sym, ◌∙◌, arith}
use Rattle.tree_placing.proofs.AddPlaced.{placed, few, first-less, leaf-new-point, hole-most, hole-new-point, grown-hole-full, hang-asks, grown-hung, kept, join-asks, placed-joined}
use Rattle.tree_placing.proofs.place.Goals as goal

-- ---- at a leaf

pub same-requires : goal.same-requires
same-requires c =
    let l = first-less _ _ _ _ _ c.requires.1.seeks _ _ _ _ (c.in-Leaf.ensures _ c.requires.1.seeks) in
    omega (arith, c.requires.1.seeks.read)

pub join-requires : goal.join-requires
join-requires c =
    join-asks _ _ _ _ _ _ _ c.requires.1 c.requires.2 _ _ _ _ (c.in-Leaf.ensures _ c.requires.1.seeks)

pub returns-then-same : goal.returns-then-same
returns-then-same c is g =
    placed-joined _ _ _ _ _ _ _ g c.requires.2 _ _ _ _ (c.in-Leaf.ensures is g.seeks) (sym c.same.ensures ∙ c.if-same.true) _ _ c.join.ensures.0 c.join.ensures.1

pub at_leaf-requires : goal.at_leaf-requires
at_leaf-requires c =
    (_, c.requires.1.seeks, c.in-Leaf.ensures _ c.requires.1.seeks, sym c.same.ensures ∙ c.if-same.false)

pub returns-else-same : goal.returns-else-same
returns-else-same c is g =
    let f = c.in-Leaf.ensures is g.seeks in
    placed _ is _ _ _ c.args.q.extent _ _ (c.at_leaf.ensures is g.seeks f) (kept _ _ _ _ _ _ _ g c.requires.2 (leaf-new-point _ _ _ _ _ g.seeks _ _ _ _ f (sym c.same.ensures ∙ c.if-same.false)))

-- ---- at a hole

pub returns-then-slots-q : goal.returns-then-slots-q
returns-then-slots-q c is g =
    grown-hole-full _ _ _ _ _ g.seeks _ _ _ (c.in-Hole.ensures is g.seeks) (sym c.slots.ensures ∙ c.if-slots-q.true)

pub hang-requires : goal.hang-requires
hang-requires c =
    hang-asks _ _ _ _ _ c.requires.1.seeks _ _ _ (c.in-Hole.ensures _ c.requires.1.seeks) (λ z. c.if-slots-q.false (c.slots.ensures ∙ z))

pub overflow_add-level : goal.overflow_add-level
overflow_add-level c =
    let l = hole-most _ _ _ _ _ c.requires.1.seeks _ _ _ (c.in-Hole.ensures _ c.requires.1.seeks) in
    omega arith

pub more-requires : goal.more-requires
more-requires c = (few _ _ _ _ _ c.requires.1.seeks, omega arith)

pub returns-else-slots-q : goal.returns-else-slots-q
returns-else-slots-q c is g =
    let f = c.in-Hole.ensures is g.seeks in
    placed _ is c.hang.new.m _ _ c.args.q.extent _ (Ok c.more.result) (grown-hung _ _ _ _ _ g.seeks _ _ _ f (λ z. c.if-slots-q.false (c.slots.ensures ∙ z)) _ _ c.hang.ensures c.more.ensures)
    (kept _ _ _ _ _ _ _ g c.requires.2 (hole-new-point _ _ _ _ _ g.seeks _ _ _ f))
