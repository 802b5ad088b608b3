-- `list_node` writes the rows and the chains of a tree, by calling itself for each child.
use Rattle.std.proofs.Common.{◌≡◌, arith}
use Rattle.tree_rows.proofs.ListRows.{wrote_none}
use Rattle.tree_rows.proofs.ListTree.{stands_none, stands_some, stands_leaf, leaf_listable, stands_node, node_listed, child_ready, child_done, children_listed}
use Rattle.tree_rows.proofs.+list_node.Goals as goal

pub returns-in_default : goal.returns-in_default
returns-in_default t c x w = let n = stands_none x w.stands (omega (arith, c.in_default.ensures)) in rw n wrote_none

pub tag-first-requires : goal.tag-first-requires
tag-first-requires t c = (stands_some c.in-Some.s c.requires.0 c.requires.1.stands (omega (arith, c.in-Some.ensures))).slot

pub overflow_cast-first : goal.overflow_cast-first
overflow_cast-first t c =
    let l = stands_leaf c.in-Some.s c.requires.0 c.requires.1.stands (omega (arith, c.in-Some.ensures)) c.tag-first.ensures c.if-first-ne0.true in
    omega (arith, l.small, c.requires.1.few)

pub list_leaf-requires : goal.list_leaf-requires
list_leaf-requires t c =
    (_, leaf_listable c.requires.1 (stands_leaf c.in-Some.s c.requires.0 c.requires.1.stands (omega (arith, c.in-Some.ensures)) c.tag-first.ensures c.if-first-ne0.true))

pub returns-then-first-ne0 : goal.returns-then-first-ne0
returns-then-first-ne0 t c x w =
    let l = stands_leaf c.in-Some.s x w.stands (omega (arith, c.in-Some.ensures)) c.tag-first.ensures c.if-first-ne0.true in
    rw l.is (c.list_leaf.ensures l.chain (leaf_listable w l))

pub put_row-requires : goal.put_row-requires
put_row-requires t c = omega (arith, (stands_some c.in-Some.s c.requires.0 c.requires.1.stands (omega (arith, c.in-Some.ensures))).one, c.requires.1.room)

pub children-below-requires : goal.children-below-requires
children-below-requires t c = (stands_some c.in-Some.s c.requires.0 c.requires.1.stands (omega (arith, c.in-Some.ensures))).slot

pub loop-i-init : goal.loop-i-init
loop-i-init t c x w =
    let n = stands_node c.in-Some.s x w.stands (omega (arith, c.in-Some.ensures)) c.tag-first.ensures c.if-first-ne0.false c.children-below.ensures in
    record { node = n; listing = node_listed w n c.put_row.ensures }

pub list_node-end-requires : goal.list_node-end-requires
list_node-end-requires t c = (
  omega (arith, (stands_some c.in-Some.s c.requires.0 c.requires.1.stands (omega (arith, c.in-Some.ensures))).shallow, c.decreases),
  child_ready (c.loop-i.invariant c.requires.0 c.requires.1) (omega (arith, c.loop-i-test.true)) c.requires.1.few,
)

pub loop-i-preserved : goal.loop-i-preserved
loop-i-preserved t c x w = child_done (c.loop-i.invariant x w) (omega (arith, c.loop-i-test.true)) w.few c.list_node-end.ensures

pub returns : goal.returns
returns t c x w = let e : c.loop-i.i ≡ 4 = omega arith in children_listed (rw e at (c.loop-i.invariant x w))
