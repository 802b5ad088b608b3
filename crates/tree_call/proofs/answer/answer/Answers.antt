-- `answer` lists a tree that was built, and answers a refusal as it is.
use Rattle.std.proofs.Common.{refl}
use Rattle.tree_slots.proofs.Trees.{lays_nodes}
use Rattle.tree_call.proofs.TreeCalled.{answers_refused, answers_listed}
use Rattle.tree_call.proofs.answer.answer.Goals as goal

pub list-requires : goal.list-requires
list-requires c = (_, (rw c.in-Ok.is at c.requires.1).2)

pub returns-in-Err : goal.returns-in-Err
returns-in-Err c o w =
    answers_refused o _ _ _ _ _ _ _ c.in-Err.is (rw c.in-Err.is at w) c.refuse.ensures.0 c.refuse.ensures.1

pub returns-in-Ok : goal.returns-in-Ok
returns-in-Ok c o w =
    let k = rw c.in-Ok.is at w in
    let f = c.list.ensures _ k.2 in
    answers_listed o _ _ _ _ _ _ _ _ _ _ _ c.in-Ok.is k.1 (lays_nodes k.2.stands) c.none.ensures refl f.0 f.1 c.clear.ensures
