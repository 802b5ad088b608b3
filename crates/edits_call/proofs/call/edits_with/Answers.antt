-- `edits_with` answers what the edits came to.
use mathlib.Core.Path.{refl}
use Rattle.edits_call.proofs.EditsCalled.{can_edit, has_room, edits-come, edits-after}
use Rattle.edits_call.proofs.call.edits_with.Goals as goal

pub edit_all-built-requires : goal.edit_all-built-requires
edit_all-built-requires c =
    let r = c.read_points in
    (can_edit _ _ _ _ _ _ c.requires r.ensures, has_room _ _ _ _ _ _ c.requires r.ensures _ _ _ refl refl refl)

pub answer-requires : goal.answer-requires
answer-requires c =
    let b = c.edit_all-built in
    (_, edits-come _ _ _ _ _ _ c.requires c.read_points.ensures b.new.m b.auto.m b.new.next b.auto.next b.result b.ensures)

pub returns : goal.returns
returns c =
    let b = c.edit_all-built in
    let r = c.read_points in
    let k = edits-come _ _ _ _ _ _ c.requires r.ensures b.new.m b.auto.m b.new.next b.auto.next b.result b.ensures in
    edits-after _ _ _ _ _ _ c.requires r.ensures b.new.m b.auto.m b.new.next b.result b.ensures _ _ _ _ (c.answer.ensures _ k)
