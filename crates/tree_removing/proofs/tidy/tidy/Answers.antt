-- `tidy` gathers the tree along the way of i, one node at a turn.
use Rattle.std.proofs.Common.{ℕ, ◌-◌, ◌*◌, ◌≤◌, length, ap, ◌∙◌, arith}
use Rattle.rules.specs.Calls.{slot_words}
use Rattle.tree_slots.specs.Slots.{put_leaf}
use Rattle.tree_removing.proofs.Tidying.{tidy-slots, tidy-hollow, tidy-turn}
use Rattle.tree_removing.proofs.tidy.tidy.Goals as goal

pub tag-tag-requires : goal.tag-tag-requires
tag-tag-requires c =
    let p = c.requires.1 in
    let room : c.args.q.nodes * slot_words ≤ length c.loop-fold.m = omega (arith, p.room) in
    (tidy-slots _ _ _ _ _ _ (c.loop-fold.invariant _ p) room p.few p.place c.in-Some.fold c.in-Some.ensures).1

pub overflow_sub-tag : goal.overflow_sub-tag
overflow_sub-tag c =
    let p = c.requires.1 in
    let room : c.args.q.nodes * slot_words ≤ length c.loop-fold.m = omega (arith, p.room) in
    omega (arith, (tidy-slots _ _ _ _ _ _ (c.loop-fold.invariant _ p) room p.few p.place c.in-Some.fold c.in-Some.ensures).0, c.tag-tag.ensures)

pub put_leaf-requires : goal.put_leaf-requires
put_leaf-requires c =
    let p = c.requires.1 in
    let room : c.args.q.nodes * slot_words ≤ length c.loop-fold.m = omega (arith, p.room) in
    let s = tidy-slots _ _ _ _ _ _ (c.loop-fold.invariant _ p) room p.few p.place c.in-Some.fold c.in-Some.ensures in
    (s.2, omega (arith, s.3, c.tag-tag.ensures))

pub fewer-requires : goal.fewer-requires
fewer-requires c =
    let p = c.requires.1 in
    let room : c.args.q.nodes * slot_words ≤ length c.loop-fold.m = omega (arith, p.room) in
    omega (arith, (tidy-slots _ _ _ _ _ _ (c.loop-fold.invariant _ p) room p.few p.place c.in-Some.fold c.in-Some.ensures).4)

pub fill-less-requires : goal.fill-less-requires
fill-less-requires c =
    let p = c.requires.1 in
    let room : c.args.q.nodes * slot_words ≤ length c.loop-fold.m = omega (arith, p.room) in
    rw c.fewer.ensures
    (tidy-hollow _ _ _ _ _ _ (c.loop-fold.invariant _ p) room p.few p.place c.in-Some.fold c.in-Some.ensures c.put_leaf.new.m (c.put_leaf.ensures ∙ ap (λ (y : ℕ). put_leaf c.loop-fold.m c.in-Some.fold.slot (y - 1)) c.tag-tag.ensures))

pub loop-fold-smaller : goal.loop-fold-smaller
loop-fold-smaller c =
    let p = c.requires.1 in
    let room : c.args.q.nodes * slot_words ≤ length c.loop-fold.m = omega (arith, p.room) in
    (tidy-turn _ _ _ _ _ _ (c.loop-fold.invariant _ p) room p.few p.place c.in-Some.fold c.in-Some.ensures c.put_leaf.new.m (c.put_leaf.ensures ∙ ap (λ (y : ℕ). put_leaf c.loop-fold.m c.in-Some.fold.slot (y - 1)) c.tag-tag.ensures) c.fewer.result c.fill-less.result c.fewer.ensures c.fill-less.new.m c.fill-less.ensures).1

pub loop-fold-preserved : goal.loop-fold-preserved
loop-fold-preserved c t g =
    let p = c.requires.1 in
    let room : c.args.q.nodes * slot_words ≤ length c.loop-fold.m = omega (arith, p.room) in
    (tidy-turn _ _ _ _ _ t (c.loop-fold.invariant t g) room p.few p.place c.in-Some.fold c.in-Some.ensures c.put_leaf.new.m (c.put_leaf.ensures ∙ ap (λ (y : ℕ). put_leaf c.loop-fold.m c.in-Some.fold.slot (y - 1)) c.tag-tag.ensures) c.fewer.result c.fill-less.result c.fewer.ensures c.fill-less.new.m c.fill-less.ensures).0
