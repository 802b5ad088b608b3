-- `edit_all` makes edit by edit, until one is refused.
use Rattle.std.proofs.Common.{◌≡◌, get_or, refl, sym, ◌∙◌, arith, rules}
use Rattle.std.proofs.lemmas.Result.{err_from_is_err_and}
use Rattle.rules.specs.Number.{float_of}
use Rattle.edits_made.proofs.Turns.{edit_start, next_edit, insertion-left, edit_refused, edit-done, edits_done}
use Rattle.edits_made.proofs.edit.edit_all.Goals as goal

pub loop-k-init : goal.loop-k-init
loop-k-init c =
    record {
      can = search rules;
      ends = search rules;
      size = search rules;
      rest = search rules;
      editing = rw (c.no_tree-q.ensures, c.into_iter-k-iterator.ensures.into_iter_gives, c.enumerate-k-items.ensures.count) (edit_start _ _ _ _ _ _ _);
    }

-- ---- an insertion

pub insert_next-requires : goal.insert_next-requires
insert_next-requires c =
    let i = c.loop-k.invariant in
    let s = rw c.in-Some.is at c.next.ensures.steps in
    let n = next_edit c.args.edits.now _ c.in-Some.edit.now _ (sym i.rest ∙ s.0.1.0) (s.0.1.1 ∙ i.size) in
    let r = c.requires.1 in
    let l = insertion-left _ _ _ _ _ _ _ _ _ _ i.editing _ (rw c.if-edit-eq0.true at n.next) _ _ refl in (
      _,
      i.editing.here,
      record { lent = record { ranged = r.lent.ranged; few = r.lent.few; links = c.loop-k.auto.next ∙ r.lent.links; tails = c.loop-k.auto.tail ∙ r.lent.tails }; flags = c.loop-k.auto.there ∙ r.flags },
      omega (arith, c.requires.0.points),
    )

pub returns-in_err-q : goal.returns-in_err-q
returns-in_err-q c =
    let i = c.loop-k.invariant in
    let s = rw c.in-Some.is at c.next.ensures.steps in
    let n = next_edit c.args.edits.now _ c.in-Some.edit.now _ (sym i.rest ∙ s.0.1.0) (s.0.1.1 ∙ i.size) in
    let p = err_from_is_err_and c.from_residual.result c.from_residual.ensures.1 in
    rw (p.1, p.2, c.insert_next.auto.m, c.loop-k.auto.m)
    (edit_refused _ _ _ _ _ _ _ _ _ _ i.editing _ (rw c.if-edit-eq0.true at n.next) _ (rw (c.loop-k.auto.m, s.1) at (c.in_err-q.ensures _ (float_of (get_or c.in-Some.edit.now 1 0)) (float_of (get_or c.in-Some.edit.now 2 0)) i.editing.here)))

pub overflow_add-made : goal.overflow_add-made
overflow_add-made c =
    let i = c.loop-k.invariant in
    let s = rw c.in-Some.is at c.next.ensures.steps in
    let n = next_edit c.args.edits.now _ c.in-Some.edit.now _ (sym i.rest ∙ s.0.1.0) (s.0.1.1 ∙ i.size) in
    let l = insertion-left _ _ _ _ _ _ _ _ _ _ i.editing _ (rw c.if-edit-eq0.true at n.next) _ _ refl in
    omega (arith, c.requires.0.points, c.requires.1.lent.few)

pub loop-k-preserved-then-edit-eq0 : goal.loop-k-preserved-then-edit-eq0
loop-k-preserved-then-edit-eq0 c =
    let i = c.loop-k.invariant in
    let s = rw c.in-Some.is at c.next.ensures.steps in
    let n = next_edit c.args.edits.now _ c.in-Some.edit.now _ (sym i.rest ∙ s.0.1.0) (s.0.1.1 ∙ i.size) in
    record {
      can = search rules;
      ends = search rules;
      size = s.0.0 ∙ i.size;
      rest = rw s.2 n.left;
      editing = rw s.2 (edit-done _ _ _ _ _ _ _ _ _ _ i.editing _ (rw c.if-edit-eq0.true at n.next) _ _ _ _ _ (rw (c.loop-k.auto.m, s.1) at (c.in_ok-q.ensures _ (float_of (get_or c.in-Some.edit.now 1 0)) (float_of (get_or c.in-Some.edit.now 2 0)) i.editing.here)));
    }

-- ---- a removal

pub remove_one-requires : goal.remove_one-requires
remove_one-requires c =
    let i = c.loop-k.invariant in
    let r = c.requires.1 in (
      _,
      i.editing.here,
      record { lent = record { ranged = r.lent.ranged; few = r.lent.few; links = c.loop-k.auto.next ∙ r.lent.links; tails = c.loop-k.auto.tail ∙ r.lent.tails }; flags = c.loop-k.auto.there ∙ r.flags },
      omega (arith, i.editing.count, c.requires.0.points),
    )

pub returns-in_err-q-2 : goal.returns-in_err-q-2
returns-in_err-q-2 c =
    let i = c.loop-k.invariant in
    let s = rw c.in-Some.is at c.next.ensures.steps in
    let n = next_edit c.args.edits.now _ c.in-Some.edit.now _ (sym i.rest ∙ s.0.1.0) (s.0.1.1 ∙ i.size) in
    let one : get_or c.in-Some.edit.now 0 0 ≡ 1 = omega (arith, n.kind, c.requires.0.known _ n.more) in
    let p = err_from_is_err_and c.from_residual-in_err-q-2.result c.from_residual-in_err-q-2.ensures.1 in
    rw (p.1, p.2, c.remove_one.auto.m, c.loop-k.auto.m)
    (edit_refused _ _ _ _ _ _ _ _ _ _ i.editing _ (rw one at n.next) _ (rw (c.loop-k.auto.m, s.1) at (c.in_err-q-2.ensures _ i.editing.here)))

pub loop-k-preserved : goal.loop-k-preserved
loop-k-preserved c =
    let i = c.loop-k.invariant in
    let s = rw c.in-Some.is at c.next.ensures.steps in
    let n = next_edit c.args.edits.now _ c.in-Some.edit.now _ (sym i.rest ∙ s.0.1.0) (s.0.1.1 ∙ i.size) in
    let one : get_or c.in-Some.edit.now 0 0 ≡ 1 = omega (arith, n.kind, c.requires.0.known _ n.more) in
    record {
      can = search rules;
      ends = search rules;
      size = s.0.0 ∙ i.size;
      rest = rw s.2 n.left;
      editing = rw s.2 (edit-done _ _ _ _ _ _ _ _ _ _ i.editing _ (rw one at n.next) _ _ _ _ _ (rw (c.loop-k.auto.m, s.1) at (c.in_ok-q-2.ensures _ i.editing.here)));
    }

-- ---- the end

pub returns : goal.returns
returns c =
    let i = c.loop-k.invariant in
    let s = rw c.in-None.is at c.next.ensures.steps in
    edits_done _ _ _ _ _ _ _ _ _ _ i.editing (rw (i.rest, i.size) at s.0.1.0) c.requires.1.lent.ranged (omega (arith, i.editing.count, c.requires.0.points)) (rw c.loop-k.auto.m)
