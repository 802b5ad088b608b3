-- `insertions` counts the edits that insert.
use Rattle.std.proofs.Common.{List, ℕ, ap, ◌∙◌, length, arith, length-append}
use Rattle.std.specs.Slice.Iter.{chunks_exact_rest}
use Rattle.rules.specs.Edits.{edits_of, insertions}
use Rattle.edits_words.proofs.Turns.{inserted, passed_over}
use Rattle.edits_words.proofs.count.insertions.Goals as goal

pub loop-edit-preserved-then-edit-eq0 : goal.loop-edit-preserved-then-edit-eq0
loop-edit-preserved-then-edit-eq0 c =
    let o = c.loop-edit.invariant in
    let s = c.in-Some.ensures.steps in
    let n = inserted c.in-Some.edit.now (chunks_exact_rest c.next.new.self) (s.1.1 ∙ o.size) (omega (arith, c.if-edit-eq0.true)) in
    record {
      size = s.0 ∙ o.size;
      few = omega (arith, o.few, o.size, s.1.1, simp length-append at (ap length s.1.0));
      made = omega (arith, o.made, ap (λ (l : List ℕ). insertions (edits_of l)) s.1.0, n.1);
    }

pub loop-edit-preserved : goal.loop-edit-preserved
loop-edit-preserved c =
    let o = c.loop-edit.invariant in
    let s = c.in-Some.ensures.steps in
    let n = passed_over c.in-Some.edit.now (chunks_exact_rest c.next.new.self) (s.1.1 ∙ o.size) (λ z. omega (arith, c.if-edit-eq0.false)) in
    record {
      size = s.0 ∙ o.size;
      few = omega (arith, o.few, simp length-append at (ap length s.1.0));
      made = omega (arith, o.made, ap (λ (l : List ℕ). insertions (edits_of l)) s.1.0, n.1);
    }
