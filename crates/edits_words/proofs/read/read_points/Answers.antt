-- `read_points`: what is no insertion is passed over.
use Rattle.std.proofs.Common.{List, ℕ, ap, ◌∙◌, arith}
use Rattle.std.specs.Slice.Iter.{chunks_exact_rest}
use Rattle.rules.specs.Edits.{edits_of, insertions}
use Rattle.edits_words.proofs.Turns.{passed_over}
use Rattle.edits_words.proofs.read.read_points.Goals as goal

pub loop-edit-preserved : goal.loop-edit-preserved
loop-edit-preserved c =
    let o = c.loop-edit.invariant in
    let s = c.in-Some.ensures.steps in
    let n = passed_over c.in-Some.edit.now (chunks_exact_rest c.next.new.self) (s.1.1 ∙ o.size) c.if-edit-eq0.false in
    record {
      size = s.0 ∙ o.size;
      room = omega (arith, o.room, ap (λ (l : List ℕ). insertions (edits_of l)) s.1.0, n.1);
      read = rw (← n.0, ← s.1.0) o.read;
    }
