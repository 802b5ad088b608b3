-- `kinds_check`: after an edit of a known kind the next one decides.
use Rattle.std.proofs.Common.{◌∙◌, rules}
use Rattle.std.specs.Iterator.Adapters.{enumerate_source, enumerate_count}
use Rattle.std.specs.Slice.Iter.{chunks_exact_rest}
use Rattle.edits_words.proofs.Turns.{known_on}
use Rattle.edits_words.proofs.check.kinds_check.Goals as goal

pub loop-k-preserved : goal.loop-k-preserved
loop-k-preserved c =
    let o = c.loop-k.invariant in
    let s = c.in-Some.ensures.steps in
    record {
      can = search rules;
      ends = search rules;
      size = s.0.0 ∙ o.size;
      left =
          rw s.2
          (known_on (chunks_exact_rest (enumerate_source c.loop-k.k-iterator)) c.in-Some.edit.now (chunks_exact_rest (enumerate_source c.next.new.self)) (enumerate_count c.loop-k.k-iterator) s.0.1.0 (s.0.1.1 ∙ o.size)
          (rw s.1 at c.require.ensures) c.in_ok-require.was ∙ o.left);
    }
