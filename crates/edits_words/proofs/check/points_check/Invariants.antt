-- What the loop of `points_check` keeps: the edits that are left decide what all do.
use Rattle.std.proofs.Common.{◌≡◌}
use Rattle.std.specs.Iterator.Adapters.{enumerate_source, enumerate_count}
use Rattle.std.specs.Slice.Iter.{chunks_exact_rest, chunks_exact_size}
use Rattle.rules.specs.Outcome.{check_from}
use Rattle.rules.specs.Edits.{edits_of, point_check, edit_words}
use Rattle.edits_words.proofs.check.points_check.Given as goal

abbrev pub invariant-loop-k : goal.invariant-loop-k
invariant-loop-k l =
    let source = enumerate_source l.k-iterator in
    record {
      can : (goal.iterator-loop-k).can_next l.k-iterator;
      ends : (goal.iterator-loop-k).is_finite l.k-iterator;
      size : chunks_exact_size source ≡ edit_words;
      left : check_from point_check (enumerate_count l.k-iterator) (edits_of (chunks_exact_rest source)) ≡ check_from point_check 0 (edits_of l.edits);
    }
