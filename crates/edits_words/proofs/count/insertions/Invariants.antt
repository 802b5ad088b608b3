-- What the loop of `insertions` keeps: those counted and those that are left make all, and no more are counted than edits were read.
use Rattle.std.proofs.Common.{◌≡◌, ◌+◌, ◌≤◌, length}
use Rattle.std.specs.Slice.Iter.{chunks_exact_rest, chunks_exact_size}
use Rattle.rules.specs.Edits.{edits_of, insertions, edit_words}
use Rattle.edits_words.proofs.count.insertions.Given as goal

abbrev pub invariant-loop-edit : goal.invariant-loop-edit
invariant-loop-edit l =
    record {
      size : chunks_exact_size l.edit-iterator ≡ edit_words;
      few : l.made + length (chunks_exact_rest l.edit-iterator) ≤ length l.edits;
      made : l.made + insertions (edits_of (chunks_exact_rest l.edit-iterator)) ≡ insertions (edits_of l.edits);
    }
