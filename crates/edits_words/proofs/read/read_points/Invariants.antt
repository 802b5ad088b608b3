-- What the loop of `read_points` keeps: the points written so far and those of the edits that are left are all, and fill the list.
use Rattle.std.proofs.Common.{◌≡◌, ◌+◌, ◌*◌, ◌++◌, length, take}
use Rattle.std.specs.Slice.Iter.{chunks_exact_rest, chunks_exact_size}
use Rattle.rules.specs.Edits.{edits_of, points_of, insertions, edit_words}
use Rattle.edits_words.proofs.read.read_points.Given as goal

abbrev pub invariant-loop-edit : goal.invariant-loop-edit
invariant-loop-edit l =
    let left = edits_of (chunks_exact_rest l.edit-iterator) in
    record {
      size : chunks_exact_size l.edit-iterator ≡ edit_words;
      room : l.i + insertions left * 2 ≡ length l.places;
      read : take l.i l.places ++ points_of left ≡ points_of (edits_of l.edits);
    }
