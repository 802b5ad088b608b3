-- What stands after as many edits as were read, and which words are left.
use Rattle.std.proofs.Common.{◌≡◌, ◌*◌, drop}
use Rattle.std.specs.Iterator.Adapters.{enumerate_source, enumerate_count}
use Rattle.std.specs.Slice.Iter.{chunks_exact_rest, chunks_exact_size}
use Rattle.rules.specs.Edits.{edit_words}
use Rattle.rules.specs.Calls.{slots_of}
use Rattle.edits_made.proofs.Turns.{Editing}
use Rattle.edits_made.proofs.edit.edit_all.Given as goal

abbrev pub invariant-loop-k : goal.invariant-loop-k
invariant-loop-k l =
    let source = enumerate_source l.k-iterator in
    let k = enumerate_count l.k-iterator in
    record {
      can : (goal.iterator-loop-k).can_next l.k-iterator;
      ends : (goal.iterator-loop-k).is_finite l.k-iterator;
      size : chunks_exact_size source ≡ edit_words;
      rest : chunks_exact_rest source ≡ drop (k * edit_words) l.edits;
      editing : Editing l.edits l.at (slots_of l.initial.m) l.there l.m l.next l.tail l.q l.made k;
    }
