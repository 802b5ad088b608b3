-- What the loop of `summed` keeps: on both axes, the sum of all is the sum so far with the places that are left.
use Rattle.std.proofs.Common.{◌≡◌}
use Rattle.std.specs.Slice.Iter.{chunks_exact_rest, chunks_exact_size}
use Rattle.rules.specs.Plain.{foldl}
use Rattle.rules.specs.Number.{◌⊕◌, 0·}
use Rattle.center.specs.Pairs.{column}
use Rattle.center.proofs.summed.Given as goal

abbrev pub invariant-loop-place : goal.invariant-loop-place
invariant-loop-place l =
    let left = chunks_exact_rest l.place-iterator in
    record {
      in_pairs : chunks_exact_size l.place-iterator ≡ 2;
      x : foldl ◌⊕◌ 0· (column 0 l.places) ≡ foldl ◌⊕◌ l.sums.x (column 0 left);
      y : foldl ◌⊕◌ 0· (column 1 l.places) ≡ foldl ◌⊕◌ l.sums.y (column 1 left);
    }
