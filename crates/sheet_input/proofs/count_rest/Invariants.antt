-- `count_rest` adds at most a chunk each turn.
use Rattle.std.proofs.Common.{◌*◌, ◌≤◌}
use Rattle.sheet_input.proofs.count_rest.Given as goal

abbrev pub invariant-loop : goal.invariant-loop
invariant-loop l = l.rest ≤ 65536 * l.counter
