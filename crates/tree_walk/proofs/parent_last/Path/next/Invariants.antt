-- Whatever was to be handed out still is.
use Rattle.std.proofs.Common.{ℕ, List}
use Rattle.rules.specs.Walk.{Entry}
use Rattle.tree_walk.specs.WalkAfter.{Climbs}
use Rattle.tree_walk.proofs.PathTurns.{turns_left}
use Rattle.tree_walk.proofs.parent_last.Path.next.Given as goal

abbrev pub invariant-loop-step : goal.invariant-loop-step
invariant-loop-step l = (next : List ℕ) (rest : List (Entry ℕ)) → Climbs l.m next l.fn.self rest → Climbs l.m next l.self-inside.steps rest

abbrev pub decreases-loop-step : goal.decreases-loop-step
decreases-loop-step l = turns_left l.self-inside.steps
