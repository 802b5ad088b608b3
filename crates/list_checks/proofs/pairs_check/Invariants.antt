-- What the loop of `pairs_check` keeps, for every check that the closure answers: the pairs from number i on decide what all do.
use Rattle.std.proofs.Common.{◌≡◌, ℕ, ◌-◌, ◌/◌, length, Float}
use Rattle.rules.specs.Plain.{count_from}
use Rattle.rules.specs.Number.{x_at, y_at}
use Rattle.rules.specs.Outcome.{Check, result_of, check_from}
use Rattle.list_checks.proofs.pairs_check.Given as goal

abbrev pub invariant-loop-i : goal.invariant-loop-i
invariant-loop-i g l =
    (c : ℕ → Float → Float → Check) → ((i : ℕ) (x y : Float) (r : _) → goal.F-post g l.check i x y r → r ≡ result_of (c i x y))
    → check_from (λ i _. c i (x_at l.l i) (y_at l.l i)) l.i (count_from l.i (length l.l / 2 - l.i))
    ≡ check_from (λ i _. c i (x_at l.l i) (y_at l.l i)) 0 (count_from 0 (length l.l / 2))
