-- What the loop of `summed` keeps: on both axes, the sum of all is the sum so far with the places that are left.
use Rattle.std.proofs.Common.{◌≡◌, map, drop}
use Rattle.rules.specs.Plain.{foldl}
use Rattle.rules.specs.Number.{◌⊕◌, 0·}
use Rattle.talemiku.proofs.centring.summed.Given as goal

abbrev pub invariant-loop-p : goal.invariant-loop-p
invariant-loop-p l = record {
  x : foldl ◌⊕◌ 0· (map (λ p. p.x) l.particles) ≡ foldl ◌⊕◌ l.sums.x (map (λ p. p.x) (drop l.p-index l.particles));
  y : foldl ◌⊕◌ 0· (map (λ p. p.y) l.particles) ≡ foldl ◌⊕◌ l.sums.y (map (λ p. p.y) (drop l.p-index l.particles));
}
