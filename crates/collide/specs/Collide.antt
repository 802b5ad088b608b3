-- Collide's stages. Definitions only.
use Rattle.std.specs.Prelude.{List, ℕ, length, Float}
use Rattle.rules.specs.Plain.{up_to}
use Rattle.rules.specs.Outcome.{Outcome, fold_stages}
use Rattle.rules.specs.Walk.{Counted, walk}
use Rattle.rules.specs.Flow.{Flow}
use Rattle.rules.specs.Collide.{radius_tree, collide_step}

-- the walk of particle i
abbrev pub walk_for : List Float → List Float → Float → Counted Flow → ℕ → Outcome (Counted Flow)
walk_for at radii strength m i = walk (collide_step at radii strength i) (radius_tree at radii) m

-- those of all particles, in index order
unfoldable pub walk_all : List Float → List Float → Float → Counted Flow → Outcome (Counted Flow)
walk_all at radii strength m = fold_stages (walk_for at radii strength) m (up_to (length radii))

-- that many times over
unfoldable pub walk_times : List Float → List Float → Float → ℕ → Counted Flow → Outcome (Counted Flow)
walk_times at radii strength iterations m = fold_stages (λ m _. walk_all at radii strength m) m (up_to iterations)
