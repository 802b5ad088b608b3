-- ManyBody over all particles, on a tree with its charges. Definitions only.
use Rattle.std.specs.Prelude.{List, ℕ, length, Float}
use Rattle.rules.specs.declared.Tuning.{Tuning}
use Rattle.rules.specs.Outcome.{Outcome, fold_stages}
use Rattle.rules.specs.Plain.{up_to}
use Rattle.rules.specs.Walk.{Counted, walk}
use Rattle.rules.specs.Flow.{Flow}
use Rattle.rules.specs.ManyBody.{charged_tree, many_body_step}

-- the walk of particle i over the tree with its charges
abbrev pub pulled_for : Tuning → List Float → List Float → Float → Counted Flow → ℕ → Outcome (Counted Flow)
pulled_for t at strengths alpha m i = walk (many_body_step t at strengths alpha i) (charged_tree at strengths) m

-- those of all particles, in index order
abbrev pub pulled_all : Tuning → List Float → List Float → Float → Counted Flow → Outcome (Counted Flow)
pulled_all t at strengths alpha m = fold_stages (pulled_for t at strengths alpha) m (up_to (length strengths))
