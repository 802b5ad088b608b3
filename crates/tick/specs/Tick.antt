-- One tick as the code answers it. Definitions only.
use Rattle.rules.specs.declared.Progress.{Progress}
use Rattle.rules.specs.declared.Settings.{Settings}
use Rattle.rules.specs.Tick.{next_alpha}

-- what a tick goes on from: alpha is a step further
abbrev pub cooled : Settings → Progress → Progress
cooled s p = record { alpha = next_alpha s p.alpha; used = p.used; visits = p.visits }
