-- `root_pattern` answers the rules' pattern, as there is one nearest pattern only.
use Rattle.rules.proofs.Theorems.{root_pattern-nearest, nearest-unique}
use Rattle.square_root.proofs.roots.root_pattern.Goals as goal

pub returns : goal.returns
returns c = nearest-unique _ _ _ c.nearest.ensures (root_pattern-nearest _)
