-- `root_bits` answers the rules' root, from bits to bits.
use Rattle.rules.specs.Root.{root_bits}
use Rattle.square_root.proofs.roots.root_bits.Goals as goal

pub returns : goal.returns
unfolding root_bits
returns c = cc
