-- `plant` writes the leaf of p as the whole tree, or refuses by 7 without a slot.
use Rattle.std.proofs.Common.{refl, arith}
use Rattle.tree_cells.proofs.Prefix.{fits-fine, fits_full}
use Rattle.tree_build.proofs.add.plant.Goals as goal

pub returns-then-slots-eq0 : goal.returns-then-slots-eq0
returns-then-slots-eq0 c = fits_full _ _ _ (omega arith) (omega (arith, c.slots.ensures))

pub returns : goal.returns
returns c = ((fits-fine _ _ _).1 (omega arith, omega arith), (c.put_leaf.ensures, refl))
