-- `cover` doubles an extent until the point is inside, as often as the rules do.
use Rattle.std.proofs.Common.{sym, ◌∙◌, arith}
use borrow.Author.Tests.{not-true, not-false}
use Rattle.tree_cells.proofs.CoverDoublings.{less, turn, few, finish}
use Rattle.tree_cells.proofs.cover.cover.Goals as goal

pub overflow_add-covered : goal.overflow_add-covered
overflow_add-covered c = omega (arith, few c.requires c.loop-covered.invariant)

pub loop-covered-smaller : goal.loop-covered-smaller
loop-covered-smaller c = less c.requires c.loop-covered.invariant (not-true _ (sym c.outside.ensures ∙ c.loop-covered-test.true)) c.double_once.ensures

pub loop-covered-preserved : goal.loop-covered-preserved
loop-covered-preserved c = turn c.requires c.loop-covered.invariant (not-true _ (sym c.outside.ensures ∙ c.loop-covered-test.true)) c.double_once.ensures

pub returns : goal.returns
returns c = finish c.requires c.loop-covered.invariant (not-false _ (sym c.outside.ensures ∙ c.loop-covered-test.false))
