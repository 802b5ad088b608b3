-- `lengths_agree` tells whether the lists are as long as the slots need them.
use Rattle.std.proofs.Common.{sym, ◌∙◌, arith}
use Rattle.tick_checks.proofs.Entries.{all_small}
use Rattle.tick_checks.proofs.lengths.lengths_agree.Goals as goal
use Rattle.tick_checks.proofs.lengths.lengths_agree.Goals.{then-all_right, else-all_right}

pub all_numbers-requires : goal.all_numbers-requires
all_numbers-requires c =
    omega (arith, (all_small c.args.n c.args.entries.now c.told-entries c.requires.0 c.requires.1 (sym c.all_right.ensures ∙ c.if-all_right.true)).0)

pub all_links-requires : goal.all_links-requires
all_links-requires c =
    elim c.if-all_right.branch [
      | then-all_right w ↦ omega (arith, (all_small c.args.n c.args.entries.now c.told-entries c.requires.0 c.requires.1 (sym c.all_right.ensures ∙ w.if-all_right.true)).1)
      | else-all_right w ↦ absurd cc
    ]

pub overflow_mul-result : goal.overflow_mul-result
overflow_mul-result c =
    elim c.if-all_right.branch [
      | then-all_right w ↦ omega (arith, c.all_links.ensures, (all_small c.args.n c.args.entries.now c.told-entries c.requires.0 c.requires.1 (sym c.all_right.ensures ∙ w.if-all_right.true)).1)
      | else-all_right w ↦ absurd cc
    ]
