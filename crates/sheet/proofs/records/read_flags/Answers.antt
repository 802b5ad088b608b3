-- `read_flags`: the flags of a record more are read, and at the end none are left.
use Rattle.std.proofs.Common.{◌∙◌, sym, length, arith}
use Rattle.rules.specs.Sheet.{particles_of}
use Rattle.sheet.proofs.Turns.{flags_turn, flags_end}
use Rattle.sheet.proofs.records.read_flags.Goals as goal

pub loop-i-preserved : goal.loop-i-preserved
loop-i-preserved c =
    let l = c.loop-i in
    rw c.word_at.ensures (flags_turn c.args.s.now l.out l.i (length c.args.out.now) (omega arith) (omega arith)) ∙ l.invariant

pub returns : goal.returns
unfolding particles_of
returns c =
    let l = c.loop-i in
    rw (← c.requires) (sym (flags_end c.args.s.now l.out l.i (length c.args.out.now) (omega arith) l.auto.out) ∙ l.invariant)
