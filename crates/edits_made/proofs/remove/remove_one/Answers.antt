-- `remove_one` makes a removal, or refuses by 15 what isn't there.
use Rattle.std.proofs.Common.{refl}
use Rattle.edits_made.proofs.Removals.{absent, not_made, flag_out, flag_in, remove-asks, remove-now, remove-fine}
use Rattle.edits_made.proofs.remove.remove_one.Goals as goal
use Rattle.edits_made.proofs.remove.remove_one.Goals.{then-i-made-via-then-i-made, then-i-made-via-else-i-made+then-there-i-eq0}

pub returns-then-i-made : goal.returns-then-i-made
returns-then-i-made c is h =
    rw c.new.ensures
    (absent _ _ _ _ _ _ _ h c.args.number _ c.args.k
    (elim c.then-i-made.branch [
      | then-i-made-via-then-i-made w ↦ not_made _ _ _ _ _ _ _ h c.args.number w.if-i-made.true
      | then-i-made-via-else-i-made+then-there-i-eq0 w ↦ flag_out _ _ _ _ _ _ _ h c.args.number w.if-i-made.false w.if-there-i-eq0.true
    ]))

pub remove-requires : goal.remove-requires
remove-requires c =
    (_, remove-asks _ _ _ _ _ _ _ c.requires.1 c.args.number c.requires.2 c.requires.3 (flag_in _ _ _ _ _ _ _ c.requires.1 c.args.number c.if-i-made.false c.if-there-i-eq0.false))

pub returns : goal.returns
returns c is h =
    let e = flag_in _ _ _ _ _ _ _ h c.args.number c.if-i-made.false c.if-there-i-eq0.false in
    let d = c.remove.ensures is (remove-asks _ _ _ _ _ _ _ h c.args.number c.requires.2 c.requires.3 e) in (
      remove-fine _ _ _ _ _ _ _ h c.args.number c.requires.2 c.requires.3 e _ _ _ _ refl c.remove.auto.m _ d c.args.k,
      remove-now _ _ _ _ _ _ _ h c.args.number c.requires.2 c.requires.3 e _ _ _ _ refl c.remove.auto.m _ d,
    )
