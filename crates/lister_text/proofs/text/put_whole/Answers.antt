-- `put_whole` puts a whole number, with a minus sign before what lies below zero.
use Rattle.std.proofs.Common.{[], ◌∷◌}
use Rattle.lister_text.proofs.Writing.{left_as, left-next, left-last}
use Rattle.lister_text.proofs.Whole.{above, below}
use Rattle.lister_text.proofs.text.put_whole.Goals as goal

-- ---- below zero

pub put_byte-next-requires : goal.put_byte-next-requires
put_byte-next-requires c = (left-next (45 ∷ []) _ (left_as c.args.out.now _ _ _ (below c.args.x c.requires.whole c.if-x.true).is c.requires.x_in_bounds)).room

pub float_to_int-x : goal.float_to_int-x
float_to_int-x c = (below c.args.x c.requires.whole c.if-x.true).casts

pub put_decimal-requires : goal.put_decimal-requires
put_decimal-requires c =
    let minus = below c.args.x c.requires.whole c.if-x.true in
    (minus.small, ((left-next (45 ∷ []) _ (left_as c.args.out.now _ _ _ minus.is c.requires.x_in_bounds)).after c.put_byte-next.ensures).fits)

pub returns-then-x : goal.returns-then-x
returns-then-x c =
    let minus = below c.args.x c.requires.whole c.if-x.true in
    left-last ((left-next (45 ∷ []) _ (left_as c.args.out.now _ _ _ minus.is c.requires.x_in_bounds)).after c.put_byte-next.ensures) c.put_decimal.ensures

-- ---- else

pub float_to_int-x-2 : goal.float_to_int-x-2
float_to_int-x-2 c = (above c.args.x c.requires.whole c.if-x.false).casts

pub put_decimal-requires-2 : goal.put_decimal-requires-2
put_decimal-requires-2 c =
    let plain = above c.args.x c.requires.whole c.if-x.false in
    (plain.small, (left_as c.args.out.now _ _ _ plain.is c.requires.x_in_bounds).fits)

pub returns : goal.returns
returns c = left-last (left_as c.args.out.now _ _ _ (above c.args.x c.requires.whole c.if-x.false).is c.requires.x_in_bounds) c.put_decimal-2.ensures
