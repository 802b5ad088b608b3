-- `root` answers the rules' root of every number, also of those that are no finite value above zero.
use Rattle.std.proofs.Common.{sym, ◌∙◌, subst}
use lib.Dec.{T}
use lib.Ieee.{binary64, fits}
use Rattle.square_root.proofs.Patterns.{some, root-negative, root-zero, root-large, root-finite, kind}
use Rattle.square_root.proofs.roots.root.Goals as goal

pub returns-then-x : goal.returns-then-x
returns-then-x c = root-negative _ c.if-x.true

pub returns-then-x-2 : goal.returns-then-x-2
returns-then-x-2 c = root-zero _ c.if-x-2.true

pub returns-then-b-ge-INFINITY : goal.returns-then-b-ge-INFINITY
returns-then-b-ge-INFINITY c =
    let held : T (fits binary64 c.args.x) = subst T (sym c.well_formed.0.1) tt in
    root-large c.args.x (kind _ c.if-x.false c.if-x-2.false) held (rw c.bits_of-b.ensures at c.if-b-ge-INFINITY.true)

pub root_pattern-requires : goal.root_pattern-requires
root_pattern-requires c =
    let held : T (fits binary64 c.args.x) = subst T (sym c.well_formed.0.1) tt in
    (rw c.bits_of-b.ensures (some c.args.x (kind _ c.if-x.false c.if-x-2.false) held), c.if-b-ge-INFINITY.false)

pub returns : goal.returns
returns c = c.float_of.ensures ∙ cc (root-finite _ (kind _ c.if-x.false c.if-x-2.false) (rw c.bits_of-b.ensures at c.if-b-ge-INFINITY.false))
