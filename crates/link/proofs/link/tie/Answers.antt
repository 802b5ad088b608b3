-- A link's numbers are read from the lists, and both its ends are pulled by them.
use Rattle.std.proofs.Common.{arith}
use Rattle.rules.specs.Force.{ends_of}
use Rattle.rules.specs.Link.{bias, tied}
use Rattle.list_checks.specs.Checks.{ends_at}
use Rattle.link.proofs.Tallies.{ready-ends, ready-count, ready-small}
use Rattle.link.proofs.Linked.{strength_is}
use Rattle.link.proofs.link.tie.Goals as goal

pub bias-requires : goal.bias-requires
bias-requires c =
    let b = ready-ends c.requires.0 c.args.k c.requires.2 in
    omega (arith, ready-small c.requires.0 _ b.0, ready-small c.requires.0 _ b.1)

pub returns : goal.returns
unfolding tied bias
returns c =
    let a = c.args in
    let b = ready-ends c.requires.0 a.k c.requires.2 in
    let from = ready-count c.requires.0 _ b.0 in
    let to = ready-count c.requires.0 _ b.1 in
    cc (strength_is (ends_of a.links.now) a.strengths.now a.k (ends_at a.links.now a.k))
