-- `passed`: what 1, 2 and 3 let pass is what Link asks.
use mathlib.Core.List.{[]}
use Prim.Native.Nat.{◌/◌, ◌%◌}
use borrow.Author.Rules.{rules}
use lib.Dec.{eqb}
use lib.ListN.{length}
use Rattle.rules.specs.Force.{link, ends_of}
use Rattle.link.specs.Links.{EndsLent, NumbersLent}
use Rattle.force_call.specs.Calls.{lent}
use Rattle.force_call.proofs.Called.{lent-all}
use Rattle.link_call.proofs.LinkCalled.{ends-lent, lists-lent}
use Rattle.link_call.proofs.passed.Goals as goal

pub run_alone-requires-clause-runs : goal.run_alone-requires-clause-runs
run_alone-requires-clause-runs c = λ vs m long.
    let a = c.args in
    let l = lent a.places.now a.buffer.now a.start [] [] in
    let h = lent-all l (link (ends_of a.links.now) a.strengths.now a.distances.now a.iterations) (eqb (length a.links.now % 2) 0) c.requires in
    let ends : EndsLent (length a.places.now / 2) a.links.now = ends-lent l a.links.now a.strengths.now a.distances.now a.iterations h in
    let lists : NumbersLent a.links.now a.strengths.now a.distances.now = lists-lent l a.links.now a.strengths.now a.distances.now a.iterations h in
    search rules
