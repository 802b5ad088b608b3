-- `put_chain` writes the particles of a chain, by their links.
use Rattle.std.proofs.Common.{◌≡◌, ◌-◌, arith}
use Rattle.tree_rows.proofs.ListChain.{chaining_start, chaining_here, chaining_turn, chaining_end}
use Rattle.tree_rows.proofs.put_chain.Goals as goal

pub loop-i-init : goal.loop-i-init
loop-i-init c = chaining_start _ _ _ _ c.requires

pub bounds-next-i : goal.bounds-next-i
bounds-next-i c = omega (arith, c.in-Some.ensures, chaining_here _ _ _ _ _ _ _ c.loop-i.invariant (λ z. omega (arith, c.in-Some.ensures)))

pub loop-i-preserved : goal.loop-i-preserved
loop-i-preserved c =
    let e : c.in-Some.i ≡ c.loop-i.link - 1 = omega (arith, c.in-Some.ensures) in
    rw e (chaining_turn _ _ _ _ _ _ _ c.loop-i.invariant (λ z. omega (arith, c.in-Some.ensures)))

pub returns : goal.returns
returns c = chaining_end _ _ _ _ _ _ _ c.loop-i.invariant (omega (arith, c.in_default.ensures))
