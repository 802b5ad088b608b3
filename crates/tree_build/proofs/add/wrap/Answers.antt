-- `wrap` writes a new root for each doubling, and the slots hold the same points in the wider extent.
use Rattle.std.proofs.Common.{◌≡◌, false, ◌+◌, ◌-◌, sym, ap, ◌∙◌, subst₂, arith, Float}
use Rattle.rules.specs.Floor.{floor}
use Rattle.rules.specs.Cover.{inside}
use Rattle.tree_cells.specs.Cover.{square_of, Near, DoubledTo}
use Rattle.tree_slots.specs.Slots.{put_internal}
use Rattle.tree_build.proofs.AddInsert.{wrap-asks, wrap-quadrant, wrap-turn, wrap-root, wrap-end}
use Rattle.tree_build.proofs.add.wrap.Goals as goal

pub double_once-doubled-requires : goal.double_once-doubled-requires
double_once-doubled-requires c =
    subst₂ (λ (x y : Float). Near c.loop.wrapped.extent x y × (inside (square_of c.loop.wrapped.extent) (floor x) (floor y) ≡ false)) (sym c.x_at-x.ensures) (sym c.y_at-y.ensures)
    (wrap-asks _ _ _ _ _ _ _ (c.loop.invariant c.requires.0 _ c.requires.1) (omega arith))

pub only-children-requires : goal.only-children-requires
only-children-requires c =
    let w = c.loop.invariant c.requires.0 _ c.requires.1 in (
      wrap-quadrant _ _ _ _ _ _ _ w (omega arith) c.double_once-doubled.result
          (subst₂ (λ (x y : Float). DoubledTo c.loop.wrapped.extent (floor x) (floor y) c.double_once-doubled.result) c.x_at-x.ensures c.y_at-y.ensures c.double_once-doubled.ensures),
      (let r = wrap-root _ _ _ _ _ _ _ w in omega (arith, w.small)),
    )

pub put_internal-requires : goal.put_internal-requires
put_internal-requires c = let w = c.loop.invariant c.requires.0 _ c.requires.1 in omega (arith, w.room)

pub overflow_add-wrapped : goal.overflow_add-wrapped
overflow_add-wrapped c = let w = c.loop.invariant c.requires.0 _ c.requires.1 in omega (arith, w.small)

pub overflow_cast-wrapped-in-loop : goal.overflow_cast-wrapped-in-loop
overflow_cast-wrapped-in-loop c = let w = c.loop.invariant c.requires.0 _ c.requires.1 in omega (arith, w.small)

pub overflow_add-wrapped-in-loop : goal.overflow_add-wrapped-in-loop
overflow_add-wrapped-in-loop c = let w = c.loop.invariant c.requires.0 _ c.requires.1 in omega (arith, w.small)

pub overflow_add-wrapped-in-loop-2 : goal.overflow_add-wrapped-in-loop-2
overflow_add-wrapped-in-loop-2 c = let w = c.loop.invariant c.requires.0 _ c.requires.1 in omega (arith, w.levels)

pub loop-preserved : goal.loop-preserved
loop-preserved c is to w =
    let d = subst₂ (λ (x y : Float). DoubledTo c.loop.wrapped.extent (floor x) (floor y) c.double_once-doubled.result) c.x_at-x.ensures c.y_at-y.ensures c.double_once-doubled.ensures in
    let e = c.put_internal.ensures ∙ ap (put_internal c.loop.m c.loop.wrapped.nodes) c.only-children.ensures in
    let k : c.args.covered.doublings - c.loop.counter - 1 ≡ c.args.covered.doublings - (c.loop.counter + 1) = omega arith in
    rw (← k) (wrap-turn _ _ _ _ _ _ _ (c.loop.invariant is to w) (omega arith) c.double_once-doubled.result d c.put_internal.new.m e)

pub returns : goal.returns
returns c is w = wrap-end _ _ _ _ _ _ _ (c.loop.invariant is _ w) (omega arith)
