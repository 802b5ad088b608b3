-- `close_all` is the closing move of all particles, by columns.
use Rattle.std.proofs.Common.{◌≡◌, sym, ap, ◌∙◌, arith, length}
use Rattle.rules.specs.Number.{x_at, y_at}
use Rattle.rules.specs.Sheet.{places_of, speeds_of}
use Rattle.rules.specs.Particle.{moved}
use Rattle.sheet.proofs.PairLists.{pair-rest, same_rest}
use Rattle.closing.proofs.Closing.{closed_at, closing-is, closed-now, places-turn, speeds-turn, places-end, speeds-end}
use Rattle.closing.proofs.close_all.Goals as goal

pub loop-i-preserved : goal.loop-i-preserved
loop-i-preserved c =
    let a = c.args in
    let l = c.loop-i in
    let closed = closed_at a.decay a.home.now a.places.now a.speeds.now a.flags.now in
    let n = length a.flags.now in
    let q = c.moved-q.result in
    let e : q ≡ closed l.i =
    c.moved-q.ensures
    ∙ ap (moved a.decay (x_at a.home.now l.i) (y_at a.home.now l.i)) c.particle_at-p.ensures
    ∙ closed-now a.decay a.home.now a.places.now a.speeds.now a.flags.now l.i l.places l.speeds l.invariant.places_left l.invariant.speeds_left in
    record {
      places_left = pair-rest l.places l.i q.x q.y ∙ same_rest l.places l.i a.places.now l.invariant.places_left;
      speeds_left = pair-rest l.speeds l.i q.vx q.vy ∙ same_rest l.speeds l.i a.speeds.now l.invariant.speeds_left;
      places_done = l.invariant.places_done ∙ places-turn closed n l.places l.i (omega arith) (omega arith) q e;
      speeds_done = l.invariant.speeds_done ∙ speeds-turn closed n l.speeds l.i (omega arith) (omega arith) q e;
    }

pub returns : goal.returns
returns c =
    let a = c.args in
    let l = c.loop-i in
    let closed = closed_at a.decay a.home.now a.places.now a.speeds.now a.flags.now in
    let n = length a.flags.now in
    let e = sym (closing-is a.decay a.home.now a.places.now a.speeds.now a.flags.now c.requires.0) in (
      sym (places-end closed n l.places l.i (omega arith) (omega arith)) ∙ sym l.invariant.places_done ∙ ap places_of e,
      sym (speeds-end closed n l.speeds l.i (omega arith) (omega arith)) ∙ sym l.invariant.speeds_done ∙ ap speeds_of e,
    )
