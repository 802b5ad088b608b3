-- Many ticks, one after another.
use mathlib.Core.Path.{◌≡◌, refl, sym, ap, ◌∙◌}
use mathlib.Core.Bool.{Bool, true, false, ◌||◌}
use mathlib.Core.List.{List}
use Prim.Native.Nat.{ℕ, suc, ◌+◌, ◌-◌, ◌*◌, ◌≤◌, ◌<◌}
use native.Mathlib.Omega.{arith}
use lib.ListN.{length}
use lib.Ieee.{Float, lt}
use Rattle.rules.specs.declared.Progress.{Progress}
use Rattle.rules.specs.declared.Settings.{Settings}
use Rattle.rules.specs.Outcome.{no_refusal, refusal_in, zeroes_work}
use Rattle.rules.specs.Tick.{Force, tick_home, tick, TicksDone, ticks_from}
use Rattle.rules.specs.declared.Refusal.{Refusal}
use Rattle.force.specs.Ran.{IsLate, most_tick_visits}
use lib.Dec.{eqb}
use Rattle.std.proofs.Common.{Ok, Err}
use Rattle.std.specs.Prelude.{Result, IfErr}
use Rattle.tick.specs.Tick.{cooled}
use Rattle.closing.proofs.Closing.{places-back}
use Rattle.tick_columns.specs.Stage.{Columns, columns, ColumnsFit, state_of, Stages}
use Rattle.step.specs.Step.{Steps}

-- a refusal that is met on the way clears the slots
clears : (q : Refusal) → IsLate q → zeroes_work q ≡ true
unfolding zeroes_work
clears q h = go (eqb q.number 0) h
  where
    go : (a : Bool) {b : Bool} → b ≡ true → a || b ≡ true
    go true h = refl
    go false h = h

-- t ticks ran, and what they left, the columns k at p, decides what all of the budget do
pub record Running (s : Settings) (alpha_min : Float) (fs : List Force) (slots budget n : ℕ) (ds : List Float) (all : TicksDone) (t : ℕ) (k : Columns) (p : Progress) : Type 0 where
  pub lent : ColumnsFit k.places k.speeds ds n p.used
  pub few : p.visits ≤ t * most_tick_visits
  pub same : ticks_from s alpha_min fs slots (budget - t) t (state_of k ds p) ≡ all

module _ {s : Settings} {alpha_min : Float} {fs : List Force} {slots budget n : ℕ} {ds : List Float} {all : TicksDone} {t : ℕ} {k : Columns} {p : Progress}
    (g : Running s alpha_min fs slots budget n ds all t k p) where
  -- the budget is spent
  pub running_end : t ≡ budget → Steps k ds budget (record { ticks = budget; end = Ok tt; progress = p }) all
  unfolding zeroes_work ticks_from
  running_end e =
      let spent : budget - t ≡ 0 = omega arith in
      rw (← e) (record { is = rw (spent) at g.same; late = refl; met = tt; ticked = omega arith; drawn = g.lent.drawn; few = g.few; ranged = g.lent.ranged })

  module _ (h : t < budget) where
    left : budget - t ≡ suc (budget - (t + 1))
    left = omega arith

    enough : p.visits ≤ budget * most_tick_visits
    enough = omega (arith, g.few)

    -- alpha is low, and nothing is refused
    pub running_low : (end : Result (Unit {0}) Refusal) → IfErr end IsLate → refusal_in end ≡ no_refusal → lt alpha_min p.alpha ≡ false → Steps k ds budget (record { ticks = t; end = end; progress = p }) all
    unfolding zeroes_work ticks_from
    running_low end met none c = record { is = rw none (rw (left, c) at g.same); late = rw none refl; met = met; ticked = omega arith; drawn = g.lent.drawn; few = enough; ranged = g.lent.ranged }

    -- a tick left the columns k'; held axes return to the places at its entry
    module _ (c : lt alpha_min p.alpha ≡ true) {home : List Float} (at : home ≡ k.places) (pairs : length k.places ≡ length k.flags * 2) where
      ticked : tick_home s home fs slots (state_of k ds p) ≡ tick s fs slots (state_of k ds p)
      ticked = ap (λ (l : List Float). tick_home s l fs slots (state_of k ds p)) (at ∙ sym (places-back k.places k.speeds k.flags pairs))

      -- it is refused, and all is put back as it was
      pub running_stop : {k' : Columns} {most : ℕ} {q : Refusal} → Stages k' ds (cooled s p) most (Err q) (tick_home s home fs slots (state_of k ds p)) → {places speeds : List Float} → places ≡ k.places → speeds ≡ k.speeds
          → Steps (columns places speeds k.flags) ds budget (record { ticks = t; end = Err q; progress = p }) all
      unfolding ticks_from
      running_stop {q = q} e ep ev =
          let refuses = sym (e.is ∙ ticked) in
          rw (ep, ev) (record { is = rw (left, c, refuses) at g.same; late = clears q e.late; met = e.late; ticked = omega arith; drawn = g.lent.drawn; few = enough; ranged = g.lent.ranged })

      -- it came to `to`
      pub running_on : {k' : Columns} {most : ℕ} {to : Progress} → Stages k' ds (cooled s p) most (Ok to) (tick_home s home fs slots (state_of k ds p)) → most ≡ p.visits + most_tick_visits → length k'.places ≡ length k.places → length k'.speeds ≡ length k.speeds
          → Running s alpha_min fs slots budget n ds all (t + 1) k' to
      unfolding ticks_from
      running_on e em ep ev =
          let goes = sym (e.is ∙ ticked) in
          record {
            lent = record { few = g.lent.few; places = ep ∙ g.lent.places; speeds = ev ∙ g.lent.speeds; ranged = e.ranged; drawn = e.onward.draws.reach };
            few = omega (arith, e.few, g.few);
            same = rw (left, c, goes) at g.same;
          }
