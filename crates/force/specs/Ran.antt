-- How a force, a stage or a tick ended, as the code answers it. Definitions only.
use Rattle.std.specs.Prelude.{◌≡◌, true, List, ℕ, ◌*◌, ◌^◌, drop, Float, Result, Ok, Err, IfOk, IfErr}
use Rattle.rules.specs.declared.Progress.{Progress}
use Rattle.rules.specs.declared.Refusal.{Refusal}
use Rattle.rules.specs.Outcome.{Outcome, done, ◌>>=◌, on_the_way}
use Rattle.rules.specs.Walk.{Counted, counted}
use Rattle.rules.specs.Flow.{Flow, flow}
use Rattle.force.specs.declared.lent.Draws.{Draws}
use Rattle.force.specs.Draws.{From, came_to}

-- the velocities vs, what is left of the draws ds, and the nodes handed out so far
abbrev pub flow_at : List Float → List Float → Progress → Counted Flow
flow_at vs ds p = counted (flow vs (drop p.used ds)) p.visits

-- no force hands out more nodes: Collide's most, 64 times 4,096 walks over a tree of at most 1 + 64 * 4,096 nodes, are fewer
abbrev pub most_force_visits : ℕ
most_force_visits = 2 ^ 37

-- nor eight of them more
abbrev pub most_tick_visits : ℕ
most_tick_visits = 8 * most_force_visits

-- a force that began at p answered r, and came to these draws and visits
abbrev pub ended_by : Result (Unit {0}) Refusal → Progress → Draws → ℕ → Result Progress Refusal
ended_by (Ok t) p draws visits = Ok (record { alpha = p.alpha; used = draws.used; visits = visits })
ended_by (Err r) p draws visits = Err r

-- p is taken on to q: alpha is kept, and no draw is used twice
pub record Onward (ds : List Float) (p q : Progress) : Type 0 where
  pub alpha : q.alpha ≡ p.alpha
  pub draws : From ds p.used q.used

-- a refusal that is met on the way
abbrev pub IsLate : Refusal → Type 0
IsLate r = on_the_way r ≡ true

-- The force began at p and ended as o; where it refuses, the work slots are zeroed.
pub record RanAs (vs ds : List Float) (p : Progress) (r : Result Progress Refusal) (o : Outcome (Counted Flow)) : Type 0 where
  pub is : came_to r (λ q. flow_at vs ds q) ≡ o
  pub onward : IfOk r (Onward ds p)
  pub late : IfErr r IsLate

-- a force that hands out no node keeps the visits that it was handed
abbrev pub visited : ℕ → Outcome Flow → Outcome (Counted Flow)
visited visits o = o >>= λ σ. done (counted σ visits)
