-- A tick by columns: what a stage is lent, and how the code answers it. Definitions only.
use Rattle.std.specs.Prelude.{◌≡◌, true, List, ℕ, ◌+◌, ◌*◌, ◌≤◌, length, drop, Float, Result, IfOk, IfErr, OnOk}
use Rattle.rules.specs.declared.Refusal.{Refusal}
use Rattle.rules.specs.declared.ForceEntry.{ForceEntry}
use Rattle.rules.specs.declared.Particle.{Particle}
use Rattle.rules.specs.declared.Progress.{Progress}
use Rattle.rules.specs.Plain.{all}
use Rattle.rules.specs.Outcome.{Outcome, done, fine, ◌>>=◌, result_of}
use Rattle.rules.specs.Number.{within}
use Rattle.rules.specs.Refusal.{most_particles, result_check}
use Rattle.rules.specs.Tick.{State, state, entry_counts, strengths_right, numbers_needed, links_needed, force_of, force_ends}
use Rattle.force.specs.Draws.{came_to}
use Rattle.force.specs.Ran.{most_force_visits, Onward, IsLate}
use Rattle.closing.specs.Columns.{particles_from}

-- particles by columns: places and velocities in pairs, and flags
pub record Columns : Type 0 where
  pub places : List Float
  pub speeds : List Float
  pub flags : List ℕ

abbrev pub columns : List Float → List Float → List ℕ → Columns
columns places speeds flags = record { places = places; speeds = speeds; flags = flags }

abbrev pub particles_in : Columns → List Particle
particles_in k = particles_from k.places k.speeds k.flags

-- n particles, not too many and none further than 2 ^ 40 from zero: places and velocities in pairs; and no draw used past the last
pub record ColumnsFit (at vs ds : List Float) (n used : ℕ) : Type 0 where
  pub few : n ≤ most_particles
  pub places : length at ≡ n * 2
  pub speeds : length vs ≡ n * 2
  pub ranged : all within at ≡ true
  pub drawn : used ≤ length ds

-- a link and a tail for each of n particles
pub record Chains (n : ℕ) (next tail : List ℕ) : Type 0 where
  pub links : length next ≡ n
  pub tails : length tail ≡ n

-- what 1, 2 and 3 let pass of one slot, whose lists are the first of these
pub record EntryFits (n : ℕ) (e : ForceEntry) (xs : List Float) (ls : List ℕ) : Type 0 where
  pub counts : entry_counts e ≡ fine
  pub strengths : strengths_right e ≡ true
  pub numbers : numbers_needed n e ≤ length xs
  pub links : links_needed e * 2 ≤ length ls
  pub ends : force_ends n (force_of n e xs ls) ≡ fine

-- the state that columns stand for at p, of the draws ds
abbrev pub state_of : Columns → List Float → Progress → State
state_of k ds p = state (particles_in k) p.alpha (drop p.used ds) p.visits

-- what is answered where a stage has come to p and 9 is tested
abbrev pub ranged_to : List Float → List Float → Progress → Result Progress Refusal
ranged_to places speeds p = result_of (result_check places speeds >>= λ _. done p)

-- The stage began at p and ended as o, by the refusal or with the columns as they are now. Where it refuses, the work slots are zeroed; else alpha is kept, no draw is used twice, the visits come to `most` at most, and the places are in range.
pub record Stages (k : Columns) (ds : List Float) (p : Progress) (most : ℕ) (r : Result Progress Refusal) (o : Outcome State) : Type 0 where
  pub is : came_to r (λ q. state_of k ds q) ≡ o
  pub onward : IfOk r (Onward ds p)
  pub few : IfOk r (λ q. q.visits ≤ most)
  pub ranged : OnOk r (all within k.places ≡ true)
  pub late : IfErr r IsLate

-- the stage f, from the columns k to k'
abbrev pub StageBy : (State → Outcome State) → Columns → Columns → List Float → Progress → Result Progress Refusal → Type 0
StageBy f k k' ds p r = Stages k' ds p (p.visits + most_force_visits) r (f (state_of k ds p))
