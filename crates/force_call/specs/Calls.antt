-- A force called alone: what it is lent, and what it answers and leaves. Definitions only.
use Rattle.std.specs.Prelude.{◌≡◌, List, ℕ, ◌≤◌, length, Float, Result, Ok, Err, IfOk, IfErr}
use Rattle.rules.specs.declared.Refusal.{Refusal}
use Rattle.rules.specs.declared.Counts.{Counts}
use Rattle.rules.specs.declared.Progress.{Progress}
use Rattle.rules.specs.Plain.{overwritten, zeros}
use Rattle.rules.specs.Outcome.{Outcome, done, refused, fine, no_refusal, ◌>>=◌, result_of, outcome_of, if_done, work_after}
use Rattle.rules.specs.Refusal.{result_check}
use Rattle.rules.specs.Sheet.{pairs_bytes}
use Rattle.rules.specs.Walk.{Counted, counted}
use Rattle.rules.specs.Flow.{Flow, flow}
use Rattle.rules.specs.ManyBody.{standard}
use Rattle.rules.specs.Force.{Push, run}
use Rattle.rules.specs.Calls.{ForceInput, slots_of, numbers_check, force_answer, buffer_after}
use Rattle.force.specs.Draws.{came_to}
use Rattle.force.specs.Ran.{flow_at, IsLate}

abbrev pub lent : List Float → List ℕ → ℕ → List Float → List ℕ → ForceInput
lent places buffer start draws work = record { places = places; buffer = buffer; start = start; draws = draws; work = work }

-- a refusal's answer
abbrev pub no_counts : Refusal → Counts
no_counts q = record { refusal = q; visits = 0; draws = 0 }

-- what a force came to, as it is counted; all counts zero on a refusal
abbrev pub counts_of : Result Progress Refusal → Counts
counts_of (Ok p) = record { refusal = no_refusal; visits = p.visits; draws = p.used }
counts_of (Err q) = no_counts q

-- a force that ended so, once 9 is tested
abbrev pub stands_as : List Float → List Float → Result Progress Refusal → Result Progress Refusal
stands_as places vs (Ok p) = result_of (result_check places vs >>= λ _. done p)
stands_as places vs (Err q) = Err q

-- What a call leaves when its force has run and stands, or is refused: the velocities vs are written over the buffer only where it stands, and the work slots are zero in any case.
pub record Settled (t : Result Progress Refusal) (vs : List Float) (start : ℕ) (buffer work : List ℕ) (r : Counts) (buffer' work' : List ℕ) : Type 0 where
  pub answer : r ≡ counts_of t
  pub bytes : buffer' ≡ if_done (outcome_of t) (λ _. overwritten buffer start (pairs_bytes vs)) buffer
  pub slots : work' ≡ zeros work

-- The force f ran on these places: it moved the velocities vs on to vs', and ended as the rules say.
pub record RunAs (f : Push) (places draws : List Float) (alpha : Float) (vs : List Float) (work : List ℕ) (ran : Result Progress Refusal) (vs' : List Float) : Type 0 where
  pub is : came_to ran (λ q. flow_at vs' draws q) ≡ run standard f places alpha (slots_of work) (counted (flow vs draws) 0)
  pub used : IfOk ran (λ q. q.used ≤ length draws)
  pub late : IfErr ran IsLate

-- It ran where 4 and 5 let it; else it is refused as they say, and the work slots are as they were.
abbrev pub Moved : Push → List Float → List Float → Float → List Float → List ℕ → Result (Result Progress Refusal) Refusal → List Float → List ℕ → Type 0
Moved f places draws alpha vs work (Ok ran) vs' work' = (numbers_check places vs f draws alpha ≡ fine) × RunAs f places draws alpha vs work ran vs'
Moved f places draws alpha vs work (Err r) vs' work' = (numbers_check places vs f draws alpha ≡ refused r) × (work' ≡ work)

-- The call answered r for the outcome o, and left these bytes and these work slots.
pub record AfterForce (l : ForceInput) (o : Outcome (Counted Flow)) (r : Counts) (buffer work : List ℕ) : Type 0 where
  pub answer : r ≡ force_answer l o
  pub bytes : buffer ≡ buffer_after l o
  pub slots : work ≡ work_after o l.work
