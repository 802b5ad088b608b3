-- What Link is lent, what it works out beforehand, and the rules over the link ends as they are lent. Definitions only.
use Rattle.std.specs.Prelude.{◌≡◌, List, map, ℕ, ◌*◌, ◌/◌, ◌%◌, ◌≤◌, ◌<◌, length, get_or, Float}
use Rattle.rules.specs.Plain.{up_to}
use Rattle.rules.specs.Refusal.{most_links}
use Rattle.rules.specs.Outcome.{Outcome}
use Rattle.rules.specs.Walk.{Counted}
use Rattle.rules.specs.Flow.{Flow}
use Rattle.rules.specs.Link.{Ends, count_ends, pull, pull_from, run_link}
use Rattle.rules.specs.Force.{ends_of}
use Rattle.force.specs.Ran.{visited}
use Rattle.list_checks.specs.Checks.{ends_at}

-- link ends in pairs, few links, each end one of n particles
pub record EndsLent (n : ℕ) (links : List ℕ) : Type 0 where
  pub whole : length links % 2 ≡ 0
  pub few : length links ≤ 2 * most_links
  pub range : (j : ℕ) → j < length links → get_or links j 0 < n

-- a distance for each link, and a strength for each or none at all
pub record NumbersLent (links : List ℕ) (strengths distances : List Float) : Type 0 where
  pub strength_each : 0 < length strengths → length strengths ≡ length links / 2
  pub distance_each : length distances ≡ length links / 2

-- how many ends each of n particles has
unfoldable pub tallies : ℕ → List Ends → List ℕ
tallies n es = map (count_ends es) (up_to n)

-- all that a link needs beside its lists: the counts of ends, and a velocity for each particle
pub record LinksReady (vs : List Float) (links counts : List ℕ) : Type 0 where
  pub lent : EndsLent (length counts) links
  pub tallied : counts ≡ tallies (length counts) (ends_of links)
  pub speeds : length vs ≡ length counts * 2

-- ---- the rules over the lists that are lent

module _ (at : List Float) (links : List ℕ) (strengths distances : List Float) where
  -- link number k
  abbrev pub pull_at : Float → ℕ → Flow → Outcome Flow
  pull_at alpha k σ = pull at (ends_of links) strengths distances alpha k (ends_at links k) σ

  -- every link
  abbrev pub pull_each : Float → Flow → Outcome Flow
  pull_each alpha σ = pull_from at (ends_of links) strengths distances alpha 0 (ends_of links) σ

  -- the whole force
  abbrev pub link_outcome : ℕ → Float → Counted Flow → Outcome (Counted Flow)
  link_outcome iterations alpha m = visited m.visits (run_link at (ends_of links) strengths distances iterations alpha m.state)
