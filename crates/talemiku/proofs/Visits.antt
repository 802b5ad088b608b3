-- How many nodes are handed out: by the single walks of ManyBody and Collide, by the forces of a tick, by the ticks of a step. What is counted is the sum of what each counts by itself, and each is bounded. Over the rules alone. Assumes nothing.
use mathlib.Core.Path.{◌≡◌, refl, sym, ap, ◌∙◌}
use mathlib.Core.Bool.{true}
use mathlib.Core.List.{List, [], ◌∷◌, ◌++◌, map}
use Prim.Native.Nat.{ℕ, zero, suc, ◌+◌, ◌*◌, ◌≤◌}
use native.Mathlib.Nat.{mul-le-mul, mul-le-mul_left}
use native.Mathlib.Omega.{arith}
use borrow.Author.Tests.{leb-true}
use lib.Dec.{leb}
use lib.ListN.{length, take, drop, length-append, length-take}
use lib.Ieee.{Float}
use Rattle.rules.specs.declared.ForceEntry.{ForceEntry}
use Rattle.rules.specs.declared.Particle.{Particle}
use Rattle.rules.specs.declared.Settings.{Settings}
use Rattle.rules.specs.declared.Tuning.{Tuning}
use Rattle.rules.specs.Plain.{all, sum, up_to, count_from}
use Rattle.rules.specs.Outcome.{Outcome, done, refused, Check, fine, ◌>>=◌, check_from, fold_stages}
use Rattle.rules.specs.Refusal.{most_iterations, alpha_check, result_check}
use Rattle.rules.specs.Sheet.{places_of, speeds_of}
use Rattle.rules.specs.Tree.{Tree, nodes, tree_of, tree_check}
use Rattle.rules.specs.Walk.{Entry, Counted, counted, After, walk}
use Rattle.rules.specs.Flow.{Flow, flow}
use Rattle.rules.specs.ManyBody.{charged_tree, leaf_charge, node_charge, many_body_step, run_many_body}
use Rattle.rules.specs.Collide.{radius_tree, leaf_radius, node_radius, collide_step, collide_once, run_collide}
use Rattle.rules.specs.Link.{Ends, run_link}
use Rattle.rules.specs.declared.Kind.{Kind}
use Rattle.rules.specs.declared.Kind.TheVariants.{Empty, ManyBody, Collide, Link, Center, Unknown}
use Rattle.rules.specs.Force.{kind_of, kind_counts, Push, many_body, collide, link, run}
use Rattle.rules.specs.Particle.{centered, closing}
use Rattle.rules.specs.Tick.{Force, empty, push, center, unknown, entry_counts, numbers_needed, links_needed, kind_force, forces_from, State, state, next_alpha, alpha_stage, if_in_range, with_speeds, push_stage, force_stage, tick_home, tick}
use Rattle.rules.specs.Terms.{distinct, most_nodes, Walked, repeated, most_visited, ForceWalked, uncounted, Forced, tick_counts}
use Rattle.rules.proofs.CellCount.{length-up_to, distinct_le}
use Rattle.rules.proofs.CellRule.{tree-nodes}
use Rattle.rules.proofs.Counting.{nodes-valued, stages-append, each_length, each_few, each_most, sum-few, walks-sum, forces-sum, tick-counts-few}
use Rattle.tree_cells.proofs.Prefix.{check-fits}
use Rattle.tree_walk.proofs.WalkTheorems.{counts-few}
use Rattle.list_checks.proofs.Checks.{bind_both, require_true}
use Rattle.talemiku.specs.Told.{most_of_force}

never : {A B : Type 0} {a : A} (r : _) → ◌≡◌ {A = Outcome A} (refused r) (done a) → B
never r e = absurd (let z : ◌≡◌ {A = ℕ} 0 1 = cc in omega arith)

-- ---- single walks

module _ {A S : Type 0} (step : ℕ → Entry A → S → Outcome (After S)) (t : Tree A) where
  -- one walk for each of these particles, over a tree of at most that many nodes
  walked : (is : List ℕ) (σ : S) (n : Counted S) (most : ℕ) → nodes t ≤ most → fold_stages (λ m i. walk (step i) t m) (counted σ 0) is ≡ done n → Walked step t σ is n.visits most
  walked is σ n most b e =
      let (ks, c, s) = walks-sum step t is (counted σ 0) n e in
      record {
        counts = ks;
        each = c;
        total = omega (arith, s);
        few = each_few (λ m. m.visits) (λ m. counted m.state 0) (λ m i. walk (step i) t m) most (λ m k i f. omega (arith, counts-few (step i) t (counted m.state 0) k f, b)) is (counted σ 0) ks c;
      }

  -- so they hand out at most that many for each
  pub walked_most : {is : List ℕ} {σ : S} {visits most : ℕ} → Walked step t σ is visits most → visits ≤ length is * most
  walked_most {is} {σ} {most = most} w =
      let k = each_length (λ m. m.visits) (λ m. counted m.state 0) (λ m i. walk (step i) t m) is (counted σ 0) w.counts w.each in
      rw (← k) (omega (arith, w.total, sum-few most w.counts w.few))

-- what a tree that can be built has: at most 1 + 64 d nodes for d distinct points
few-nodes : (at : List Float) (n slots : ℕ) → tree_check at n slots ≡ fine → nodes (tree_of at n) ≤ most_nodes (distinct at (up_to n))
few-nodes at n slots e = (tree-nodes at n (check-fits at n slots e).0).0

-- ManyBody: one walk for each particle.
pub many_body_walked : (t : Tuning) (at strengths : List Float) (alpha : Float) (slots : ℕ) (σ : Flow) (n : Counted Flow) → run_many_body t at strengths alpha slots (counted σ 0) ≡ done n
    → Walked (many_body_step t at strengths alpha) (charged_tree at strengths) σ (up_to (length strengths)) n.visits (most_nodes (distinct at (up_to (length strengths))))
unfolding run_many_body charged_tree
many_body_walked t at strengths alpha slots σ n e = go (tree_check at (length strengths) slots) refl e
  where
    go : (c : Check) → tree_check at (length strengths) slots ≡ c → (c >>= λ _. fold_stages (λ m i. walk (many_body_step t at strengths alpha i) (charged_tree at strengths) m) (counted σ 0) (up_to (length strengths))) ≡ done n
        → Walked (many_body_step t at strengths alpha) (charged_tree at strengths) σ (up_to (length strengths)) n.visits (most_nodes (distinct at (up_to (length strengths))))
    go (done u) p e =
        walked (many_body_step t at strengths alpha) (charged_tree at strengths) (up_to (length strengths)) σ n (most_nodes (distinct at (up_to (length strengths))))
        (omega (arith, nodes-valued (leaf_charge at strengths) node_charge (tree_of at (length strengths)), few-nodes at (length strengths) slots p)) e
    go (refused r) p e = never r e

-- Collide: one for each particle, in each iteration.
module _ (at radii : List Float) (strength : Float) (slots : ℕ) where
  abbrev turn : Counted Flow → ℕ → Outcome (Counted Flow)
  turn m i = walk (collide_step at radii strength i) (radius_tree at radii) m

  turns : (k i : ℕ) (m n : Counted Flow) → fold_stages (λ m _. collide_once at radii strength slots m) m (count_from i k) ≡ done n → fold_stages turn m (repeated k (up_to (length radii))) ≡ done n
  unfolding collide_once
  turns zero i m n e = e
  turns (suc k) i m n e = go (tree_check at (length radii) slots) (fold_stages turn m (up_to (length radii))) refl e (λ y. turns k (i + 1) y n)
    where
      go : (c : Check) (o : Outcome (Counted Flow)) → fold_stages turn m (up_to (length radii)) ≡ o → (c >>= (λ _. o) >>= λ y. fold_stages (λ m _. collide_once at radii strength slots m) y (count_from (i + 1) k)) ≡ done n
          → ((y : Counted Flow) → fold_stages (λ m _. collide_once at radii strength slots m) y (count_from (i + 1) k) ≡ done n → fold_stages turn y (repeated k (up_to (length radii))) ≡ done n)
          → fold_stages turn m (up_to (length radii) ++ repeated k (up_to (length radii))) ≡ done n
      go (done u) (done y) p e rest =
          stages-append turn (up_to (length radii)) (repeated k (up_to (length radii))) m ∙ ap (λ (o : Outcome (Counted Flow)). o >>= λ y. fold_stages turn y (repeated k (up_to (length radii)))) p ∙ rest y e
      go (done u) (refused r) p e rest = never r e
      go (refused r) o p e rest = never r e

  once_fine : (m n : Counted Flow) (f : Counted Flow → Outcome (Counted Flow)) → (collide_once at radii strength slots m >>= f) ≡ done n → tree_check at (length radii) slots ≡ fine
  unfolding collide_once
  once_fine m n f e = go (tree_check at (length radii) slots) refl e
    where
      go : (c : Check) → tree_check at (length radii) slots ≡ c → (c >>= (λ _. fold_stages turn m (up_to (length radii))) >>= f) ≡ done n → tree_check at (length radii) slots ≡ fine
      go (done u) p e = p
      go (refused r) p e = never r e

  pub collide_walked : (iterations : ℕ) (σ : Flow) (n : Counted Flow) → run_collide at radii strength iterations slots (counted σ 0) ≡ done n
      → Walked (collide_step at radii strength) (radius_tree at radii) σ (repeated iterations (up_to (length radii))) n.visits (most_nodes (distinct at (up_to (length radii))))
  unfolding run_collide radius_tree
  collide_walked zero σ n e = walked_none (cc)
    where
      walked_none : counted σ 0 ≡ n → Walked (collide_step at radii strength) (radius_tree at radii) σ [] n.visits (most_nodes (distinct at (up_to (length radii))))
      walked_none z = rw (← z) (record { counts = []; each = refl; total = refl; few = refl })
  collide_walked (suc k) σ n e =
      walked (collide_step at radii strength) (radius_tree at radii) (repeated (suc k) (up_to (length radii))) σ n (most_nodes (distinct at (up_to (length radii))))
      (omega (arith, nodes-valued (leaf_radius radii) node_radius (tree_of at (length radii)), few-nodes at (length radii) slots (once_fine (counted σ 0) n (λ y. fold_stages (λ m _. collide_once at radii strength slots m) y (count_from (0 + 1) k)) e)))
      (turns (suc k) 0 (counted σ 0) n e)

-- ---- a force

in_range_visits : (ps : List Particle) (m n : State) → if_in_range ps m ≡ done n → n.visits ≡ m.visits
in_range_visits ps m n e = go (result_check (places_of ps) (speeds_of ps)) e
  where
    go : (c : Check) → (c >>= λ _. done (state ps m.alpha m.draws m.visits)) ≡ done n → n.visits ≡ m.visits
    go (done u) e = let z : state ps m.alpha m.draws m.visits ≡ n = cc in ap (λ (k : State). k.visits) (sym z)
    go (refused r) e = never r e

length-repeated : (k : ℕ) (l : List ℕ) → length (repeated k l) ≡ k * length l
length-repeated zero l = omega arith
length-repeated (suc k) l = length-append l (repeated k l) ∙ omega (arith, length-repeated k l)

most_more : (a b : ℕ) → a ≤ b → most_nodes a ≤ most_nodes b
most_more a b l = omega arith

-- such a count is at most what the force's kind may hand out
walked-few : (t : Tuning) (m : State) (f : Force) (k : ℕ) → ForceWalked t m f k → k ≤ most_visited f
walked-few t m empty k w = omega arith
walked-few t m (push (many_body strengths)) k w =
    let at = places_of m.particles in
    let n = length strengths in
    let v = walked_most (many_body_step t at strengths m.alpha) (charged_tree at strengths) w in
    let d : distinct at (up_to n) ≤ n = omega (arith, distinct_le at (up_to n), length-up_to n) in
    omega (arith, rw (length-up_to n) at v, mul-le-mul_left n (most_more (distinct at (up_to n)) n d))
walked-few t m (push (collide radii strength iterations)) k w =
    let at = places_of m.particles in
    let n = length radii in
    let v = walked_most (collide_step at radii strength) (radius_tree at radii) w in
    let d : distinct at (up_to n) ≤ n = omega (arith, distinct_le at (up_to n), length-up_to n) in
    let u : k ≤ iterations * n * most_nodes (distinct at (up_to n)) = rw (length-repeated iterations (up_to n), length-up_to n) at v in
    omega (arith, u, mul-le-mul_left (iterations * n) (most_more (distinct at (up_to n)) n d))
walked-few t m (push (link links strengths distances iterations)) k w = omega arith
walked-few t m (center x y strength) k w = omega arith
walked-few t m unknown k w = omega arith

-- a stage hands out what its force's run does
walked_by : (t : Tuning) (f : Push) (P : ℕ → Type 0) (slots : ℕ) (m n : State)
    → ((r : Counted Flow) → run t f (places_of m.particles) m.alpha slots (counted (flow (speeds_of m.particles) m.draws) 0) ≡ done r → P r.visits)
    → push_stage t slots f (uncounted m) ≡ done n → P n.visits
unfolding push_stage
walked_by t f P slots m n h e = go (run t f (places_of ps) m.alpha slots (counted (flow (speeds_of ps) m.draws) 0)) refl e
  where
    ps : List Particle
    ps = m.particles

    go : (o : Outcome (Counted Flow)) → run t f (places_of ps) m.alpha slots (counted (flow (speeds_of ps) m.draws) 0) ≡ o
        → (o >>= λ r. if_in_range (with_speeds r.state.speeds ps) (state ps m.alpha r.state.draws r.visits)) ≡ done n → P n.visits
    go (done r) p e = rw (in_range_visits (with_speeds r.state.speeds ps) (state ps m.alpha r.state.draws r.visits) n e) (h r p)
    go (refused q) p e = never q e

-- Link hands out none
link_none : (links : List Ends) (strengths distances : List Float) (iterations : ℕ) (at : List Float) (alpha : Float) (σ : Flow) (n : Counted Flow)
    → (run_link at links strengths distances iterations alpha σ >>= λ τ. done (counted τ 0)) ≡ done n → n.visits ≡ 0
link_none links strengths distances iterations at alpha σ n e = go (run_link at links strengths distances iterations alpha σ) e
  where
    go : (o : Outcome Flow) → (o >>= λ τ. done (counted τ 0)) ≡ done n → n.visits ≡ 0
    go (done τ) e = let z : counted τ 0 ≡ n = cc in rw (← z)
    go (refused r) e = never r e

-- What a force of a tick hands out is the sum of its single walks, each bounded.
pub force-walked : (t : Tuning) (slots : ℕ) (m n : State) (f : Force) → force_stage t slots (uncounted m) f ≡ done n → ForceWalked t m f n.visits
unfolding push_stage run
force-walked t slots m n empty e = let z : uncounted m ≡ n = cc in rw (← z)
force-walked t slots m n (push (many_body strengths)) e = walked_by t (many_body strengths) (λ k. Walked (many_body_step t (places_of m.particles) strengths m.alpha) (charged_tree (places_of m.particles) strengths) (flow (speeds_of m.particles) m.draws) (up_to (length strengths)) k (most_nodes (distinct (places_of m.particles) (up_to (length strengths))))) slots m n (many_body_walked t (places_of m.particles) strengths m.alpha slots (flow (speeds_of m.particles) m.draws)) e
force-walked t slots m n (push (collide radii strength iterations)) e = walked_by t (collide radii strength iterations) (λ k. Walked (collide_step (places_of m.particles) radii strength) (radius_tree (places_of m.particles) radii) (flow (speeds_of m.particles) m.draws) (repeated iterations (up_to (length radii))) k (most_nodes (distinct (places_of m.particles) (up_to (length radii))))) slots m n (collide_walked (places_of m.particles) radii strength slots iterations (flow (speeds_of m.particles) m.draws)) e
force-walked t slots m n (push (link links strengths distances iterations)) e = walked_by t (link links strengths distances iterations) (λ k. k ≡ 0) slots m n (λ r. link_none links strengths distances iterations (places_of m.particles) m.alpha (flow (speeds_of m.particles) m.draws) r) e
force-walked t slots m n (center x y strength) e = in_range_visits (centered x y strength m.particles) (uncounted m) n e
force-walked t slots m n unknown e = let z : uncounted m ≡ n = cc in rw (← z)

-- so at most what its kind may
stage_few : (t : Tuning) (slots : ℕ) (m n : State) (f : Force) → force_stage t slots (uncounted m) f ≡ done n → n.visits ≤ most_visited f
stage_few t slots m n f e = walked-few t m f n.visits (force-walked t slots m n f e)

-- ---- a tick, from a state with nothing counted

module _ (s : Settings) (fs : List Force) (slots : ℕ) where
  pub tick_forced : (m n : State) → tick s fs slots (uncounted m) ≡ done n → Forced s.tuning slots (state m.particles (next_alpha s m.alpha) m.draws 0) fs n.visits
  unfolding tick_home alpha_stage
  tick_forced m n e = go (alpha_check (next_alpha s m.alpha)) (fold_stages (force_stage s.tuning slots) m₁ fs) refl e
    where
      m₁ : State
      m₁ = state m.particles (next_alpha s m.alpha) m.draws 0

      go : (c : Check) (o : Outcome State) → fold_stages (force_stage s.tuning slots) m₁ fs ≡ o → (c >>= (λ _. done m₁) >>= λ m₁. fold_stages (force_stage s.tuning slots) m₁ fs >>= λ m₂. if_in_range (closing s.velocity_decay (places_of m.particles) m₂.particles) m₂) ≡ done n
          → Forced s.tuning slots m₁ fs n.visits
      go (done u) (done m₂) p e =
          let (ks, c, t) = forces-sum s.tuning slots fs m₁ m₂ p in
          let v = in_range_visits (closing s.velocity_decay (places_of m.particles) m₂.particles) m₂ n (sym (ap (λ (o : Outcome State). o >>= λ m₂. if_in_range (closing s.velocity_decay (places_of m.particles) m₂.particles) m₂) p) ∙ e) in
          record {
            counts = ks;
            each = c;
            total = omega (arith, v, t);
            few = omega (arith, v, t, each_most (λ m. m.visits) uncounted (force_stage s.tuning slots) most_visited (stage_few s.tuning slots) fs m₁ ks c);
          }
      go (done u) (refused r) p e = never r (sym (ap (λ (o : Outcome State). o >>= λ m₂. if_in_range (closing s.velocity_decay (places_of m.particles) m₂.particles) m₂) p) ∙ e)
      go (refused r) o p e = never r e

  -- The ticks of a step: each hands out at most what the forces may.
  pub ticks_each : (alpha_min : Float) (k : ℕ) (m : State) → all (λ c. leb c (sum (map most_visited fs))) (tick_counts s alpha_min fs slots k m) ≡ true
  ticks_each alpha_min k m = tick-counts-few s alpha_min fs slots (sum (map most_visited fs)) (λ m n e. (tick_forced m n e).few) k m

-- ---- all forces of a sheet

shorter : (k n : ℕ) → k ≤ n → k * most_nodes k ≤ n * most_nodes n
shorter k n l = mul-le-mul l (most_more k n l)

kind-few : (k : Kind) (n : ℕ) (e : ForceEntry) (numbers : List Float) (links : List ℕ) → kind_counts k e.links e.iterations ≡ fine → most_visited (kind_force k n e numbers links) ≤ most_of_force n
unfolding kind_force
kind-few Empty n e numbers links h = omega arith
kind-few ManyBody n e numbers links h = omega (arith, shorter (length (take n numbers)) n (rw length-take (omega arith)))
kind-few Collide n e numbers links h =
    mul-le-mul (leb-true e.iterations most_iterations (require_true (leb e.iterations most_iterations) 1 0 h)) (shorter (length (take n numbers)) n (rw length-take (omega arith)))
kind-few Link n e numbers links h = omega arith
kind-few Center n e numbers links h = omega arith
kind-few Unknown n e numbers links h = omega arith

pub all-few : (n i : ℕ) (es : List ForceEntry) (numbers : List Float) (links : List ℕ) → check_from (λ _ e. entry_counts e) i es ≡ fine → sum (map most_visited (forces_from n es numbers links)) ≤ length es * most_of_force n
all-few n i [] numbers links h = omega arith
all-few n i (e ∷ es) numbers links h =
    let (a, b) = bind_both (entry_counts e) (check_from (λ _ e. entry_counts e) (i + 1) es) h in
    omega (arith, kind-few (kind_of e.kind) n e numbers links a, all-few n (i + 1) es (drop (numbers_needed n e) numbers) (drop (links_needed e * 2) links) b)
