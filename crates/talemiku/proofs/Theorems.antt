-- What the public calls are shown to do, for any bytes, from what the entries promise alone: these promises are the equations of floor and root, `AfterTree`, `AfterForce`, `AfterParticles` of Center and the closing move, `AfterTick` and `AfterStep`, `Unwrapped` of an outline. The words are those of rules/specs/Terms, rules/specs/Outline and specs/Told.
use mathlib.Core.Path.{◌≡◌, refl, sym, ap, ◌∙◌, subst}
use mathlib.Core.Logic.{◌⊎◌, ◌↔◌, ◌≢◌}
use mathlib.Core.Bool.{Bool, true, false}
use mathlib.Core.List.{List, [], ◌∷◌, ◌++◌, map}
use Prim.Native.Nat.{ℕ, suc, ◌+◌, ◌*◌, ◌^◌, ◌≤◌, ◌<◌}
use native.Mathlib.Nat.{mul-le-mul_left}
use native.Mathlib.Omega.{arith}
use borrow.Author.Tests.{eqb-true}
use lib.Dec.{T, leb}
use lib.IntN.{ℤ, pos, neg_ℤ, nat_abs, ◌+ℤ◌, ◌-ℤ◌}
use lib.ListN.{length, get_or, take, drop}
use lib.Ieee.{Float}
use Rattle.rules.specs.declared.Extent.{Extent}
use Rattle.rules.specs.declared.FloorAnswer.{FloorAnswer}
use Rattle.rules.specs.declared.Particle.{Particle}
use Rattle.rules.specs.declared.Refusal.{Refusal}
use Rattle.rules.specs.declared.Settings.{Settings}
use Rattle.rules.specs.declared.Tuning.{Tuning}
use Rattle.rules.specs.declared.TreeAnswer.{TreeAnswer}
use Rattle.rules.specs.declared.Counts.{Counts}
use Rattle.rules.specs.declared.StepAnswer.{StepAnswer}
use Rattle.rules.specs.Plain.{keep, padded, overwritten, all, sum, up_to}
use Rattle.rules.specs.Outcome.{Outcome, done, refused, refusal, fine, require, ◌>>=◌, refusal_of, if_done}
use Rattle.rules.specs.Number.{float_of, bits_of, within, x_at, y_at}
use Rattle.rules.specs.Floor.{floor, floor_result, floor_answer, IsFloor}
use Rattle.rules.specs.Root.{root, root_bits, IsRoot}
use Rattle.rules.specs.Refusal.{most_particles, most_ticks, count_check}
use Rattle.rules.specs.Sheet.{particles_of}
use Rattle.rules.specs.Cover.{Square, inside, holds, cover_first, extent_of}
use Rattle.rules.specs.Tree.{Tree, depth, greatest_level, same, rows_of, flat, chains_of}
use Rattle.rules.specs.Walk.{Counted}
use Rattle.rules.specs.Flow.{Flow, flow}
use Rattle.rules.specs.ManyBody.{standard, charged_tree, many_body_step}
use Rattle.rules.specs.Collide.{radius_tree, collide_step}
use Rattle.rules.specs.Force.{many_body, collide, run}
use Rattle.rules.specs.Calls as Calls
use Rattle.rules.specs.Calls.{slots_of, TreeInput, tree_lengths, input_check, tree_result, ForceInput, no_ends, no_alpha, speeds, force_check, many_body_result, collide_result, link_result, force_answer, center_result, closing_result}
use Rattle.rules.specs.Tick.{Force, SheetInput, count, entries, forces, State, state, next_alpha, force_stage, tick, sheet_check, entry_state, tick_settings, tick_result, tick_answer, ticks_from, step_result, step_answer}
use Rattle.rules.specs.Terms.{leaves, EachLeaf, Oversized, Earliest, NotOfTree, times, in_cell, IsTree, Sided, distinct, most_nodes, Walked, repeated, most_visited, ForceWalked, uncounted, Forced, tick_counts}
use Rattle.rules.specs.Outline.{half_turn, short_step, outline, outline_check, OutlineInput, outline_answer, unwrapped_after, Equivalent, Short, IsOutline, Closed, steps_round, total, SameMeridians}
use Rattle.rules.proofs.Theorems.{floor-is, root_is}
use Rattle.rules.proofs.RefusalLaws.{of_answer}
use Rattle.rules.proofs.Places as Places
use Rattle.rules.proofs.CellCount.{in_count, times_in, length-up_to}
use Rattle.rules.proofs.CellChain.{each_map, Chain}
use Rattle.rules.proofs.CellRule.{unique, points, leaves-distinct, nodes-distinct, chains-length, each_once, chains as chains-of}
use Rattle.rules.proofs.Counting.{sum-few, tick-counts-length, ticks_sum}
use Rattle.rules.proofs.Outline.{seam-at, step-short, step_equivalent, step_only, outline-is, outline_only, closes-short, closes-sum}
use Rattle.number.proofs.Flooring.{within-finite}
use Rattle.tree_cells.proofs.WholeTree.{extent_sided, extent_holds, whole-tree, leaves_hold, ruled-fine, earliest_ruled, computed-exactly, ruled-exactly, earliest}
use Rattle.tree_rows.proofs.ListRows.{rows_count}
use Rattle.tree_call.specs.Tree.{AfterTree}
use Rattle.force_call.specs.Calls.{AfterForce}
use Rattle.tick_call.specs.Tick.{AfterTick}
use Rattle.step_call.specs.Step.{AfterStep}
use Rattle.outline.specs.Unwrap.{Unwrapped, lent_outline}
use Rattle.talemiku.specs.AfterParticles.{AfterParticles}
use Rattle.talemiku.specs.Told.{places_lent, particles_lent, points_lent, extent_lent, rule_tree, InputFine, most_of_tick, TreeRefused, OutlineFine}
use Rattle.talemiku.proofs.Trees.{Accepted, input_fine, input_refused, built-fine, builds, refusal_is, accepts, answer_is, rows_are, chains_are}
use Rattle.talemiku.proofs.Accepted.{checked, force_ran, force_refuses_tree, tick_ran, entries-fine}
use Rattle.talemiku.proofs.Outlines.{laid, first-are, rest-is, length-is, few-corners, near-centre, near-zero, kept, closed_is, unclosed-is, input_answer, result-same}
use Rattle.talemiku.proofs.Visits.{many_body_walked, collide_walked, force-walked, tick_forced, ticks_each, all-few}

-- ==== floor and root

-- An accepted floor is the greatest whole number at most x.
pub floor-whole : (x : Float) (r : FloorAnswer) → r ≡ floor_answer x → r.refusal.number ≡ 0 → IsFloor x r.value
unfolding floor_answer floor_result
floor-whole x r e z = go (within x) refl (sym (ap (λ (r : FloorAnswer). r.refusal.number) e) ∙ z) (ap (λ (r : FloorAnswer). r.value) e)
  where
    go : (b : Bool) → within x ≡ b → (refusal_of (require b 4 0 >>= λ _. done (floor x))).number ≡ 0 → r.value ≡ if_done (require b 4 0 >>= λ _. done (floor x)) (λ z. z) (pos 0) → IsFloor x r.value
    go true w n v = rw v (floor-is x (within-finite x (subst T (sym w) tt)))
    go false w n v = absurd (omega arith)

-- What the root answers are the bits of the root that IEEE 754 names.
pub root-nearest : (bits r : ℕ) → r ≡ root_bits bits → (y : Float) × (r ≡ bits_of y) × IsRoot (float_of bits) y
unfolding root_bits
root-nearest bits r e = (root (float_of bits), e, root_is (float_of bits))

-- ==== the tree call

module _ (l : TreeInput) (r : TreeAnswer) (rows chains work : List ℕ) (a : AfterTree l (tree_result most_particles l) r rows chains work) where
  -- ---- answered 0

  module _ (z : r.refusal.number ≡ 0) where
    ok : Accepted l
    ok = accepts a z

    -- The extent is the one that is reached by covering the points in order.
    pub tree-extent : r.extent ≡ extent_lent l
    tree-extent = ap (λ (r : TreeAnswer). r.extent) (answer_is a ok)

    -- The rows are those of the cell rule's tree of that extent and the points, with zeros after them, and the chains are that tree's.
    pub tree-listed : (rows ≡ padded (length l.rows) 0 (flat (rows_of (rule_tree l)))) × (chains ≡ chains_of (rule_tree l))
    tree-listed = (rows_are a ok, chains_are a ok)

    -- This tree keeps the cell rule (`IsTree`, which sets no greatest level), and it is the only one that does.
    pub tree-ruled : IsTree (places_lent l) r.extent (rule_tree l) (up_to (particles_lent l))
        × ((t : Tree Extent) → IsTree (places_lent l) r.extent t (up_to (particles_lent l)) → t ≡ rule_tree l)
    tree-ruled =
        let h : IsTree (places_lent l) r.extent (rule_tree l) (up_to (particles_lent l)) = rw tree-extent (whole-tree (places_lent l) (particles_lent l) ok.fits.0) in
        (h, λ t g. unique (places_lent l) t (rule_tree l) r.extent (up_to (particles_lent l)) g h)

    -- There is one leaf for each distinct point.
    pub tree-leaves : leaves (rule_tree l) ≡ points_lent l
    tree-leaves = leaves-distinct (places_lent l) (rule_tree l) r.extent (up_to (particles_lent l)) tree-ruled.0

    -- Each leaf's chain is all particles that are numerically equal to any of its own, in order.
    pub tree-chains : EachLeaf (λ c is. (i : ℕ) → 0 < times i is → is ≡ keep (same (places_lent l) i) (up_to (particles_lent l))) (rule_tree l)
    tree-chains =
        each_map (λ _. Chain (places_lent l) (up_to (particles_lent l))) (λ c is. (i : ℕ) → 0 < times i is → is ≡ keep (same (places_lent l) i) (up_to (particles_lent l))) (λ c is h i m. h.whole i (times_in i is m)) (rule_tree l)
        (chains-of (places_lent l) (rule_tree l) r.extent (up_to (particles_lent l)) (points (places_lent l) (up_to (particles_lent l)) (λ i m. (input_fine l ok.input).ranged i (omega (arith, in_count 0 (particles_lent l) i m)))) tree-ruled.0)

    -- Every particle stands in exactly one chain, once, and nothing else does.
    pub tree-once : ((i : ℕ) → i < particles_lent l → times i chains ≡ 1) × (length chains ≡ particles_lent l)
    tree-once = (
      λ i k. rw (chains_are a ok) (each_once (places_lent l) (particles_lent l) i ok.fits.0 k),
      rw (chains_are a ok) (chains-length (places_lent l) (rule_tree l) r.extent (up_to (particles_lent l)) tree-ruled.0 ∙ length-up_to (particles_lent l)),
    )

    -- Each leaf's points lie in its half-open cell.
    pub tree-inside : EachLeaf (λ c is. all (λ i. in_cell c (x_at (places_lent l) i) (y_at (places_lent l) i)) is ≡ true) (rule_tree l)
    tree-inside = leaves_hold (places_lent l) (particles_lent l) (input_fine l ok.input).ranged ok.fits.0

    -- The answer's node count is how many rows there are, at most 1 + 64 m for m distinct points.
    pub tree-nodes : (r.nodes ≡ length (rows_of (rule_tree l))) × (r.nodes ≤ most_nodes (points_lent l))
    tree-nodes =
        let n = ap (λ (r : TreeAnswer). r.nodes) (answer_is a ok) in
        (n ∙ sym (rows_count 0 0 (rule_tree l)), omega (arith, n, nodes-distinct (places_lent l) (rule_tree l) r.extent (up_to (particles_lent l)) tree-ruled.0 ok.fits.0))

  -- ---- the checks of the input: 10, 1, 2, 4 and 5

  -- Where one of them refuses, that is the answer.
  pub tree_input : (q : Refusal) → input_check most_particles (tree_lengths l) l.sheet ≡ refused q → r.refusal ≡ q
  tree_input q e = refusal_is a ∙ ap refusal_of (input_refused l q e)

  -- Past them:
  module _ (h : InputFine l) where
    -- Where there is a point, covering the first points reaches a square of whole numbers whose side is at most 2 ^ 43, and which holds the floors of all of them.
    pub tree-side : (k : ℕ) → 0 < k → k ≤ particles_lent l
        → (s : Square) × (side : ℕ) × (cover_first (places_lent l) k ≡ holds s) × Sided side s × (0 < side) × (side ≤ 2 ^ 43) × (all (λ i. inside s (floor (x_at (places_lent l) i)) (floor (y_at (places_lent l) i))) (up_to k) ≡ true)
    tree-side k some few = extent_sided (places_lent l) k (λ i m. (input_fine l h).ranged i (omega arith)) some

    -- The extent holds every point.
    pub tree-holds : all (λ i. in_cell (extent_lent l) (x_at (places_lent l) i) (y_at (places_lent l) i)) (up_to (particles_lent l)) ≡ true
    tree-holds = extent_holds (places_lent l) (particles_lent l) (input_fine l h).ranged

    -- 6 or 7 is answered exactly where the cell rule's tree of all points goes below level 64 or needs more slots than were lent.
    pub tree_refuses : ((r.refusal.number ≡ 6) ⊎ (r.refusal.number ≡ 7)) ↔ ((t : Tree Extent) → IsTree (places_lent l) (extent_lent l) t (up_to (particles_lent l)) → Oversized (slots_of l.work) t)
    tree_refuses = ruled-exactly (places_lent l) (particles_lent l) (slots_of l.work) (builds a h)

    -- That is: where the tree which the rules compute does.
    pub tree-computes : ((r.refusal.number ≡ 6) ⊎ (r.refusal.number ≡ 7)) ↔ Oversized (slots_of l.work) (rule_tree l)
    tree-computes = computed-exactly (places_lent l) (particles_lent l) (slots_of l.work) (builds a h)

    -- Otherwise, where there is such a tree that does not, nothing is refused.
    pub tree-accepts : (t : Tree Extent) → IsTree (places_lent l) (extent_lent l) t (up_to (particles_lent l)) → (Oversized (slots_of l.work) t → ⊥) → r.refusal ≡ refusal 0 0
    tree-accepts t g small =
        refusal_is a ∙ ap refusal_of (built-fine l h (ruled-fine (places_lent l) (particles_lent l) t g (input_fine l h).ranged (slots_of l.work) small))

    -- Which of the two and where is the earliest prefix's,
    pub tree-earliest : (r.refusal.number ≡ 6) ⊎ (r.refusal.number ≡ 7) → Earliest (places_lent l) (particles_lent l) (slots_of l.work) r.refusal
    tree-earliest = earliest (places_lent l) (particles_lent l) (slots_of l.work) (builds a h)

    -- of which every tree by the cell rule is too large, and for 6 goes below level 64.
    pub tree-prefix : (r.refusal.number ≡ 6) ⊎ (r.refusal.number ≡ 7) → (t : Tree Extent)
        → IsTree (places_lent l) (extent_of (cover_first (places_lent l) (r.refusal.place + 1))) t (up_to (r.refusal.place + 1)) → Oversized (slots_of l.work) t × (r.refusal.number ≡ 6 → greatest_level + 1 < depth t)
    tree-prefix k t g = earliest_ruled (places_lent l) (particles_lent l) (slots_of l.work) r.refusal (tree-earliest k) t g

-- ==== ManyBody, Collide, Link

module _ (l : ForceInput) (r : Counts) (buffer work : List ℕ) where
  -- how many particles, and how many distinct points
  abbrev n : ℕ
  n = Calls.count l

  abbrev m : ℕ
  m = distinct l.places (up_to n)

  -- A refusal counts nothing.
  pub force_refused : (o : Outcome (Counted Flow)) → AfterForce l o r buffer work → (q : Refusal) → o ≡ refused q → (r.refusal ≡ q) × (r.visits ≡ 0) × (r.draws ≡ 0)
  unfolding force_answer
  force_refused o a q e = rw (a.answer, e) (refl, refl, refl)

  module _ (strengths : List Float) (alpha : Float) (a : AfterForce l (many_body_result l strengths alpha) r buffer work) where
    -- ManyBody walks once for each particle: each walk's count is that of the rule's walk, at most 1 + 64 m, and the visits answered are their sum.
    pub many-body-visits : r.refusal.number ≡ 0
        → Walked (many_body_step standard l.places strengths alpha) (charged_tree l.places strengths) (flow (speeds l) l.draws) (up_to n) r.visits (most_nodes m)
    unfolding run
    many-body-visits z =
        let h = force_ran l (many_body strengths) no_ends alpha a z in
        let e : length strengths ≡ n = eqb-true (length strengths) n h.checked.lengths in
        rw h.visits
        (subst (λ (k : ℕ). Walked (many_body_step standard l.places strengths alpha) (charged_tree l.places strengths) (flow (speeds l) l.draws) (up_to k) h.last.visits (most_nodes (distinct l.places (up_to k)))) e
        (many_body_walked standard l.places strengths alpha (slots_of l.work) (flow (speeds l) l.draws) h.last h.run))

    -- Past its checks it gives 6 or 7 as the tree call does.
    pub many-body-refuses : force_check l (many_body strengths) no_ends alpha ≡ fine → TreeRefused l.places n (slots_of l.work) r.refusal
    many-body-refuses h =
        let c = checked l (many_body strengths) no_ends alpha h in
        force_refuses_tree l (many_body_result l strengths alpha) (length strengths) a c.ranged (eqb-true (length strengths) n c.lengths) (Places.many_body_built l strengths alpha h)

  module _ (radii : List Float) (strength : Float) (iterations : ℕ) (a : AfterForce l (collide_result l radii strength iterations) r buffer work) where
    -- Collide walks so in each iteration. Places don't change within a force, so the trees that are built anew are all the same one.
    pub collide-visits : r.refusal.number ≡ 0
        → Walked (collide_step l.places radii strength) (radius_tree l.places radii) (flow (speeds l) l.draws) (repeated iterations (up_to n)) r.visits (most_nodes m)
    unfolding run
    collide-visits z =
        let h = force_ran l (collide radii strength iterations) no_ends no_alpha a z in
        let e : length radii ≡ n = eqb-true (length radii) n h.checked.lengths in
        rw h.visits
        (subst (λ (k : ℕ). Walked (collide_step l.places radii strength) (radius_tree l.places radii) (flow (speeds l) l.draws) (repeated iterations (up_to k)) h.last.visits (most_nodes (distinct l.places (up_to k)))) e
        (collide_walked l.places radii strength (slots_of l.work) iterations (flow (speeds l) l.draws) h.last h.run))

  -- With an iteration Collide gives 6 or 7 as ManyBody does.
  pub collide_refuses : (radii : List Float) (strength : Float) (k : ℕ) → AfterForce l (collide_result l radii strength (suc k)) r buffer work → force_check l (collide radii strength (suc k)) no_ends no_alpha ≡ fine
      → TreeRefused l.places n (slots_of l.work) r.refusal
  collide_refuses radii strength k a h =
      let c = checked l (collide radii strength (suc k)) no_ends no_alpha h in
      force_refuses_tree l (collide_result l radii strength (suc k)) (length radii) a c.ranged (eqb-true (length radii) n c.lengths) (Places.collide_built l radii strength k h)

  -- With 0 iterations it gives neither.
  pub collide_neither : (radii : List Float) (strength : Float) → AfterForce l (collide_result l radii strength 0) r buffer work → NotOfTree r.refusal
  unfolding force_answer
  collide_neither radii strength a = rw a.answer (of_answer (omega arith) (Places.collide_other l radii strength))

  -- Link gives neither 6 nor 7.
  pub link_neither : (links : List ℕ) (strengths distances : List Float) (iterations : ℕ) (alpha : Float) → AfterForce l (link_result l links strengths distances iterations alpha) r buffer work → NotOfTree r.refusal
  unfolding force_answer
  link_neither links strengths distances iterations alpha a = rw a.answer (of_answer (omega arith) (Places.link_other l links strengths distances iterations alpha))

-- ==== Center and the closing move

module _ (ps : List Particle) (r : Refusal) (after : List Particle) where
  -- Center gives neither 6 nor 7.
  pub center_neither : (x y strength : Float) → AfterParticles (center_result x y strength ps) ps r after → NotOfTree r
  center_neither x y strength a = rw a.answer (of_answer (omega arith) (Places.list_other _ _ ps))

  -- Nor does the closing move.
  pub closing-neither : (decay : Float) → AfterParticles (closing_result decay ps) ps r after → NotOfTree r
  closing-neither decay a = rw a.answer (of_answer (omega arith) (Places.list_other _ _ ps))

-- ==== a tick

-- What a force of a tick hands out is the sum of its single walks over the tree of the places that it finds, each bounded as for the force alone.
pub force_visits : (t : Tuning) (slots : ℕ) (m k : State) (f : Force) → force_stage t slots (uncounted m) f ≡ done k → ForceWalked t m f k.visits
force_visits = force-walked

module _ (l : SheetInput) (s : Settings) (r : Counts) (sheet : List ℕ) (alpha : ℕ) (work : List ℕ) (a : AfterTick l s r sheet alpha work) where
  -- The visits of an accepted tick are the sum over its forces, each counted by itself from the state that the one before left, and at most what all of them may hand out.
  pub tick_visits : r.refusal.number ≡ 0 → Forced s.tuning (slots_of l.work) (state (particles_of l.sheet) (next_alpha s (float_of l.alpha)) l.draws 0) (forces l) r.visits
  tick_visits z = let h = tick_ran l a z in rw h.visits (tick_forced s (forces l) (slots_of l.work) (entry_state l) h.last h.run)

  -- So at most 8 * 64 * n * (1 + 64 n) for n particles, as if Collide with 64 iterations stood in every slot.
  pub tick_most : r.refusal.number ≡ 0 → r.visits ≤ most_of_tick (count l)
  tick_most z = let h = tick_ran l a z in omega (arith, (tick_visits z).few, all-few (count l) 0 (entries l) l.numbers l.links (entries-fine l fine (tick_settings l s) h.input))

  -- A refused tick counts nothing.
  pub tick_refused : (q : Refusal) → tick_result l s ≡ refused q → (r.refusal ≡ q) × (r.visits ≡ 0) × (r.draws ≡ 0)
  unfolding tick_answer
  tick_refused q e = rw (a.answer, e) (refl, refl, refl)

-- ==== a step

-- What a tick of a step hands out is the sum over its forces, as for a tick alone.
pub step-forces : (s : Settings) (fs : List Force) (slots : ℕ) (m k : State) → tick s fs slots (uncounted m) ≡ done k → Forced s.tuning slots (state m.particles (next_alpha s m.alpha) m.draws 0) fs k.visits
step-forces = tick_forced

module _ (l : SheetInput) (s : Settings) (alpha_min : Float) (budget : ℕ) (r : StepAnswer) (sheet : List ℕ) (alpha : ℕ) (work : List ℕ) (a : AfterStep l s alpha_min budget r sheet alpha work) where
  -- A step that itself refuses has done nothing and counts nothing.
  pub step_refused : (q : Refusal) → sheet_check l (count_check most_ticks budget) (tick_settings l s ++ (alpha_min ∷ [])) ≡ refused q → (r.refusal ≡ q) × (r.ticks ≡ 0) × (r.visits ≡ 0) × (r.draws ≡ 0)
  unfolding step_answer step_result
  step_refused q e = rw (a.answer, e) (refl, refl, refl, refl)

  -- Where it refuses nothing itself (a tick may still end it by 6 to 9):
  module _ (h : sheet_check l (count_check most_ticks budget) (tick_settings l s ++ (alpha_min ∷ [])) ≡ fine) where
    abbrev counts : List ℕ
    counts = tick_counts s alpha_min (forces l) (slots_of l.work) budget (entry_state l)

    ran : (r.visits ≡ (ticks_from s alpha_min (forces l) (slots_of l.work) budget 0 (entry_state l)).last.visits) × (r.ticks ≡ (ticks_from s alpha_min (forces l) (slots_of l.work) budget 0 (entry_state l)).ticks)
    unfolding step_answer step_result
    ran = (ap (λ (r : StepAnswer). r.visits) a.answer ∙ rw h, ap (λ (r : StepAnswer). r.ticks) a.answer ∙ rw h)

    -- Its visits are the sum over the ticks done, each counted by itself from the state that the one before left; there is a count for each, and at most `budget` of them.
    pub step-visits : (r.visits ≡ sum counts) × (r.ticks ≡ length counts) × (r.ticks ≤ budget)
    step-visits =
        let t = ticks_sum s alpha_min (forces l) (slots_of l.work) budget 0 (entry_state l) in
        (omega (arith, ran.0, t.0), omega (arith, ran.1, t.1), omega (arith, ran.1, t.1, tick-counts-length s alpha_min (forces l) (slots_of l.work) budget (entry_state l)))

    -- Each tick hands out at most what the forces may.
    pub step-few : all (λ k. leb k (sum (map most_visited (forces l)))) counts ≡ true
    step-few = ticks_each s (forces l) (slots_of l.work) alpha_min budget (entry_state l)

    -- So all of them at most as much for each as a tick may.
    pub step-most : r.visits ≤ r.ticks * most_of_tick (count l)
    step-most =
        let few = all-few (count l) 0 (entries l) l.numbers l.links (entries-fine l (count_check most_ticks budget) (tick_settings l s ++ (alpha_min ∷ [])) h) in
        omega (arith, step-visits.0, rw (← step-visits.1) at (sum-few (sum (map most_visited (forces l))) counts step-few), mul-le-mul_left r.ticks few)

-- ==== an outline (document 02, R-10)

-- From any number there is exactly one short step to an equivalent of a corner: the one that the rule computes.
pub one-step : (p a : ℤ) → Short (short_step p a) × Equivalent a (p +ℤ short_step p a) × ((s : ℤ) → Short s → Equivalent a (p +ℤ s) → s ≡ short_step p a)
one-step p a = (step-short p a, step_equivalent p a, step_only p a)

-- Of any corners round any centre there is exactly one outline, also where it doesn't close.
pub one-outline : (centre : ℤ) (corners : List ℤ) → (us : List ℤ) × IsOutline centre corners us × ((vs : List ℤ) → IsOutline centre corners vs → vs ≡ us)
one-outline centre corners = (outline centre corners, outline-is centre corners, outline_only centre corners)

module _ (l : OutlineInput) (r : Refusal) (after : List ℤ) (a : Unwrapped l r after) where
  -- ---- answered 0

  module _ (z : r.number ≡ 0) where
    -- As many numbers are written as there are corners, and they are an outline of the corners round the centre.
    pub unwrap-outline : IsOutline l.centre l.corners (take (length l.corners) after)
    unwrap-outline = rw (first-are a z) (outline-is l.centre l.corners)

    -- Any list that is one is this one.
    pub unwrap-only : (us : List ℤ) → IsOutline l.centre l.corners us → us ≡ take (length l.corners) after
    unwrap-only us h = outline_only l.centre l.corners us h ∙ sym (first-are a z)

    -- It is closed, and its short steps, the closing one included, add up to 0.
    pub unwrap-closed : Closed (take (length l.corners) after) × (total (steps_round l.corners) ≡ pos 0)
    unwrap-closed = (rw (first-are a z) (closes-short l.centre l.corners (laid a z).returns), closes-sum l.centre l.corners (laid a z).returns)

    -- A longer output keeps its rest.
    pub unwrap-rest : (drop (length l.corners) after ≡ drop (length l.corners) l.unwrapped) × (length after ≡ length l.unwrapped)
    unwrap-rest = (rest-is a z, length-is a z)

    -- Every number written lies within 1800000000 * corners of the centre, so within 1800000000 * (corners + 1) of 0, and that is below 2 ^ 43.
    pub unwrap-within : (i : ℕ) → i < length l.corners
        → let u = get_or after i (pos 0) in (nat_abs (u -ℤ l.centre) ≤ half_turn * length l.corners) × (nat_abs u ≤ half_turn * (length l.corners + 1)) × (nat_abs u < 2 ^ 43)
    unwrap-within i h = (near-centre a z i h, near-zero a z i h, omega (arith, near-zero a z i h, few-corners a z))

  -- ---- refused

  -- A refusal writes nothing.
  pub unwrap_refused : r.number ≢ 0 → after ≡ l.unwrapped
  unwrap_refused h = kept a h

  -- Where a check of what is lent refuses (1, 2, 5), that is the answer.
  pub unwrap_input : (q : Refusal) → outline_check l.corners l.centre (length l.unwrapped) ≡ refused q → r ≡ q
  unwrap_input q e = input_answer a q e

  -- Past them 16 is answered exactly when the short steps from corner to corner, the closing one included, don't add up to 0, as those round a pole don't.
  pub unwrap_closes : OutlineFine l → (r ≡ refusal 16 0) ↔ (total (steps_round l.corners) ≢ pos 0)
  unwrap_closes h = (λ n e. let z : r ≡ refusal 0 0 = closed_is a h e in omega (arith, ap (λ (r : Refusal). r.number) (sym n ∙ z)), unclosed-is a h)

  -- Past them 0 is answered exactly when they do.
  pub unwrap_accepts : OutlineFine l → (r ≡ refusal 0 0) ↔ (total (steps_round l.corners) ≡ pos 0)
  unwrap_accepts h = (λ n. (unwrap-closed (ap (λ (r : Refusal). r.number) n)).1, closed_is a h)

-- Two calls give the same answer and the same output where their corners are the same meridians.
pub unwrap_meridians : (corners others : List ℤ) (centre : ℤ) (before : List ℤ) (r s : Refusal) (after also : List ℤ)
    → Unwrapped (lent_outline corners centre before) r after → Unwrapped (lent_outline others centre before) s also → SameMeridians corners others → (r ≡ s) × (after ≡ also)
unfolding outline_answer unwrapped_after
unwrap_meridians corners others centre before r s after also a b h =
    let e = result-same corners others centre before h in
    (a.answer ∙ ap refusal_of e ∙ sym b.answer, a.written ∙ ap (λ (o : Outcome (List ℤ)). if_done o (overwritten before 0) before) e ∙ sym b.written)

-- So a corner at -1800000000 and one at 1800000000 give the same result, whatever stands before and behind it.
pub unwrap_seam : (these those : List ℤ) (centre : ℤ) (before : List ℤ) (r s : Refusal) (after also : List ℤ)
    → Unwrapped (lent_outline (these ++ neg_ℤ (pos half_turn) ∷ those) centre before) r after → Unwrapped (lent_outline (these ++ pos half_turn ∷ those) centre before) s also → (r ≡ s) × (after ≡ also)
unwrap_seam these those centre before r s after also a b =
    unwrap_meridians (these ++ neg_ℤ (pos half_turn) ∷ those) (these ++ pos half_turn ∷ those) centre before r s after also a b (seam-at these those)
