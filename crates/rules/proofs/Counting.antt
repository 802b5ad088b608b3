-- Laws of what is counted. A walk, a force and a tick count on from any number as they count from 0; so what is counted in all is the sum of what each counts by itself.
use mathlib.Core.Path.{◌≡◌, refl, sym, ap, ◌∙◌}
use mathlib.Core.Bool.{Bool, true, false, and-eq-true_iff}
use mathlib.Core.List.{List, [], ◌∷◌, ◌++◌, map}
use Prim.Native.Nat.{ℕ, zero, suc, ◌+◌, ◌*◌, ◌≤◌}
use native.Mathlib.Nat.{add-zero, add_assoc}
use native.Mathlib.Omega.{arith}
use borrow.Author.Tests.{leb-true, le-leb}
use lib.Dec.{leb}
use lib.ListN.{length}
use lib.Ieee.{Float, lt}
use Rattle.rules.specs.declared.Particle.{Particle}
use Rattle.rules.specs.declared.Settings.{Settings}
use Rattle.rules.specs.declared.Tuning.{Tuning}
use Rattle.rules.specs.declared.Visit.{Visit}
use Rattle.rules.specs.declared.Visit.TheVariants.{Continue, Skip}
use Rattle.rules.specs.Plain.{branch, all, sum, up_to}
use Rattle.rules.specs.Outcome.{Outcome, done, refused, refusal, ◌>>=◌, fold_stages, if_done}
use Rattle.rules.specs.Sheet.{places_of, speeds_of}
use Rattle.rules.specs.Refusal.{alpha_check, result_check}
use Rattle.rules.specs.Tree.{Tree, none, leaf, node, nodes, tree_check}
use Rattle.rules.specs.Walk.{Entry, internal, tip, Counted, counted, After, unless_skip, handed, walk, valued}
use Rattle.rules.specs.Flow.{Flow, flow}
use Rattle.rules.specs.ManyBody as M
use Rattle.rules.specs.Collide as C
use Rattle.rules.specs.Link as L
use Rattle.rules.specs.Force.{Push, many_body, collide, link, run}
use Rattle.rules.specs.Particle.{centered, closing}
use Rattle.rules.specs.Tick.{Force, empty, push, center, unknown, State, state, next_alpha, alpha_stage, if_in_range, with_speeds, push_stage, force_stage, tick_home, tick, ticks_done, onward, ticks_from}
use Rattle.rules.proofs.OutcomeLaws.{bind_cong, bind_assoc}
use Rattle.rules.specs.Terms.{count_each, walk_counts, uncounted, force_counts, tick_counts}

-- ---- a change of what is done

-- what is done, changed by g
abbrev pub over : {X : Type 0} → (X → X) → Outcome X → Outcome X
over g (done x) = done (g x)
over g (refused r) = refused r

pub over_bind : {A X : Type 0} (g : X → X) (o : Outcome A) (f h : A → Outcome X) → ((a : A) → f a ≡ over g (h a)) → (o >>= f) ≡ over g (o >>= h)
over_bind g (done a) f h e = e a
over_bind g (refused r) f h e = refl

-- a stage that goes on from what is changed as from what is not
pub bind_over : {X : Type 0} (g : X → X) (o : Outcome X) (f : X → Outcome X) → ((x : X) → f (g x) ≡ over g (f x)) → (over g o >>= f) ≡ over g (o >>= f)
bind_over g (done x) f e = e x
bind_over g (refused r) f e = refl

pub over-stages : {A X : Type 0} (g : X → X) (f : X → A → Outcome X) → ((x : X) (a : A) → f (g x) a ≡ over g (f x a)) → (l : List A) (x : X) → fold_stages f (g x) l ≡ over g (fold_stages f x l)
over-stages g f e [] x = refl
over-stages g f e (a ∷ l) x = ap (λ (o : Outcome _). o >>= λ y. fold_stages f y l) (e x a) ∙ bind_over g (f x a) (λ y. fold_stages f y l) (over-stages g f e l)

pub stages-append : {A X : Type 0} (f : X → A → Outcome X) (l k : List A) (x : X) → fold_stages f x (l ++ k) ≡ (fold_stages f x l >>= λ y. fold_stages f y k)
stages-append f [] k x = refl
stages-append f (a ∷ l) k x = bind_cong (f x a) (stages-append f l k) ∙ sym (bind_assoc (f x a) (λ y. fold_stages f y l) (λ y. fold_stages f y k))

-- ---- stages that count

module _ {A X : Type 0} (count : X → ℕ) (afresh : X → X) (f : X → A → Outcome X) where
  -- what is counted by each, taken apart
  record Each (a : A) (l : List A) (x : X) (ks : List ℕ) : Type 0 where
    next : X
    rest : List ℕ
    first : f (afresh x) a ≡ done next
    others : count_each count afresh f next l ≡ done rest
    are : ks ≡ count next ∷ rest

  each_of : (a : A) (l : List A) (x : X) (ks : List ℕ) → count_each count afresh f x (a ∷ l) ≡ done ks → Each a l x ks
  each_of a l x ks e = go (f (afresh x) a) refl e
    where
      on : (y : X) → f (afresh x) a ≡ done y → (o : Outcome (List ℕ)) → count_each count afresh f y l ≡ o → (o >>= λ ks. done (count y ∷ ks)) ≡ done ks → Each a l x ks
      on y p (done r) q e = record { next = y; rest = r; first = p; others = q; are = (cc) }
      on y p (refused r) q e = absurd (let z : ◌≡◌ {A = ℕ} 0 1 = cc in omega arith)

      go : (o : Outcome X) → f (afresh x) a ≡ o → (o >>= λ y. count_each count afresh f y l >>= λ ks. done (count y ∷ ks)) ≡ done ks → Each a l x ks
      go (done y) p e = on y p (count_each count afresh f y l) refl e
      go (refused r) p e = absurd (let z : ◌≡◌ {A = ℕ} 0 1 = cc in omega arith)

  -- there are as many counts as stages
  pub each_length : (l : List A) (x : X) (ks : List ℕ) → count_each count afresh f x l ≡ done ks → length ks ≡ length l
  each_length [] x ks e = let z : ks ≡ [] = cc in rw z
  each_length (a ∷ l) x ks e = let h = each_of a l x ks e in rw h.are (ap suc (each_length l h.next h.rest h.others))

  -- where no stage counts more than k, none of the counts is greater
  pub each_few : (k : ℕ) → ((x y : X) (a : A) → f (afresh x) a ≡ done y → count y ≤ k) → (l : List A) (x : X) (ks : List ℕ) → count_each count afresh f x l ≡ done ks → all (λ c. leb c k) ks ≡ true
  each_few k b [] x ks e = let z : ks ≡ [] = cc in rw z
  each_few k b (a ∷ l) x ks e =
      let h = each_of a l x ks e in
      rw (h.are, le-leb (count h.next) k (b x h.next a h.first)) (each_few k b l h.next h.rest h.others)

  -- where each stage counts at most what its own bound says, all of them count at most the sum of these
  pub each_most : (most : A → ℕ) → ((x y : X) (a : A) → f (afresh x) a ≡ done y → count y ≤ most a) → (l : List A) (x : X) (ks : List ℕ) → count_each count afresh f x l ≡ done ks → sum ks ≤ sum (map most l)
  each_most most b [] x ks e = let z : ks ≡ [] = cc in rw z (omega arith)
  each_most most b (a ∷ l) x ks e =
      let h = each_of a l x ks e in
      rw h.are (omega (arith, b x h.next a h.first, each_most most b l h.next h.rest h.others))

-- counts of which none is greater than k make at most k for each
pub sum-few : (k : ℕ) (ks : List ℕ) → all (λ c. leb c k) ks ≡ true → sum ks ≤ length ks * k
sum-few k [] h = omega arith
sum-few k (c ∷ ks) h = let (a, b) = (and-eq-true_iff (leb c k) (all (λ c. leb c k) ks)).0 h in omega (arith, leb-true c k a, sum-few k ks b)

-- Stages over a state of which `count` is counted: each counts on from any number as from 0. Then what they count in all is the sum.
module _ {A X : Type 0} (count : X → ℕ) (afresh : X → X) (more : ℕ → X → X) (f : X → A → Outcome X)
    (back : (x : X) → more (count x) (afresh x) ≡ x)
    (adds : (v : ℕ) (x : X) → count (more v x) ≡ v + count x)
    (same : (v : ℕ) (x : X) → afresh (more v x) ≡ afresh x)
    (on : (v : ℕ) (x : X) (a : A) → f (more v x) a ≡ over (more v) (f x a)) where
  -- what each counts makes no difference to what the next does
  each_more : (v : ℕ) (x : X) (l : List A) → count_each count afresh f (more v x) l ≡ count_each count afresh f x l
  each_more v x [] = refl
  each_more v x (a ∷ l) = ap (λ (y : X). f y a >>= λ z. count_each count afresh f z l >>= λ ks. done (count z ∷ ks)) (same v x)

  -- the counts ks of each, that make up what is counted in all
  pub sums : (l : List A) (x y : X) → fold_stages f x l ≡ done y → (ks : List ℕ) × (count_each count afresh f x l ≡ done ks) × (count y ≡ count x + sum ks)
  sums [] x y e = ([], refl, ap count (sym (same_done e)) ∙ sym (add-zero (count x)))
    where
      same_done : {x y : X} → done x ≡ done y → x ≡ y
      same_done e = cc
  sums (a ∷ l) x y e = go (f (afresh x) a) refl (ap (λ (z : X). f z a) (sym (back x)) ∙ on (count x) (afresh x) a) (λ z. sums l z y)
    where
      go : (o : Outcome X) → f (afresh x) a ≡ o → f x a ≡ over (more (count x)) (f (afresh x) a) → ((z : X) → fold_stages f z l ≡ done y → (ks : List ℕ) × (count_each count afresh f z l ≡ done ks) × (count y ≡ count z + sum ks))
          → (ks : List ℕ) × ((f (afresh x) a >>= λ z. count_each count afresh f z l >>= λ ks. done (count z ∷ ks)) ≡ done ks) × (count y ≡ count x + sum ks)
      go (done z) p q rest =
          let u : f x a ≡ done (more (count x) z) = q ∙ ap (over (more (count x))) p in
          let (ks, c, s) = rest (more (count x) z) (sym (ap (λ (o : Outcome X). o >>= λ z. fold_stages f z l) u) ∙ e) in (
            count z ∷ ks,
            ap (λ (o : Outcome X). o >>= λ z. count_each count afresh f z l >>= λ ks. done (count z ∷ ks)) p
                ∙ ap (λ (o : Outcome (List ℕ)). o >>= λ ks. done (count z ∷ ks)) (sym (each_more (count x) z l) ∙ c),
            omega (arith, s, adds (count x) z),
          )
      go (refused r) p q rest = absurd (let z : ◌≡◌ {A = ℕ} 0 1 = cc in omega arith)

-- ---- a walk

-- Values laid beside the nodes add no node.
pub nodes-valued : {A B : Type 0} (of_leaf : List ℕ → B) (of_node : List B → B) (t : Tree A) → nodes (valued of_leaf of_node t) ≡ nodes t
nodes-valued of_leaf of_node none = refl
nodes-valued of_leaf of_node (leaf a is) = refl
nodes-valued of_leaf of_node (node a t0 t1 t2 t3) =
    rw (nodes-valued of_leaf of_node t0, nodes-valued of_leaf of_node t1, nodes-valued of_leaf of_node t2, nodes-valued of_leaf of_node t3)

-- v more are counted
abbrev pub more : {S : Type 0} → ℕ → Counted S → Counted S
more v m = counted m.state (v + m.visits)

module _ {A S : Type 0} (step : Entry A → S → Outcome (After S)) (v : ℕ) where
  handed-more : (e : Entry A) (m : Counted S) (f : Counted S → Outcome (Counted S)) → ((m : Counted S) → f (more v m) ≡ over (more v) (f m))
      → handed step e (more v m) f ≡ over (more v) (handed step e m f)
  handed-more e m f h = over_bind (more v) (step e m.state) (λ r. unless_skip r.visit (counted r.state (v + m.visits + 1)) f) (λ r. unless_skip r.visit (counted r.state (m.visits + 1)) f) (λ r. go r.visit r.state)
    where
      go : (w : Visit) (σ : S) → unless_skip w (counted σ (v + m.visits + 1)) f ≡ over (more v) (unless_skip w (counted σ (m.visits + 1)) f)
      go Continue σ = ap (λ (k : ℕ). f (counted σ k)) (add_assoc v m.visits 1) ∙ h (counted σ (m.visits + 1))
      go Skip σ = ap (λ (k : ℕ). done (counted σ k)) (add_assoc v m.visits 1)

  pub walk_more : (t : Tree A) (m : Counted S) → walk step t (more v m) ≡ over (more v) (walk step t m)
  walk_more none m = refl
  walk_more (leaf a is) m = handed-more (tip a is) m (λ m. done m) (λ m. refl)
  walk_more (node a t0 t1 t2 t3) m =
      handed-more (internal a) m (λ m. walk step t0 m >>= (λ m. walk step t1 m) >>= (λ m. walk step t2 m) >>= λ m. walk step t3 m)
      (λ m. ap (λ (o : Outcome (Counted S)). o >>= (λ m. walk step t1 m) >>= (λ m. walk step t2 m) >>= λ m. walk step t3 m) (walk_more t0 m)
      ∙ ap (λ (o : Outcome (Counted S)). o >>= (λ m. walk step t2 m) >>= λ m. walk step t3 m) (bind_over (more v) (walk step t0 m) (walk step t1) (walk_more t1))
      ∙ ap (λ (o : Outcome (Counted S)). o >>= λ m. walk step t3 m) (bind_over (more v) (walk step t0 m >>= (λ m. walk step t1 m)) (walk step t2) (walk_more t2))
      ∙ bind_over (more v) (walk step t0 m >>= (λ m. walk step t1 m) >>= (λ m. walk step t2 m)) (walk step t3) (walk_more t3))

module _ {A S : Type 0} (step : ℕ → Entry A → S → Outcome (After S)) (t : Tree A) where
  -- what was counted before makes no difference
  counts-any : (m : Counted S) (is : List ℕ) → walk_counts step t m.state is ≡ count_each (λ m. m.visits) (λ m. counted m.state 0) (λ m i. walk (step i) t m) m is
  counts-any m [] = refl
  counts-any m (i ∷ is) = refl

  -- The counts of one walk for each of these particles make up what all of them count.
  pub walks-sum : (is : List ℕ) (m n : Counted S) → fold_stages (λ m i. walk (step i) t m) m is ≡ done n → (ks : List ℕ) × (walk_counts step t m.state is ≡ done ks) × (n.visits ≡ m.visits + sum ks)
  walks-sum is m n e =
      let (ks, c, s) =
      sums (λ m. m.visits) (λ m. counted m.state 0) more (λ m i. walk (step i) t m) (λ m. ap (counted m.state) (add-zero m.visits)) (λ v m. refl) (λ v m. refl) (λ v m i. walk_more (step i) v t m) is m n e in
      (ks, counts-any m is ∙ c, s)

-- ---- a force

many_body_more : (v : ℕ) (t : Tuning) (at strengths : List Float) (alpha : Float) (slots : ℕ) (m : Counted Flow)
    → M.run_many_body t at strengths alpha slots (more v m) ≡ over (more v) (M.run_many_body t at strengths alpha slots m)
unfolding M.run_many_body
many_body_more v t at strengths alpha slots m =
    over_bind (more v) (tree_check at (length strengths) slots) (λ _. fold_stages turn (more v m) (up_to (length strengths))) (λ _. fold_stages turn m (up_to (length strengths)))
    (λ _. over-stages (more v) turn (λ m i. walk_more (M.many_body_step t at strengths alpha i) v (M.charged_tree at strengths) m) (up_to (length strengths)) m)
  where
    turn : Counted Flow → ℕ → Outcome (Counted Flow)
    turn m i = walk (M.many_body_step t at strengths alpha i) (M.charged_tree at strengths) m

once_more : (v : ℕ) (at radii : List Float) (strength : Float) (slots : ℕ) (m : Counted Flow)
    → C.collide_once at radii strength slots (more v m) ≡ over (more v) (C.collide_once at radii strength slots m)
unfolding C.collide_once
once_more v at radii strength slots m =
    over_bind (more v) (tree_check at (length radii) slots) (λ _. fold_stages turn (more v m) (up_to (length radii))) (λ _. fold_stages turn m (up_to (length radii)))
    (λ _. over-stages (more v) turn (λ m i. walk_more (C.collide_step at radii strength i) v (C.radius_tree at radii) m) (up_to (length radii)) m)
  where
    turn : Counted Flow → ℕ → Outcome (Counted Flow)
    turn m i = walk (C.collide_step at radii strength i) (C.radius_tree at radii) m

run_more : (t : Tuning) (v : ℕ) (f : Push) (at : List Float) (alpha : Float) (slots : ℕ) (m : Counted Flow) → run t f at alpha slots (more v m) ≡ over (more v) (run t f at alpha slots m)
unfolding run C.run_collide
run_more t v (many_body strengths) at alpha slots m = many_body_more v t at strengths alpha slots m
run_more t v (collide radii strength iterations) at alpha slots m = over-stages (more v) (λ m _. C.collide_once at radii strength slots m) (λ m _. once_more v at radii strength slots m) (up_to iterations) m
run_more t v (link links strengths distances iterations) at alpha slots m =
    over_bind (more v) (L.run_link at links strengths distances iterations alpha m.state) (λ σ. done (counted σ (v + m.visits))) (λ σ. done (counted σ m.visits)) (λ σ. refl)

-- ---- a tick

-- v more are counted
abbrev later : ℕ → State → State
later v m = state m.particles m.alpha m.draws (v + m.visits)

later-back : (m : State) → later m.visits (uncounted m) ≡ m
later-back m = ap (state m.particles m.alpha m.draws) (add-zero m.visits)

in_range-later : (v : ℕ) (ps : List Particle) (m : State) → if_in_range ps (later v m) ≡ over (later v) (if_in_range ps m)
in_range-later v ps m =
    over_bind (later v) (result_check (places_of ps) (speeds_of ps)) (λ _. done (state ps m.alpha m.draws (v + m.visits))) (λ _. done (state ps m.alpha m.draws m.visits)) (λ _. refl)

push_later : (t : Tuning) (v slots : ℕ) (f : Push) (m : State) → push_stage t slots f (later v m) ≡ over (later v) (push_stage t slots f m)
unfolding push_stage
push_later t v slots f m =
    ap (λ (o : Outcome (Counted Flow)). o >>= λ r. if_in_range (with_speeds r.state.speeds ps) (state ps m.alpha r.state.draws r.visits))
    (run_more t v f (places_of ps) m.alpha slots (counted (flow (speeds_of ps) m.draws) m.visits))
    ∙ go (run t f (places_of ps) m.alpha slots (counted (flow (speeds_of ps) m.draws) m.visits))
  where
    ps : List Particle
    ps = m.particles

    go : (o : Outcome (Counted Flow)) → (over (more v) o >>= λ r. if_in_range (with_speeds r.state.speeds ps) (state ps m.alpha r.state.draws r.visits))
        ≡ over (later v) (o >>= λ r. if_in_range (with_speeds r.state.speeds ps) (state ps m.alpha r.state.draws r.visits))
    go (done r) = in_range-later v (with_speeds r.state.speeds ps) (state ps m.alpha r.state.draws r.visits)
    go (refused q) = refl

stage_later : (t : Tuning) (slots v : ℕ) (m : State) (f : Force) → force_stage t slots (later v m) f ≡ over (later v) (force_stage t slots m f)
stage_later t slots v m empty = refl
stage_later t slots v m (push f) = push_later t v slots f m
stage_later t slots v m (center x y strength) = in_range-later v (centered x y strength m.particles) m
stage_later t slots v m unknown = refl

tick-later : (v : ℕ) (s : Settings) (fs : List Force) (slots : ℕ) (m : State) → tick s fs slots (later v m) ≡ over (later v) (tick s fs slots m)
unfolding tick_home alpha_stage
tick-later v s fs slots m =
    ap (λ (o : Outcome State). o >>= rest)
    (over_bind (later v) (alpha_check a) (λ _. done (state m.particles a m.draws (v + m.visits))) (λ _. done (state m.particles a m.draws m.visits)) (λ _. refl))
    ∙ bind_over (later v) (alpha_check a >>= λ _. done (state m.particles a m.draws m.visits)) rest
    (λ m₁. ap (λ (o : Outcome State). o >>= close) (over-stages (later v) (force_stage s.tuning slots) (stage_later s.tuning slots v) fs m₁)
    ∙ bind_over (later v) (fold_stages (force_stage s.tuning slots) m₁ fs) close (λ m₂. in_range-later v (closing s.velocity_decay (places_of m.particles) m₂.particles) m₂))
  where
    a : Float
    a = next_alpha s m.alpha

    close : State → Outcome State
    close m₂ = if_in_range (closing s.velocity_decay (places_of m.particles) m₂.particles) m₂

    rest : State → Outcome State
    rest m₁ = fold_stages (force_stage s.tuning slots) m₁ fs >>= close

-- The counts of each force make up what all of them count.
pub forces-sum : (t : Tuning) (slots : ℕ) (fs : List Force) (m n : State) → fold_stages (force_stage t slots) m fs ≡ done n → (ks : List ℕ) × (force_counts t slots m fs ≡ done ks) × (n.visits ≡ m.visits + sum ks)
forces-sum t slots fs m n e = sums (λ m. m.visits) uncounted later (force_stage t slots) later-back (λ v m. refl) (λ v m. refl) (stage_later t slots) fs m n e

-- ---- ticks

module _ (s : Settings) (least : Float) (fs : List Force) (slots : ℕ) where
  counts-later : (k v : ℕ) (m : State) → tick_counts s least fs slots k (later v m) ≡ tick_counts s least fs slots k m
  unfolding tick_counts
  counts-later zero v m = refl
  counts-later (suc k) v m = refl

  -- there are at most k of them
  pub tick-counts-length : (k : ℕ) (m : State) → length (tick_counts s least fs slots k m) ≤ k
  unfolding tick_counts
  tick-counts-length zero m = omega arith
  tick-counts-length (suc k) m = go (lt least m.alpha) (tick s fs slots (uncounted m)) (tick-counts-length k)
    where
      go : (b : Bool) (o : Outcome State) → ((n : State) → length (tick_counts s least fs slots k n) ≤ k)
          → length (branch b (λ _. if_done o (λ n. n.visits ∷ tick_counts s least fs slots k n) []) (λ _. [])) ≤ suc k
      go true (done n) rest = omega (arith, rest n)
      go true (refused r) rest = omega arith
      go false o rest = omega arith

  -- where no tick counts more than this, none of the counts is greater
  pub tick-counts-few : (most : ℕ) → ((m n : State) → tick s fs slots (uncounted m) ≡ done n → n.visits ≤ most) → (k : ℕ) (m : State) → all (λ c. leb c most) (tick_counts s least fs slots k m) ≡ true
  unfolding tick_counts
  tick-counts-few most b zero m = refl
  tick-counts-few most b (suc k) m = go (lt least m.alpha) (tick s fs slots (uncounted m)) refl (tick-counts-few most b k)
    where
      go : (a : Bool) (o : Outcome State) → tick s fs slots (uncounted m) ≡ o → ((n : State) → all (λ c. leb c most) (tick_counts s least fs slots k n) ≡ true)
          → all (λ c. leb c most) (branch a (λ _. if_done o (λ n. n.visits ∷ tick_counts s least fs slots k n) []) (λ _. [])) ≡ true
      go true (done n) p rest = rw (le-leb n.visits most (b m n p)) (rest n)
      go true (refused r) p rest = refl
      go false o p rest = refl

  -- The counts of each tick make up what all of them count, and there are as many as ticks.
  pub ticks_sum : (k t : ℕ) (m : State)
      → ((ticks_from s least fs slots k t m).last.visits ≡ m.visits + sum (tick_counts s least fs slots k m)) × ((ticks_from s least fs slots k t m).ticks ≡ t + length (tick_counts s least fs slots k m))
  unfolding ticks_from tick_counts
  ticks_sum zero t m = (sym (add-zero m.visits), sym (add-zero t))
  ticks_sum (suc k) t m = go (lt least m.alpha) (tick s fs slots (uncounted m)) (ap (tick s fs slots) (sym (later-back m)) ∙ tick-later m.visits s fs slots (uncounted m)) (λ n. ticks_sum k (t + 1) n)
    where
      go : (b : Bool) (o : Outcome State) → tick s fs slots m ≡ over (later m.visits) o
          → ((n : State) → ((ticks_from s least fs slots k (t + 1) n).last.visits ≡ n.visits + sum (tick_counts s least fs slots k n)) × ((ticks_from s least fs slots k (t + 1) n).ticks ≡ t + 1 + length (tick_counts s least fs slots k n)))
          → ((branch b (λ _. onward (tick s fs slots m) (λ n. ticks_from s least fs slots k (t + 1) n) (λ r. ticks_done t r m)) (λ _. ticks_done t (refusal 0 0) m)).last.visits ≡ m.visits + sum (branch b (λ _. if_done o (λ n. n.visits ∷ tick_counts s least fs slots k n) []) (λ _. [])))
          × ((branch b (λ _. onward (tick s fs slots m) (λ n. ticks_from s least fs slots k (t + 1) n) (λ r. ticks_done t r m)) (λ _. ticks_done t (refusal 0 0) m)).ticks ≡ t + length (branch b (λ _. if_done o (λ n. n.visits ∷ tick_counts s least fs slots k n) []) (λ _. [])))
      go true (done n) e rest =
          let (v, l) = rest (later m.visits n) in
          let c = counts-later k m.visits n in
          rw e
          (v ∙ rw c (add_assoc m.visits n.visits (sum (tick_counts s least fs slots k n))), l ∙ rw c (omega arith))
      go true (refused r) e rest = rw e (sym (add-zero m.visits), sym (add-zero t))
      go false o e rest = (sym (add-zero m.visits), sym (add-zero t))
