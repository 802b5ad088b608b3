-- The words in which the theorems about the public calls are put (talemiku/proofs/Theorems, RecordTheorems and EditTheorems): bytes, particles that a record can hold, particles at rest, what makes a tree that of the cell rule, its leaves, distinct points, chains, points in cells, what single walks, forces and ticks count, and the earliest edit that can't be made. Definitions only.
use Rattle.std.specs.Prelude.{◌≡◌, ◌⊎◌, ◌≢◌, Bool, true, false, cond, not, ◌&&◌, List, [], ◌∷◌, ◌++◌, map, ℕ, zero, suc, ◌+◌, ◌*◌, ◌^◌, ◌≤◌, ◌<◌, pos, ◌+ℤ◌, T, leb, eqb, length, get_or, take, Float}
use Rattle.std.specs.Int.Signed.{le_z}
use Rattle.std.specs.Float.Ieee.{fits, is_nan, lt, le}
use Rattle.std.specs.Float.{binary64}
use Rattle.rules.specs.declared.Extent.{Extent}
use Rattle.rules.specs.declared.Particle.{Particle}
use Rattle.rules.specs.declared.Refusal.{Refusal}
use Rattle.rules.specs.declared.Settings.{Settings}
use Rattle.rules.specs.declared.Tuning.{Tuning}
use Rattle.rules.specs.Plain.{branch, keep, all, sum, up_to}
use Rattle.rules.specs.Outcome.{Outcome, done, ◌>>=◌, if_done}
use Rattle.rules.specs.Number.{0·, x_at, y_at}
use Rattle.rules.specs.Sheet.{particle, places_of, speeds_of}
use Rattle.rules.specs.Cell.{quarter}
use Rattle.rules.specs.Cover.{Square}
use Rattle.rules.specs.Tree.{Tree, none, leaf, node, depth, nodes, greatest_level, same, alike, points_in, tree_of, chains_of}
use Rattle.rules.specs.Walk.{Entry, counted, After, walk}
use Rattle.rules.specs.Flow.{flow}
use Rattle.rules.specs.ManyBody.{charged_tree, many_body_step}
use Rattle.rules.specs.Collide.{radius_tree, collide_step}
use Rattle.rules.specs.Force.{many_body, collide, link}
use Rattle.rules.specs.Tick.{Force, empty, push, center, unknown, State, state, force_stage, tick}
use Rattle.rules.specs.Edits.{Edit, points_of, Present, present_after, among, extent_now, tree_now, removable}
use Rattle.rules.specs.Edits as Edits

-- ---- sheets

-- every element is a byte, as in any lent sheet
abbrev pub Bytes : List ℕ → Type 0
Bytes s = (i : ℕ) → get_or s i 0 < 256

-- a particle as any lent list has it, and a record can hold it: every number is an f64, the flags are a word
pub record Storable (p : Particle) : Type 0 where
  pub x : T (fits binary64 p.x)
  pub y : T (fits binary64 p.y)
  pub vx : T (fits binary64 p.vx)
  pub vy : T (fits binary64 p.vy)
  pub flags : p.flags < 2 ^ 64

-- each of them
abbrev pub AllStorable : List Particle → Type 0
AllStorable [] = Unit {0}
AllStorable (p ∷ ps) = Storable p × AllStorable ps

-- no number of theirs is a NaN, so that the same values have the same bits
abbrev pub NoNan : List Particle → Type 0
NoNan ps = all (λ x. not (is_nan x)) (places_of ps ++ speeds_of ps) ≡ true

-- particles at these points, at rest and with no flag
abbrev pub resting : List Float → List Particle
resting [] = []
resting (x ∷ []) = []
resting (x ∷ y ∷ at) = particle x y 0· 0· 0 ∷ resting at

-- ---- trees

-- how many leaves
abbrev pub leaves : {A : Type 0} → Tree A → ℕ
leaves none = 0
leaves (leaf a is) = 1
leaves (node a t0 t1 t2 t3) = leaves t0 + leaves t1 + leaves t2 + leaves t3

-- P holds of what is known of each leaf and of its chain
abbrev pub EachLeaf : {A : Type 0} → (A → List ℕ → Type 0) → Tree A → Type 0
EachLeaf P none = Unit {0}
EachLeaf P (leaf a is) = P a is
EachLeaf P (node a t0 t1 t2 t3) = EachLeaf P t0 × EachLeaf P t1 × EachLeaf P t2 × EachLeaf P t3

-- it goes below level 64 (`depth` counts levels, and levels 0 to 64 are 65), or has more nodes than there are slots
abbrev pub Oversized : {A : Type 0} → ℕ → Tree A → Type 0
Oversized slots t = (greatest_level + 1 < depth t) ⊎ (slots < nodes t)

-- it is not: no level below 64, and no more nodes than there are slots
abbrev pub Fits : {A : Type 0} → ℕ → Tree A → Type 0
Fits slots t = (depth t ≤ greatest_level + 1) × (nodes t ≤ slots)

-- The earliest of n particles whose prefix can't be built, in this many slots: every shorter prefix can; 6 is answered where its tree goes below level 64, else 7 where it has more nodes than slots.
pub record Earliest (at : List Float) (n slots : ℕ) (r : Refusal) : Type 0 where
  pub among : r.place < n
  pub before : (i : ℕ) → i < r.place → Fits slots (tree_of at (i + 1))
  pub number : let t = tree_of at (r.place + 1) in ((r.number ≡ 6) × (greatest_level + 1 < depth t)) ⊎ ((r.number ≡ 7) × (depth t ≤ greatest_level + 1) × (slots < nodes t))

-- neither 6 nor 7, by which a tree is refused
abbrev pub NotOfTree : Refusal → Type 0
NotOfTree r = (r.number ≢ 6) × (r.number ≢ 7)

-- how often i stands in a list
abbrev pub times : ℕ → List ℕ → ℕ
times i [] = 0
times i (j ∷ l) = cond (eqb i j) 1 0 + times i l

-- the half-open cell holds the point
abbrev pub in_cell : Extent → Float → Float → Bool
in_cell c x y = le c.x0 x && lt x c.x1 && le c.y0 y && lt y c.y1

module _ (at : List Float) where
  -- t is the cell rule's tree of these points in the cell c, whatever its depth: of no point there is no node; of one distinct point it is a leaf with all of them; of more it is internal, over the trees of the quarters
  abbrev pub IsTree : Extent → Tree Extent → List ℕ → Type 0
  IsTree c none is = is ≡ []
  IsTree c (leaf d js) is = (d ≡ c) × (js ≡ is) × (0 < length is) × (alike at is ≡ true)
  IsTree c (node d t0 t1 t2 t3) is =
      (d ≡ c) × (alike at is ≡ false)
      × IsTree (quarter 0 c) t0 (points_in at c 0 is) × IsTree (quarter 1 c) t1 (points_in at c 1 is) × IsTree (quarter 2 c) t2 (points_in at c 2 is) × IsTree (quarter 3 c) t3 (points_in at c 3 is)

  -- how many distinct points: each counts unless a later one is numerically equal to it
  abbrev pub distinct : List ℕ → ℕ
  distinct [] = 0
  distinct (i ∷ is) = cond (all (λ j. not (same at i j)) is) 1 0 + distinct is

-- both sides of a square are z long
pub record Sided (z : ℕ) (s : Square) : Type 0 where
  pub wide : s.x1 ≡ s.x0 +ℤ pos z
  pub tall : s.y1 ≡ s.y0 +ℤ pos z

-- t reaches at least as far as s on all four sides
pub record Contains (t s : Square) : Type 0 where
  pub left : le_z t.x0 s.x0 ≡ true
  pub low : le_z t.y0 s.y0 ≡ true
  pub right : le_z s.x1 t.x1 ≡ true
  pub high : le_z s.y1 t.y1 ≡ true

-- ---- what is counted

-- what each of several stages counts: each begins afresh, with nothing counted, in the state that the one before left
abbrev pub count_each : {A X : Type 0} → (X → ℕ) → (X → X) → (X → A → Outcome X) → X → List A → Outcome (List ℕ)
count_each count afresh f x [] = done []
count_each count afresh f x (a ∷ l) = f (afresh x) a >>= λ y. count_each count afresh f y l >>= λ ks. done (count y ∷ ks)

-- how many nodes each walk hands out, of one walk for each of these particles, from the state σ
abbrev pub walk_counts : {A S : Type 0} → (ℕ → Entry A → S → Outcome (After S)) → Tree A → S → List ℕ → Outcome (List ℕ)
walk_counts step t σ is = count_each (λ m. m.visits) (λ m. counted m.state 0) (λ m i. walk (step i) t m) (counted σ 0) is

-- the most nodes of a tree of d distinct points that keeps to level 64, so the most that one walk over it hands out
abbrev pub most_nodes : ℕ → ℕ
most_nodes d = 1 + greatest_level * d

-- `visits` is the sum of what these walks hand out, and each of them hands out at most `most`
pub record Walked {A S : Type 0} (step : ℕ → Entry A → S → Outcome (After S)) (t : Tree A) (σ : S) (is : List ℕ) (visits most : ℕ) : Type 0 where
  pub counts : List ℕ
  pub each : walk_counts step t σ is ≡ done counts
  pub total : visits ≡ sum counts
  pub few : all (λ k. leb k most) counts ≡ true

-- a list, k times over
abbrev pub repeated : ℕ → List ℕ → List ℕ
repeated zero l = []
repeated (suc k) l = l ++ repeated k l

-- the most that a force hands out: ManyBody walks once for each particle, Collide as often in each iteration, the others not at all
abbrev pub most_visited : Force → ℕ
most_visited empty = 0
most_visited (push (many_body strengths)) = length strengths * most_nodes (length strengths)
most_visited (push (collide radii strength iterations)) = iterations * (length radii * most_nodes (length radii))
most_visited (push (link links strengths distances iterations)) = 0
most_visited (center x y strength) = 0
most_visited unknown = 0

-- k is what a force of a tick hands out in the state m: the sum of its single walks over the tree of the places there, or nothing
abbrev pub ForceWalked : Tuning → State → Force → ℕ → Type 0
ForceWalked t m empty k = k ≡ 0
ForceWalked t m (push (many_body strengths)) k =
    let at = places_of m.particles in
    Walked (many_body_step t at strengths m.alpha) (charged_tree at strengths) (flow (speeds_of m.particles) m.draws) (up_to (length strengths)) k (most_nodes (distinct at (up_to (length strengths))))
ForceWalked t m (push (collide radii strength iterations)) k =
    let at = places_of m.particles in
    Walked (collide_step at radii strength) (radius_tree at radii) (flow (speeds_of m.particles) m.draws) (repeated iterations (up_to (length radii))) k (most_nodes (distinct at (up_to (length radii))))
ForceWalked t m (push (link links strengths distances iterations)) k = k ≡ 0
ForceWalked t m (center x y strength) k = k ≡ 0
ForceWalked t m unknown k = k ≡ 0

-- a tick's state with no node counted yet
abbrev pub uncounted : State → State
uncounted m = state m.particles m.alpha m.draws 0

-- how many nodes each force of a tick hands out, from the state m
abbrev pub force_counts : Tuning → ℕ → State → List Force → Outcome (List ℕ)
force_counts t slots m fs = count_each (λ m. m.visits) uncounted (force_stage t slots) m fs

-- `visits` is the sum of what these forces hand out, at most what all of them may
pub record Forced (t : Tuning) (slots : ℕ) (m : State) (fs : List Force) (visits : ℕ) : Type 0 where
  pub counts : List ℕ
  pub each : force_counts t slots m fs ≡ done counts
  pub total : visits ≡ sum counts
  pub few : visits ≤ sum (map most_visited fs)

-- how many nodes each tick of a step hands out: at most k ticks, while alpha > alpha_min and none is refused
unfoldable pub tick_counts : Settings → Float → List Force → ℕ → ℕ → State → List ℕ
tick_counts s alpha_min forces slots zero m = []
tick_counts s alpha_min forces slots (suc k) m =
    branch (lt alpha_min m.alpha) (λ _. if_done (tick s forces slots (uncounted m)) (λ n. n.visits ∷ tick_counts s alpha_min forces slots k n) []) (λ _. [])

-- ---- what makes a tree the right one

-- What document 01 demands of a tree, of the points `is` in the cell c and in this many slots: t keeps the cell rule and is the only one that does; it fits; it has one leaf for each distinct point, and at most 1 + 64 m nodes for m of them;
-- a leaf's chain is all points that are numerically equal to any of its own, in order; each point stands in exactly one chain, once, and nothing else does; each lies in its leaf's half-open cell.
pub record Ruled (at : List Float) (c : Extent) (t : Tree Extent) (is : List ℕ) (slots : ℕ) : Type 0 where
  pub ruled : IsTree at c t is
  pub only : (u : Tree Extent) → IsTree at c u is → u ≡ t
  pub fits : Fits slots t
  pub tips : leaves t ≡ distinct at is
  pub few : nodes t ≤ most_nodes (distinct at is)
  pub chains : EachLeaf (λ _ js. (i : ℕ) → 0 < times i js → js ≡ keep (same at i) is) t
  pub once : (i : ℕ) → times i (chains_of t) ≡ cond (among i is) 1 0
  pub inside : EachLeaf (λ d js. all (λ i. in_cell d (x_at at i) (y_at at i)) js ≡ true) t

-- ---- edits

module _ (es : List Edit) where
  -- edit k, where there are more than k
  abbrev pub nth_edit : ℕ → Edit
  nth_edit k = get_or es k Edits.unknown

  -- what is there after the first k edits
  abbrev pub present_at : ℕ → Present
  present_at k = present_after (take k es)

  -- the extent then
  abbrev pub extent_at : ℕ → Extent
  extent_at k = extent_now (points_of es) (present_at k)

  -- the tree then
  abbrev pub tree_at : ℕ → Tree Extent
  tree_at k = tree_now (points_of es) (present_at k)

  -- edit k can be made, in this many slots: it removes only what is there, and the tree at it fits
  abbrev pub CanBeMade : ℕ → ℕ → Type 0
  CanBeMade slots k = (removable (present_at k) (nth_edit k) ≡ true) × Fits slots (tree_at (k + 1))

-- The earliest edit that can't be made, in this many slots: every edit before it can; 15 is answered where what it removes isn't there, else 6 where the tree at it goes below level 64, else 7 where that has more nodes than slots.
pub record EarliestEdit (es : List Edit) (slots : ℕ) (r : Refusal) : Type 0 where
  pub among : r.place < length es
  pub before : (k : ℕ) → k < r.place → CanBeMade es slots k
  pub number :
      let t = tree_at es (r.place + 1) in
      let ok = removable (present_at es r.place) (nth_edit es r.place) in
      ((r.number ≡ 15) × (ok ≡ false)) ⊎ ((r.number ≡ 6) × (ok ≡ true) × (greatest_level + 1 < depth t)) ⊎ ((r.number ≡ 7) × (ok ≡ true) × (depth t ≤ greatest_level + 1) × (slots < nodes t))
