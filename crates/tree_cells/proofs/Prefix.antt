-- A prefix of the particles never has a larger tree than all of them, so building refuses exactly where the whole tree doesn't fit. Assumes nothing.
use Rattle.std.proofs.Common.{◌≡◌, ℕ, zero, suc, ◌+◌, ◌<◌, ◌≤◌, Bool, true, false, T, leb, ◌⊎◌, ◌↔◌, List, [], ◌∷◌, sym, refl, ap, ◌∙◌, subst, subst₂, inl, inr, add-one, arith, le-leb, leb-false, leb-true}
use mathlib.Core.List.{Memᴰ}
use native.Mathlib.Decide.{ℕ_discrete}
use lib.Ieee.{Float}
use borrow.Author.Tests.{lt-leb}
use Rattle.rules.specs.declared.Extent.{Extent}
use Rattle.rules.specs.declared.Refusal.{Refusal}
use Rattle.rules.specs.Plain.{count_from, up_to}
use Rattle.rules.specs.Number.{within, place_range, x_at, y_at}
use Rattle.rules.specs.Floor.{floor}
use Rattle.rules.specs.Cell.{quarter}
use Rattle.rules.specs.Cover.{Square, inside, old_quadrant, Covered, holds, cover_point, cover_all, cover_first, extent_of}
use Rattle.rules.specs.Outcome.{Check, done, refused, refusal, fine, require, ◌then◌, ◌>>=◌, check_from}
use Rattle.rules.specs.Tree.{Tree, none, leaf, node, depth, nodes, in_quarter, points_in, tree_in, tree_of, fits_check, tree_check}
use Rattle.rules.specs.Terms.{Earliest}
use Rattle.rules.proofs.CellList.{In, left, right, keep_all}
use Rattle.rules.proofs.CellIs.{Is}
use Rattle.rules.proofs.CellCount.{up_to_snoc}
use Rattle.rules.proofs.CellInside.{Inside}
use Rattle.rules.proofs.CellMore.{NoLarger}
use Rattle.rules.proofs.CellRule.{grow-none, tree-whole, tree-grown, tree-more}
use Rattle.rules.proofs.CoverTerms.{next, Grows, done, more, Covering}
use Rattle.rules.proofs.Cover.{old-quadrant-less, covering, cover_append}
use Rattle.rules.proofs.CellWrap.{all-quarter}
use Rattle.tree_cells.specs.declared.cover.Doubled.{Doubled}
use Rattle.tree_cells.specs.Cover.{square_of, Reachable, Near, DoubledTo}
use Rattle.tree_cells.proofs.CoverNear.{near_x, near_y, square-back, reachable, doubled-to, doubled-square}
use Rattle.tree_cells.proofs.CoverCells.{Lies}
use Rattle.tree_cells.proofs.CoverLaws.{doubled_lies, in_range, list_reachable, list_lies}

-- ---- members of 0, 1, .. , n - 1

pub in_member : (i : ℕ) (l : List ℕ) → In i l → Memᴰ i l
in_member i [] m = absurd m
in_member i (j ∷ l) (inl e) = Memᴰ.head e
in_member i (j ∷ l) (inr m) = Memᴰ.tail (in_member i l m)

pub member_less : (k n i : ℕ) → Memᴰ i (count_from k n) → i < k + n
member_less k zero i m = elim m [ ]
member_less k (suc n) i (Memᴰ.head e) = omega arith
member_less k (suc n) i (Memᴰ.tail m) = omega (arith, member_less (k + 1) n i m)

-- ---- no larger

larger_same : {A : Type 0} (t : Tree A) → NoLarger t t
larger_same t = record { nodes = omega arith; levels = omega arith }

larger_both : {A : Type 0} {t u v : Tree A} → NoLarger t u → NoLarger u v → NoLarger t v
larger_both h g = record { nodes = omega (arith, h.nodes, g.nodes); levels = omega (arith, h.levels, g.levels) }

-- ---- a check of each number

-- what is checked of each number is fine for all of them
each_fine : (f : ℕ → Check) (i k : ℕ) → ((j : ℕ) → i ≤ j → j < i + k → f j ≡ fine) → check_from (λ j _. f j) i (count_from i k) ≡ fine
each_fine f i zero h = refl
each_fine f i (suc k) h = ap (λ (c : Check). c >>= λ _. check_from (λ j _. f j) (i + 1) (count_from (i + 1) k)) (h i (omega arith) (omega arith)) ∙ each_fine f (i + 1) k (λ j a b. h j (omega arith) (omega arith))

-- and the other way
pub fine_each : (f : ℕ → Check) (i k : ℕ) → check_from (λ j _. f j) i (count_from i k) ≡ fine → (j : ℕ) → i ≤ j → j < i + k → f j ≡ fine
fine_each f i zero e j a b = absurd (omega arith)
fine_each f i (suc k) e j a b = go (f i) refl e (λ e'. fine_each f (i + 1) k e' j)
  where
    go : (c : Check) → f i ≡ c → (c >>= λ _. check_from (λ j _. f j) (i + 1) (count_from (i + 1) k)) ≡ fine → (check_from (λ j _. f j) (i + 1) (count_from (i + 1) k) ≡ fine → i + 1 ≤ j → j < i + 1 + k → f j ≡ fine) → f j ≡ fine
    go (done t) u e rest = elim (ℕ_discrete j i) [ yes z ↦ ap f z ∙ u | no ne ↦ rest e (omega arith) (omega arith) ]
    go (refused q) u e rest = absurd (let z : ◌≡◌ {A = ℕ} 0 1 = cc in omega arith)

-- the first that is refused, and all before it fine
first_refused : (f : ℕ → Check) (i k : ℕ) (q : Refusal) → check_from (λ j _. f j) i (count_from i k) ≡ refused q → (p : ℕ) × (p < i + k) × (f p ≡ refused q) × ((j : ℕ) → i ≤ j → j < p → f j ≡ fine)
first_refused f i zero q e = absurd (let z : ◌≡◌ {A = ℕ} 0 1 = cc in omega arith)
first_refused f i (suc k) q e = go (f i) refl e (first_refused f (i + 1) k q)
  where
    go : (c : Check) → f i ≡ c → (c >>= λ _. check_from (λ j _. f j) (i + 1) (count_from (i + 1) k)) ≡ refused q
        → (check_from (λ j _. f j) (i + 1) (count_from (i + 1) k) ≡ refused q → (p : ℕ) × (p < i + 1 + k) × (f p ≡ refused q) × ((j : ℕ) → i + 1 ≤ j → j < p → f j ≡ fine))
        → (p : ℕ) × (p < i + suc k) × (f p ≡ refused q) × ((j : ℕ) → i ≤ j → j < p → f j ≡ fine)
    go (done t) u e rest =
        let (p, l, h, b) = rest e in
        (p, omega arith, h, λ j a c. elim (ℕ_discrete j i) [ yes z ↦ ap f z ∙ u | no ne ↦ b j (omega arith) c ])
    go (refused r) u e rest = (i, omega arith, u ∙ e, λ j a c. absurd (omega arith))

-- ---- the check of one tree, by its levels and nodes

module _ {A : Type 0} (slots i : ℕ) (t : Tree A) where
  pub fits-fine : (fits_check slots i t ≡ fine) ↔ ((depth t ≤ 65) × (nodes t ≤ slots))
  unfolding fits_check
  fits-fine = (λ e. let (a, b) = tests (leb (depth t) 65) (leb (nodes t) slots) e in (leb-true (depth t) 65 a, leb-true (nodes t) slots b), λ (a, b). rw (le-leb (depth t) 65 a, le-leb (nodes t) slots b))
    where
      tests : (a b : Bool) → require a 6 i then require b 7 i ≡ fine → (a ≡ true) × (b ≡ true)
      tests true true e = (refl, refl)
      tests true false e = absurd (let z : ◌≡◌ {A = ℕ} 0 1 = cc in omega arith)
      tests false b e = absurd (let z : ◌≡◌ {A = ℕ} 0 1 = cc in omega arith)

  pub fits-deep : 65 < depth t → fits_check slots i t ≡ refused (refusal 6 i)
  unfolding fits_check
  fits-deep d = rw (lt-leb (depth t) 65 d)

  pub fits_full : depth t ≤ 65 → slots < nodes t → fits_check slots i t ≡ refused (refusal 7 i)
  unfolding fits_check
  fits_full d n = rw (le-leb (depth t) 65 d, lt-leb (nodes t) slots n)

  fits_refused : (q : Refusal) → fits_check slots i t ≡ refused q → ((q ≡ refusal 6 i) × (65 < depth t)) ⊎ ((q ≡ refusal 7 i) × (depth t ≤ 65) × (slots < nodes t))
  unfolding fits_check
  fits_refused q e = go (leb (depth t) 65) (leb (nodes t) slots) refl refl e
    where
      go : (a b : Bool) → leb (depth t) 65 ≡ a → leb (nodes t) slots ≡ b → require a 6 i then require b 7 i ≡ refused q
          → ((q ≡ refusal 6 i) × (65 < depth t)) ⊎ ((q ≡ refusal 7 i) × (depth t ≤ 65) × (slots < nodes t))
      go true true u v e = absurd (let z : ◌≡◌ {A = ℕ} 0 1 = cc in omega arith)
      go true false u v e = inr ((cc), leb-true (depth t) 65 u, leb-false (nodes t) slots v)
      go false b u v e = inl ((cc), leb-false (depth t) 65 u)

module _ (at : List Float) where
  -- ---- from a cell to the quarter that has all its points

  -- the tree of the points in the cell e, if it is no larger than t, which isn't cut off
  is_smaller : (e : Extent) (u t : Tree Extent) (is : List ℕ) → Is at e u is → depth u ≤ depth t → nodes u ≤ nodes t → depth t ≤ 65 → NoLarger (tree_in at e is) t
  is_smaller e u t is h a b l = subst (λ (v : Tree Extent). NoLarger v t) (tree-grown at u e is h (omega arith)) (record { nodes = b; levels = a })

  -- a tree is none, a leaf, or an internal node whose child in that quarter is the quarter's tree
  quarter_smaller : (c : Extent) (q : ℕ) (t : Tree Extent) (is : List ℕ) → q < 4 → points_in at c q is ≡ is → Is at c t is → depth t ≤ 65 → NoLarger (tree_in at (quarter q c) is) t
  quarter_smaller c q none is l k h d = is_smaller (quarter q c) none none is h (omega arith) (omega arith) d
  quarter_smaller c q (leaf b js) is l k h d = is_smaller (quarter q c) (leaf (quarter q c) is) (leaf b js) is (refl, refl, h.2, h.3) (omega arith) (omega arith) d
  quarter_smaller c zero (node b t0 t1 t2 t3) is l k h d = is_smaller (quarter 0 c) t0 (node b t0 t1 t2 t3) is (subst (Is at (quarter 0 c) t0) k h.2) (omega arith) (omega arith) d
  quarter_smaller c (suc zero) (node b t0 t1 t2 t3) is l k h d = is_smaller (quarter 1 c) t1 (node b t0 t1 t2 t3) is (subst (Is at (quarter 1 c) t1) k h.3) (omega arith) (omega arith) d
  quarter_smaller c (suc (suc zero)) (node b t0 t1 t2 t3) is l k h d = is_smaller (quarter 2 c) t2 (node b t0 t1 t2 t3) is (subst (Is at (quarter 2 c) t2) k h.4) (omega arith) (omega arith) d
  quarter_smaller c (suc (suc (suc zero))) (node b t0 t1 t2 t3) is l k h d = is_smaller (quarter 3 c) t3 (node b t0 t1 t2 t3) is (subst (Is at (quarter 3 c) t3) k h.5) (omega arith) (omega arith) d
  quarter_smaller c (suc (suc (suc (suc q)))) (node b t0 t1 t2 t3) is l k h d = absurd (omega arith)

  -- The tree of a quarter that has all the points is no larger than the whole cell's.
  quarter-fits : (c e : Extent) (q : ℕ) (is : List ℕ) → q < 4 → quarter q c ≡ e → ((i : ℕ) → In i is → Inside at e i) → depth (tree_in at c is) ≤ 65 → NoLarger (tree_in at e is) (tree_in at c is)
  quarter-fits c e q is l old w d =
      let all_in = all-quarter at c q is l (λ i m. subst (λ (x : Extent). Inside at x i) (sym old) (w i m)) in
      subst (λ (x : Extent). NoLarger (tree_in at x is) (tree_in at c is)) old
      (quarter_smaller c q (tree_in at c is) is l (keep_all (in_quarter at c q) is all_in) (tree-whole at c is d) d)

  -- ---- from the extent that covers p back to the one before

  module _ (p : ℕ) (is : List ℕ) (range : (i : ℕ) → In i is → T (within (x_at at i)) × T (within (y_at at i))) where
    abbrev x : Float
    x = x_at at p

    abbrev y : Float
    y = y_at at p

    abbrev AllLie : Extent → Type 0
    AllLie e = (i : ℕ) → In i is → Lies e (x_at at i) (y_at at i)

    module _ (e : Extent) (near : Near e x y) (w : AllLie e) (out : inside (square_of e) (floor x) (floor y) ≡ false) where
      abbrev answer : Doubled
      answer = record { extent = extent_of (holds (next (square_of e) (floor x) (floor y))); quadrant = old_quadrant (square_of e) (floor x) (floor y) }

      doubles : DoubledTo e (floor x) (floor y) answer
      doubles = doubled-to near out answer refl refl

      next-near : Near answer.extent x y
      next-near = record { reachable = doubles.reachable; across = near.across; along = near.along }

      next-within : AllLie answer.extent
      next-within i m = doubled_lies near out doubles (record { reachable = near.reachable; across = (range i m).0; along = (range i m).1 }) (w i m)

      next-square : square_of answer.extent ≡ next (square_of e) (floor x) (floor y)
      next-square = doubled-square near out doubles

      next_fits : depth (tree_in at answer.extent is) ≤ 65 → NoLarger (tree_in at e is) (tree_in at answer.extent is)
      next_fits d = quarter-fits answer.extent e answer.quadrant is (old-quadrant-less (square_of e) (floor x) (floor y)) doubles.old (λ i m. let l = w i m in record { x = l.across; y = l.along }) d

    grows-fits : {n : ℕ} {s t : Square} → Grows (floor x) (floor y) n s t → (e to : Extent) → square_of e ≡ s → square_of to ≡ t → Near e x y → Reachable to → AllLie e → depth (tree_in at to is) ≤ 65 → NoLarger (tree_in at e is) (tree_in at to is)
    grows-fits (done i) e to z u near re w d =
        let same : e ≡ to = near.reachable.is ∙ ap (λ (s : Square). extent_of (holds s)) (z ∙ sym u) ∙ sym re.is in
        subst (λ (c : Extent). NoLarger (tree_in at e is) (tree_in at c is)) same (larger_same (tree_in at e is))
    grows-fits (more o go) e to z u near re w d =
        let out : inside (square_of e) (floor x) (floor y) ≡ false = subst (λ (s : Square). inside s (floor x) (floor y) ≡ false) (sym z) o in
        let c : Extent = (answer e near w out).extent in
        let rest : NoLarger (tree_in at c is) (tree_in at to is) = grows-fits go c to (next-square e near w out ∙ ap (λ (s : Square). next s (floor x) (floor y)) z) u (next-near e near w out) re (next-within e near w out) d in
        larger_both (next_fits e near w out (omega (arith, rest.levels))) rest

  -- ---- one particle more

  -- the first n particles have their coordinates in range
  abbrev pub InRange : ℕ → Type 0
  InRange n = (i : ℕ) → i < n → place_range (x_at at i) (y_at at i) ≡ true

  pub in_T : (i : ℕ) → place_range (x_at at i) (y_at at i) ≡ true → T (within (x_at at i)) × T (within (y_at at i))
  in_T i e = (subst T (sym (left (within (x_at at i)) (within (y_at at i)) e)) tt, subst T (sym (right (within (x_at at i)) (within (y_at at i)) e)) tt)

  pub no_tree : tree_of at 0 ≡ none
  unfolding tree_of tree_in
  no_tree = grow-none at 66 (extent_of (cover_first at 0))

  tree_is : (n : ℕ) → tree_of at n ≡ tree_in at (extent_of (cover_first at n)) (up_to n)
  unfolding tree_of
  tree_is n = refl

  module _ (k : ℕ) (r : InRange (suc k + 1)) where
    abbrev p : ℕ
    p = suc k

    abbrev is : List ℕ
    is = up_to (suc k)

    abbrev before : Extent
    before = extent_of (cover_first at (suc k))

    members : (i : ℕ) → Memᴰ i is → T (within (x_at at i)) × T (within (y_at at i))
    members i m = in_T i (r i (omega (arith, member_less 0 (suc k) i m)))

    stands : Reachable before × (cover_first at (suc k) ≡ holds (square_of before))
    stands = list_reachable at 0 (count_from 1 k) before (in_range at is members) refl

    near : Near before (x_at at p) (y_at at p)
    near = let w = in_T p (r p (omega arith)) in record { reachable = stands.0; across = w.0; along = w.1 }

    way : Covering (floor (x_at at p)) (floor (y_at at p)) (square_of before) near.reachable.floors
    way = covering near.reachable.held (floor (x_at at p)) (floor (y_at at p)) (near_x near) (near_y near)

    after : extent_of (cover_first at (p + 1)) ≡ extent_of (holds way.to)
    after =
        ap extent_of
        (ap (cover_all at) (up_to_snoc p) ∙ cover_append at is (p ∷ []) ∙ ap (λ (c : Covered). cover_point c (floor (x_at at p)) (floor (y_at at p))) stands.1 ∙ way.is)

    lies : (i : ℕ) → In i is → Lies before (x_at at i) (y_at at i)
    lies i m = let w = list_lies at 0 (count_from 1 k) members i (in_member i is m) in record { across = w.x; along = w.y }

    -- with p left out, in the extent that covers it
    fewer : NoLarger (tree_in at (extent_of (holds way.to)) is) (tree_of at (p + 1))
    fewer =
        subst₂ (λ (c : Extent) (t : Tree Extent). NoLarger (tree_in at c is) t) after
        (ap (tree_in at (extent_of (cover_first at (p + 1)))) (sym (up_to_snoc p)) ∙ sym (tree_is (p + 1)))
        (tree-more at (extent_of (cover_first at (p + 1))) is (p ∷ []))

    some_fits : depth (tree_of at (p + 1)) ≤ 65 → NoLarger (tree_of at p) (tree_of at (p + 1))
    some_fits d =
        let back : NoLarger (tree_in at before is) (tree_in at (extent_of (holds way.to)) is) = grows-fits p is (λ i m. members i (in_member i is m)) way.grows before (extent_of (holds way.to)) refl
        (square-back way.to _ way.held) near (reachable way.to _ way.held) lies (omega (arith, fewer.levels)) in
        subst (λ (t : Tree Extent). NoLarger t (tree_of at (p + 1))) (sym (tree_is p)) (larger_both back fewer)

  next_larger : (p : ℕ) → InRange (p + 1) → depth (tree_of at (p + 1)) ≤ 65 → NoLarger (tree_of at p) (tree_of at (p + 1))
  next_larger zero r d = subst (λ (t : Tree Extent). NoLarger t (tree_of at (0 + 1))) (sym no_tree) (record { nodes = omega arith; levels = omega arith })
  next_larger (suc k) r d = some_fits k r d

  prefix_larger : (n p : ℕ) → InRange n → p ≤ n → depth (tree_of at n) ≤ 65 → NoLarger (tree_of at p) (tree_of at n)
  prefix_larger zero p r l d = let z : p ≡ 0 = omega arith in subst (λ (m : ℕ). NoLarger (tree_of at m) (tree_of at 0)) (sym z) (larger_same (tree_of at 0))
  prefix_larger (suc m) p r l d =
      elim (ℕ_discrete p (suc m)) [
        | yes e ↦ subst (λ (i : ℕ). NoLarger (tree_of at i) (tree_of at (suc m))) (sym e) (larger_same (tree_of at (suc m)))
        | no ne ↦
            let one : NoLarger (tree_of at m) (tree_of at (suc m)) =
            subst (λ (i : ℕ). InRange i → depth (tree_of at i) ≤ 65 → NoLarger (tree_of at m) (tree_of at i)) (add-one m) (next_larger m) r d in
            larger_both (prefix_larger m p (λ i k. r i (omega arith)) (omega arith) (omega (arith, one.levels))) one
      ]

  -- ---- the check of every prefix

  -- ==== theorems

  -- A prefix of particles in range has no more levels and no more nodes than all of them, if those pass no level past 64.
  pub prefix_fits : (n p : ℕ) → InRange n → p ≤ n → depth (tree_of at n) ≤ 65 → (depth (tree_of at p) ≤ depth (tree_of at n)) × (nodes (tree_of at p) ≤ nodes (tree_of at n))
  prefix_fits n p r l d = let h = prefix_larger n p r l d in (h.levels, h.nodes)

  -- Where building refuses nothing, the tree of all particles passes no level past 64 and has a slot for each node.
  pub check-fits : (n slots : ℕ) → tree_check at n slots ≡ fine → (depth (tree_of at n) ≤ 65) × (nodes (tree_of at n) ≤ slots)
  unfolding tree_check
  check-fits zero slots e = rw no_tree (omega arith, omega arith)
  check-fits (suc m) slots e =
      subst (λ (i : ℕ). (depth (tree_of at i) ≤ 65) × (nodes (tree_of at i) ≤ slots)) (add-one m)
      ((fits-fine slots m (tree_of at (m + 1))).0 (fine_each (λ j. fits_check slots j (tree_of at (j + 1))) 0 (suc m) e m (omega arith) (omega arith)))

  -- Where building refuses, it is the earliest particle whose prefix can't be built, by 6 or 7 as that prefix's tree says.
  pub check_earliest : (n slots : ℕ) (q : Refusal) → tree_check at n slots ≡ refused q → Earliest at n slots q
  unfolding tree_check
  check_earliest n slots q e =
      let (p, l, h, b) = first_refused (λ j. fits_check slots j (tree_of at (j + 1))) 0 n q e in
      let before : (i : ℕ) → i < p → (depth (tree_of at (i + 1)) ≤ 65) × (nodes (tree_of at (i + 1)) ≤ slots) = λ i k. (fits-fine slots i (tree_of at (i + 1))).0 (b i (omega arith) k) in
      go p (omega arith) before (fits_refused slots p (tree_of at (p + 1)) q h)
    where
      go : (p : ℕ) → p < n → ((i : ℕ) → i < p → (depth (tree_of at (i + 1)) ≤ 65) × (nodes (tree_of at (i + 1)) ≤ slots))
          → ((q ≡ refusal 6 p) × (65 < depth (tree_of at (p + 1)))) ⊎ ((q ≡ refusal 7 p) × (depth (tree_of at (p + 1)) ≤ 65) × (slots < nodes (tree_of at (p + 1)))) → Earliest at n slots q
      go p l b (inl (u, d)) = rw u (record { among = l; before = b; number = inl (refl, d) })
      go p l b (inr (u, d, m)) = rw u (record { among = l; before = b; number = inr (refl, d, m) })

  -- Building n particles in range refuses exactly where the tree of all of them passes level 64 or needs more slots than are lent.
  pub check-exact : (n : ℕ) → InRange n → (slots : ℕ) → (tree_check at n slots ≡ fine) ↔ ((depth (tree_of at n) ≤ 65) × (nodes (tree_of at n) ≤ slots))
  unfolding tree_check
  check-exact n r slots = (check-fits n slots, λ (a, b). each_fine (λ j. fits_check slots j (tree_of at (j + 1))) 0 n (λ j k l. let h = prefix_fits n (j + 1) r (omega arith) a in (fits-fine slots j (tree_of at (j + 1))).1 (omega arith, omega arith)))
