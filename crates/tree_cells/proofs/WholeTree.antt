-- The cell rule's tree of n particles: where its points lie, how large its extent is, and that building it refuses exactly where the rule's tree is too large. Assumes nothing.
use Rattle.std.proofs.Common.{◌≡◌, ℕ, zero, suc, ◌+◌, ◌^◌, ◌<◌, ◌≤◌, true, T, ◌⊎◌, ◌↔◌, List, [], ◌∷◌, refl, inl, inr, ⊎_elim, true≢false, arith, pow_pos, pow_mono}
use mathlib.Core.List.{Memᴰ}
use native.Mathlib.Decide.{dec_lt}
use lib.Ieee.{Float}
use Rattle.rules.specs.declared.Extent.{Extent}
use Rattle.rules.specs.declared.Refusal.{Refusal}
use Rattle.rules.specs.Plain.{all, count_from, up_to}
use Rattle.rules.specs.Outcome.{Check, done, refused, fine}
use Rattle.rules.specs.Number.{within, x_at, y_at}
use Rattle.rules.specs.Floor.{floor}
use Rattle.rules.specs.Cover.{Square, inside, holds, cover_first, extent_of}
use Rattle.rules.specs.Tree.{Tree, none, leaf, node, depth, nodes, tree_of, tree_check}
use Rattle.rules.specs.Terms.{EachLeaf, Oversized, Fits, Earliest, NotOfTree, in_cell, IsTree, Sided}
use Rattle.rules.proofs.CellList.{In}
use Rattle.rules.proofs.CellCount.{in_count, times_in, times-up_to}
use Rattle.rules.proofs.CellChain.{each_map}
use Rattle.rules.proofs.CellInside.{Inside}
use Rattle.rules.proofs.CellRule.{tree-whole, tree-deep, tree-large, tree-fits, leaves-inside}
use Rattle.rules.proofs.Cover.{held_sided, held_most, cover_inside}
use Rattle.tree_cells.specs.Cover.{square_of, Reachable}
use Rattle.tree_cells.proofs.CoverLaws.{in_range, list_reachable, list_lies, reachable-finite}
use Rattle.tree_cells.proofs.Prefix.{InRange, in_T, in_member, member_less, check-fits, check-exact, check_earliest}

module _ (at : List Float) where
  -- ---- the extent of the first particles, of which there are some

  all-inside : (c : Extent) (is : List ℕ) → ((i : ℕ) → In i is → Inside at c i) → all (λ i. in_cell c (x_at at i) (y_at at i)) is ≡ true
  all-inside c [] h = refl
  all-inside c (i ∷ is) h = let w = h i (inl refl) in rw (w.x.low, w.x.high, w.y.low, w.y.high) (all-inside c is (λ j m. h j (inr m)))

  all-floors : (s : Square) (is : List ℕ) → ((i : ℕ) → Memᴰ i is → inside s (floor (x_at at i)) (floor (y_at at i)) ≡ true) → all (λ i. inside s (floor (x_at at i)) (floor (y_at at i))) is ≡ true
  all-floors s [] h = refl
  all-floors s (i ∷ is) h = rw (h i (Memᴰ.head refl)) (all-floors s is (λ j m. h j (Memᴰ.tail m)))

  module _ (k : ℕ) (r : InRange at (suc k)) where
    members : (i : ℕ) → Memᴰ i (up_to (suc k)) → T (within (x_at at i)) × T (within (y_at at i))
    members i m = in_T at i (r i (omega (arith, member_less 0 (suc k) i m)))

    stands : Reachable (extent_of (cover_first at (suc k))) × (cover_first at (suc k) ≡ holds (square_of (extent_of (cover_first at (suc k)))))
    stands = list_reachable at 0 (count_from 1 k) (extent_of (cover_first at (suc k))) (in_range at (up_to (suc k)) members) refl

    lie : (i : ℕ) → In i (up_to (suc k)) → Inside at (extent_of (cover_first at (suc k))) i
    lie i m = list_lies at 0 (count_from 1 k) members i (in_member i (up_to (suc k)) m)

  -- Where there is a point, covering ends at a square of whole numbers whose side is at most 2 ^ 43, and which holds the floors of all points.
  pub extent_sided : (n : ℕ) → InRange at n → 0 < n
      → (s : Square) × (side : ℕ) × (cover_first at n ≡ holds s) × Sided side s × (0 < side) × (side ≤ 2 ^ 43) × (all (λ i. inside s (floor (x_at at i)) (floor (y_at at i))) (up_to n) ≡ true)
  extent_sided zero r l = absurd (omega arith)
  extent_sided (suc k) r l =
      let (e, u) = stands k r in
      let h = e.held in
      let s = square_of (extent_of (cover_first at (suc k))) in
      (s, 2 ^ h.log, u, held_sided h, pow_pos h.log, pow_mono (held_most h), all-floors s (up_to (suc k)) (cover_inside at (up_to (suc k)) s (in_range at (up_to (suc k)) (members k r)) u))

  -- The extent holds every point.
  pub extent_holds : (n : ℕ) → InRange at n → all (λ i. in_cell (extent_of (cover_first at n)) (x_at at i) (y_at at i)) (up_to n) ≡ true
  extent_holds zero r = refl
  extent_holds (suc k) r = all-inside (extent_of (cover_first at (suc k))) (up_to (suc k)) (lie k r)

  -- ---- a tree that passes no level past 64

  -- It is the tree that the cell rule names, of the extent reached by covering the points in order.
  pub whole-tree : (n : ℕ) → depth (tree_of at n) ≤ 65 → IsTree at (extent_of (cover_first at n)) (tree_of at n) (up_to n)
  unfolding tree_of
  whole-tree n d = tree-whole at (extent_of (cover_first at n)) (up_to n) d

  -- Every leaf of a tree of some of the first n points, in the extent of those n, has its points in its half-open cell.
  pub leaves-within : (n : ℕ) (is : List ℕ) (t : Tree Extent) → InRange at n → ((i : ℕ) → In i is → i < n) → IsTree at (extent_of (cover_first at n)) t is
      → EachLeaf (λ c js. all (λ i. in_cell c (x_at at i) (y_at at i)) js ≡ true) t
  leaves-within n [] none r l h = tt
  leaves-within n [] (leaf d js) r l h = absurd (omega arith)
  leaves-within n [] (node d t0 t1 t2 t3) r l h = absurd (true≢false h.1)
  leaves-within zero (i ∷ is) t r l h = absurd (omega (arith, l i (inl refl)))
  leaves-within (suc k) (i ∷ is) t r l h =
      each_map (λ c js. (i : ℕ) → In i js → Inside at c i) (λ c js. all (λ i. in_cell c (x_at at i) (y_at at i)) js ≡ true) all-inside t
      (leaves-inside at t (extent_of (cover_first at (suc k))) (i ∷ is) (reachable-finite (stands k r).0) (λ j m. lie k r j (times_in j (up_to (suc k)) (omega (arith, times-up_to j (suc k) (l j m))))) h)

  -- So has every leaf of the tree of all of them.
  pub leaves_hold : (n : ℕ) → InRange at n → depth (tree_of at n) ≤ 65 → EachLeaf (λ c is. all (λ i. in_cell c (x_at at i) (y_at at i)) is ≡ true) (tree_of at n)
  leaves_hold n r d = leaves-within n (up_to n) (tree_of at n) r (λ i m. omega (arith, in_count 0 n i m)) (whole-tree n d)

  -- ---- the tree that the rules compute, cut off below level 65, and the tree that the cell rule names, which is not

  module _ (n : ℕ) (t : Tree Extent) (h : IsTree at (extent_of (cover_first at n)) t (up_to n)) where
    -- Where the one goes below level 64, so does the other.
    pub deep-ruled : 65 < depth (tree_of at n) → 65 < depth t
    unfolding tree_of
    deep-ruled d = tree-deep at t (extent_of (cover_first at n)) (up_to n) h d

    -- Where the one is too large, so is the other.
    pub large-ruled : (slots : ℕ) → Oversized slots (tree_of at n) → Oversized slots t
    unfolding tree_of
    large-ruled slots o = tree-large at t (extent_of (cover_first at n)) (up_to n) slots h o

    fits-ruled : (slots : ℕ) → (Oversized slots t → ⊥) → Fits slots (tree_of at n)
    unfolding tree_of
    fits-ruled slots small = tree-fits at t (extent_of (cover_first at n)) (up_to n) slots h small

    -- Where the other is not, building refuses nothing.
    pub ruled-fine : InRange at n → (slots : ℕ) → (Oversized slots t → ⊥) → tree_check at n slots ≡ fine
    ruled-fine r slots small = (check-exact at n r slots).1 (fits-ruled slots small)

  -- What is said of the earliest prefix holds of every tree of it by the cell rule.
  pub earliest_ruled : (n slots : ℕ) (r : Refusal) → Earliest at n slots r → (t : Tree Extent) → IsTree at (extent_of (cover_first at (r.place + 1))) t (up_to (r.place + 1))
      → Oversized slots t × (r.number ≡ 6 → 65 < depth t)
  earliest_ruled n slots r e t h =
      ⊎_elim (λ k. (inl (deep-ruled (r.place + 1) t h k.1), λ _. deep-ruled (r.place + 1) t h k.1)) (λ k. (large-ruled (r.place + 1) t h slots (inr k.2), λ z. absurd (omega arith))) e.number

-- ---- what a call refuses that builds the tree of n particles in range

module _ (at : List Float) (n slots : ℕ) where
  -- the tree fits, and it refuses by neither 6 nor 7; or the tree is too large, and it refuses by the earliest prefix
  pub data Building (r : Refusal) : Type 0 where
    fits : Fits slots (tree_of at n) → NotOfTree r → Building r
    large : Oversized slots (tree_of at n) → Earliest at n slots r → Building r

  too_large : (Fits slots (tree_of at n) → ⊥) → Oversized slots (tree_of at n)
  too_large small =
      elim (dec_lt 65 (depth (tree_of at n))) [ yes d ↦ inl d | no e ↦ elim (dec_lt slots (nodes (tree_of at n))) [ yes m ↦ inr m | no f ↦ absurd (small (omega arith, omega arith)) ] ]

  -- It refuses as building does, and where that is fine by neither 6 nor 7.
  pub building : InRange at n → (r : Refusal) → ((q : Refusal) → tree_check at n slots ≡ refused q → r ≡ q) → (tree_check at n slots ≡ fine → NotOfTree r) → Building r
  building k r refuses other = go (tree_check at n slots) refl
    where
      go : (c : Check) → tree_check at n slots ≡ c → Building r
      go (done t) e = fits (check-fits at n slots e) (other e)
      go (refused q) e =
          large (too_large (λ f. let g = (check-exact at n k slots).1 f in let z : ◌≡◌ {A = ℕ} 0 1 = cc in omega arith)) (rw (refuses q e) (check_earliest at n slots q e))

  module _ {r : Refusal} where
    -- 6 or 7, exactly where the tree that the rules compute is too large,
    pub computed-exactly : Building r → ((r.number ≡ 6) ⊎ (r.number ≡ 7)) ↔ Oversized slots (tree_of at n)
    computed-exactly (fits f other) = (λ k. ⊎_elim (λ e. absurd (other.0 e)) (λ e. absurd (other.1 e)) k, λ o. ⊎_elim (λ e. absurd (omega arith)) (λ e. absurd (omega arith)) o)
    computed-exactly (large o e) = (λ _. o, λ _. ⊎_elim (λ k. inl k.0) (λ k. inr k.0) e.number)

    -- which is: where every tree by the cell rule is.
    pub ruled-exactly : Building r → ((r.number ≡ 6) ⊎ (r.number ≡ 7)) ↔ ((t : Tree Extent) → IsTree at (extent_of (cover_first at n)) t (up_to n) → Oversized slots t)
    ruled-exactly b = (λ k t h. large-ruled at n t h slots ((computed-exactly b).0 k), λ every. back b every)
      where
        back : Building r → ((t : Tree Extent) → IsTree at (extent_of (cover_first at n)) t (up_to n) → Oversized slots t) → (r.number ≡ 6) ⊎ (r.number ≡ 7)
        back (fits f other) every = ⊎_elim (λ e. absurd (omega arith)) (λ e. absurd (omega arith)) (every (tree_of at n) (whole-tree at n f.0))
        back (large o e) every = ⊎_elim (λ k. inl k.0) (λ k. inr k.0) e.number

    -- Then it is the earliest prefix that can't be built.
    pub earliest : Building r → (r.number ≡ 6) ⊎ (r.number ≡ 7) → Earliest at n slots r
    earliest (fits f other) k = ⊎_elim (λ e. absurd (other.0 e)) (λ e. absurd (other.1 e)) k
    earliest (large o e) k = e
