-- What Collide is shown to do, for a reader. Assumes nothing.
use mathlib.Core.Path.{◌≡◌, refl, sym, ap, ◌∙◌}
use mathlib.Core.Bool.{Bool, true}
use mathlib.Core.List.{List, ◌∷◌}
use Prim.Native.Nat.{ℕ, zero, suc, ◌+◌, ◌*◌, ◌≤◌, ◌<◌}
use native.Mathlib.Nat.{add-zero}
use native.Mathlib.Numerals.{add-one}
use native.Mathlib.Omega.{arith}
use borrow.Author.Tests.{le-ltb, le-leb}
use lib.ListN.{length}
use lib.Ieee.{Float}
use Rattle.rules.specs.declared.Extent.{Extent}
use Rattle.rules.specs.Plain.{all, count_from, up_to}
use Rattle.rules.specs.Outcome.{Outcome, done, fine, ◌>>=◌, fold_stages, check_from}
use Rattle.rules.specs.Cover.{cover_first, extent_of}
use Rattle.rules.specs.Tree.{leaf, same, tree_in, tree_of, fits_check, tree_check}
use Rattle.rules.specs.Walk.{Counted, counted}
use Rattle.rules.specs.Flow.{Flow}
use Rattle.rules.specs.Collide.{radius_tree, collide_step, run_collide}
use Rattle.rules.proofs.CellRule.{grow_leaf}
use Rattle.collide.specs.Collide.{walk_for, walk_all, walk_times}
use Rattle.collide.proofs.CollideRun.{run_none, run-walked}

-- ---- stages that change nothing and hand out d nodes each

module _ (f : Counted Flow → ℕ → Outcome (Counted Flow)) (d : ℕ) (h : (m : Counted Flow) (i : ℕ) → f m i ≡ done (counted m.state (m.visits + d))) where
  idle : (m : Counted Flow) (i k : ℕ) → fold_stages f m (count_from i k) ≡ done (counted m.state (m.visits + k * d))
  idle m i zero = ap (λ (v : ℕ). done (counted m.state v)) (omega arith)
  idle m i (suc k) =
      ap (λ (o : Outcome (Counted Flow)). o >>= λ n. fold_stages f n (count_from (i + 1) k)) (h m i)
      ∙ idle (counted m.state (m.visits + d)) (i + 1) k
      ∙ ap (λ (v : ℕ). done (counted m.state v)) (omega arith)

module _ (at radii : List Float) (strength : Float) (iterations slots : ℕ) (m : Counted Flow) (f : tree_check at (length radii) slots ≡ fine) where
  -- where the walks of all particles together are handed a node each and change nothing, the force changes nothing
  run-idle : ((m : Counted Flow) → walk_all at radii strength m ≡ done (counted m.state (m.visits + length radii)))
      → run_collide at radii strength iterations slots m ≡ done (counted m.state (m.visits + iterations * length radii))
  unfolding walk_times
  run-idle h = sym (run-walked at radii strength iterations slots m f) ∙ idle (λ m _. walk_all at radii strength m) (length radii) (λ m _. h m) m 0 iterations

-- With no iteration no tree is built: neither 6 nor 7 is given, however few the slots, and nothing changes.
pub none-idle : (at radii : List Float) (strength : Float) (slots : ℕ) (m : Counted Flow) → run_collide at radii strength 0 slots m ≡ done m
none-idle at radii strength slots m = sym (run_none at radii strength 0 slots m refl)

-- ---- a tree of one leaf

-- the walk of particle i, which is not less than 0
walk_leaf : (at radii : List Float) (strength : Float) (c : Extent) (is : List ℕ) → tree_of at (length radii) ≡ leaf c (0 ∷ is) → (m : Counted Flow) (i : ℕ)
    → walk_for at radii strength m i ≡ done (counted m.state (m.visits + 1))
unfolding radius_tree collide_step
walk_leaf at radii strength c is e m i = rw (e, le-ltb i 0 (omega arith))

-- Where the tree is one leaf whose chain begins with particle 0, velocities and draws stay as they were: only the first member acts, and only if its index is greater, which 0 never is.
pub one_leaf_idle : (at radii : List Float) (strength : Float) (iterations slots : ℕ) (m : Counted Flow) → tree_check at (length radii) slots ≡ fine
    → (c : Extent) (is : List ℕ) → tree_of at (length radii) ≡ leaf c (0 ∷ is)
    → run_collide at radii strength iterations slots m ≡ done (counted m.state (m.visits + iterations * length radii))
unfolding walk_all
one_leaf_idle at radii strength iterations slots m f c is e =
    run-idle at radii strength iterations slots m f
    (λ m. idle (walk_for at radii strength) 1 (walk_leaf at radii strength c is e) m 0 (length radii) ∙ ap (λ (v : ℕ). done (counted m.state v)) (omega arith))

-- ---- coincident particles

all-count : (p : ℕ → Bool) (i k : ℕ) → ((j : ℕ) → i ≤ j → j < i + k → p j ≡ true) → all p (count_from i k) ≡ true
all-count p i zero h = refl
all-count p i (suc k) h = rw (h i (omega arith) (omega arith), all-count p (i + 1) k (λ j a b. h j (omega arith) (omega arith)))

module _ (at : List Float) where
  -- Numerically equal places make a tree of one leaf, whose chain is 0, 1, .. , n.
  pub coincident_leaf : (n : ℕ) → ((i : ℕ) → i < suc n → same at 0 i ≡ true) → tree_of at (suc n) ≡ leaf (extent_of (cover_first at (suc n))) (up_to (suc n))
  unfolding tree_of tree_in
  coincident_leaf n h = grow_leaf at 65 (extent_of (cover_first at (suc n))) (up_to (suc n)) (omega arith) (all-count (same at 0) 1 n (λ j a b. h j (omega arith)))

  -- So one slot is enough for them.
  pub coincident_fits : (n slots : ℕ) → ((i : ℕ) → i < n → same at 0 i ≡ true) → 0 < slots → tree_check at n slots ≡ fine
  unfolding tree_check fits_check
  coincident_fits n slots h s = each 0 n (λ i a b. rw (coincident_leaf i (λ j k. h j (omega arith)), le-leb 1 slots s))
    where
      each : (i k : ℕ) → ((j : ℕ) → i ≤ j → j < i + k → fits_check slots j (tree_of at (suc j)) ≡ fine) → check_from (λ i _. fits_check slots i (tree_of at (i + 1))) i (count_from i k) ≡ fine
      each i zero g = refl
      each i (suc k) g = rw (add-one i, g i (omega arith) (omega arith)) (each (suc i) k (λ j a b. g j (omega arith) (omega arith)))

-- Collide on coincident particles changes nothing: where every place is numerically equal to the first, velocities and draws stay as they were, whatever the radii, the strength and the number of iterations.
-- Each particle's walk is handed the one leaf.
pub coincident_idle : (at radii : List Float) (strength : Float) (iterations slots : ℕ) (m : Counted Flow) → ((i : ℕ) → i < length radii → same at 0 i ≡ true)
    → tree_check at (length radii) slots ≡ fine → run_collide at radii strength iterations slots m ≡ done (counted m.state (m.visits + iterations * length radii))
unfolding walk_all
coincident_idle at radii strength iterations slots m h f = go (length radii) refl h
  where
    go : (n : ℕ) → length radii ≡ n → ((i : ℕ) → i < n → same at 0 i ≡ true) → run_collide at radii strength iterations slots m ≡ done (counted m.state (m.visits + iterations * length radii))
    go zero e g = run-idle at radii strength iterations slots m f (λ m. rw (e, add-zero))
    go (suc n) e g = one_leaf_idle at radii strength iterations slots m f (extent_of (cover_first at (suc n))) (count_from 1 n) (rw e (coincident_leaf at n g))
