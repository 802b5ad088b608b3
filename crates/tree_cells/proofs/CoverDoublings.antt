-- How many doublings covering a point takes, and the loop that makes them. Assumes nothing.
use Rattle.std.proofs.Common.{◌≡◌, ℕ, zero, suc, ◌+◌, ◌<◌, ◌≤◌, Bool, true, false, List, ℤ, sym, refl, ap, ◌∙◌, subst, arith}
use lib.Ieee.{Float}
use Rattle.rules.specs.declared.Extent.{Extent}
use Rattle.rules.specs.Plain.{branch}
use Rattle.rules.specs.Floor.{floor}
use Rattle.rules.specs.Cover.{Square, inside, most_doublings, holds, cover_point, extent_of}
use Rattle.rules.proofs.CoverTerms as Terms
use Rattle.rules.proofs.CoverTerms.{next, Grows, done, more, Held}
use Rattle.rules.proofs.CoverSquare.{grows-rest}
use Rattle.rules.proofs.Cover.{covering, covered_already, cover_next}
use Rattle.tree_cells.specs.declared.cover.Doubled.{Doubled}
use Rattle.tree_cells.specs.Cover.{square_of, Reachable, Near, doublings, DoubledTo, CoveredTo}
use Rattle.tree_cells.proofs.CoverNear.{near_x, near_y, doubled-square}

module _ (x y : ℤ) where
  none_more : (k : ℕ) (s : Square) → inside s x y ≡ true → doublings k x y s ≡ 0
  unfolding doublings
  none_more zero s e = refl
  none_more (suc k) s e = ap (λ (t : Bool). branch t (λ _. 0) (λ _. suc (doublings k x y (next s x y)))) e

  one_more : (k : ℕ) (s : Square) → inside s x y ≡ false → doublings (suc k) x y s ≡ suc (doublings k x y (next s x y))
  unfolding doublings
  one_more k s e = ap (λ (t : Bool). branch t (λ _. 0) (λ _. suc (doublings k x y (next s x y)))) e

  -- a chain of n doublings is counted as n, if n or more are allowed
  pub grows-count : {n : ℕ} {s t : Square} → Grows x y n s t → (k : ℕ) → n ≤ k → doublings k x y s ≡ n
  grows-count {s} (done e) k h = none_more k s e
  grows-count (more e g) zero h = absurd (omega arith)
  grows-count {s} (more e g) (suc k) h = one_more k s e ∙ ap suc (grows-count g k (omega arith))

-- with the point inside there is none
pub count_done : (x y : ℤ) (s : Square) → inside s x y ≡ true → doublings most_doublings x y s ≡ 0
count_done x y s e = none_more x y most_doublings s e

module _ {s : Square} {fs : List (ℤ × ℤ)} (h : Held s fs) (x y : ℤ) (n : Terms.Near x) (m : Terms.Near y) where
  pub count-few : doublings most_doublings x y s ≤ most_doublings
  count-few = let r = covering h x y n m in subst (λ (k : ℕ). k ≤ most_doublings) (sym (grows-count x y r.grows most_doublings r.few)) r.few

  -- with the point outside there is one more than from the doubled square
  pub count_next : inside s x y ≡ false → doublings most_doublings x y s ≡ suc (doublings most_doublings x y (next s x y))
  count_next e = let r = covering h x y n m in from r.few r.grows (grows-rest x y r.grows e)
    where
      from : {k : ℕ} {t : Square} → k ≤ most_doublings → Grows x y k s t → (i : ℕ) × (k ≡ suc i) × Grows x y i (next s x y) t → doublings most_doublings x y s ≡ suc (doublings most_doublings x y (next s x y))
      from l g (i, u, g') = grows-count x y g most_doublings l ∙ u ∙ ap suc (sym (grows-count x y g' most_doublings (omega arith)))

-- ---- the loop

-- After n doublings from e₀ to e: the rest of the covering, and the rest of the count, are those from e on.
pub record Going (x y : ℤ) (e₀ e : Extent) (n : ℕ) : Type 0 where
  pub reachable : Reachable e
  pub same : cover_point (holds (square_of e₀)) x y ≡ cover_point (holds (square_of e)) x y
  pub count : n + doublings most_doublings x y (square_of e) ≡ doublings most_doublings x y (square_of e₀)

abbrev pub left : ℤ → ℤ → Extent → ℕ
left x y e = doublings most_doublings x y (square_of e)

pub start : (x y : ℤ) (e : Extent) → Reachable e → Going x y e e 0
start x y e h = record { reachable = h; same = refl; count = omega arith }

module _ {e₀ e : Extent} {n : ℕ} {x y : Float} (m : Near e₀ x y) (g : Going (floor x) (floor y) e₀ e n) where
  pub near : Near e x y
  near = record { reachable = g.reachable; across = m.across; along = m.along }

  module _ (out : inside (square_of e) (floor x) (floor y) ≡ false) where
    count-falls : left (floor x) (floor y) e ≡ suc (doublings most_doublings (floor x) (floor y) (next (square_of e) (floor x) (floor y)))
    count-falls = count_next g.reachable.held (floor x) (floor y) (near_x near) (near_y near) out

    module _ {r : Doubled} (d : DoubledTo e (floor x) (floor y) r) where
      falls : left (floor x) (floor y) e ≡ suc (left (floor x) (floor y) r.extent)
      falls = count-falls ∙ ap (λ (s : Square). suc (doublings most_doublings (floor x) (floor y) s)) (sym (doubled-square near out d))

      pub less : left (floor x) (floor y) r.extent < left (floor x) (floor y) e
      less = omega (arith, falls)

      pub turn : Going (floor x) (floor y) e₀ r.extent (n + 1)
      turn = record {
        reachable = d.reachable;
        same = g.same ∙ cover_next g.reachable.held (floor x) (floor y) (near_x near) (near_y near) out ∙ ap (λ (s : Square). cover_point (holds s) (floor x) (floor y)) (sym (doubled-square near out d));
        count = omega (arith, falls, g.count);
      }

  pub few : n ≤ most_doublings
  few = omega (arith, g.count, count-few m.reachable.held (floor x) (floor y) (near_x m) (near_y m))

  pub finish : inside (square_of e) (floor x) (floor y) ≡ true → CoveredTo e₀ (floor x) (floor y) (record { extent = e; doublings = n })
  finish u = record {
    extent = g.reachable.is ∙ ap extent_of (sym (g.same ∙ covered_already (square_of e) (floor x) (floor y) u));
    doublings = omega (arith, g.count, count_done (floor x) (floor y) (square_of e) u);
    few = few;
    reachable = g.reachable;
  }
