-- Laws on extents that covering can reach: where points lie, which quadrant they have after a doubling, and covering the points of a list. Assumes nothing.
use Rattle.std.proofs.Common.{◌≡◌, ℕ, ◌^◌, ◌<◌, ◌≤◌, true, false, ◌&&◌, T, ◌≢◌, List, [], ◌∷◌, ◌++◌, map, ℤ, nat_abs, sym, refl, ap, ◌∙◌, subst, subst₂, true≢false}
use mathlib.Core.List.{Memᴰ}
use lib.Signed.{lt_z, le_z}
use lib.Ieee.{Float, lt, le}
use Rattle.rules.specs.declared.Extent.{Extent}
use Rattle.rules.specs.Number.{within, x_at, y_at}
use Rattle.rules.specs.Floor.{floor}
use Rattle.rules.specs.Cell.{quadrant, quarter}
use Rattle.rules.specs.Cover.{Square, inside, most_doublings, Covered, holds, cover_point, cover_all, whole, extent_of}
use Rattle.rules.proofs.CellList.{left, right}
use Rattle.rules.proofs.CellInside.{FiniteCell, Inside}
use Rattle.rules.proofs.CoverCount.{le_more}
use Rattle.rules.proofs.CoverTerms.{Grows, Covering, AllNear, floors}
use Rattle.rules.proofs.CoverSquare.{four_true}
use Rattle.rules.proofs.CoverReach.{next_contains}
use Rattle.rules.proofs.Cover.{old-quadrant-less, contains_inside, held_sided, held-near, covering, cover_all_lem, cover_inside, cover_append, reached-some}
use Rattle.number.proofs.Integers.{le_int}
use Rattle.number.proofs.Flooring.{floor_le, floor_lt, floor-within, within-finite}
use Rattle.tree_cells.specs.declared.cover.Doubled.{Doubled}
use Rattle.tree_cells.specs.declared.cover.Covered as Answer
use Rattle.tree_cells.specs.Cover.{square_of, Reachable, Near, DoubledTo, CoveredTo}
use Rattle.tree_cells.proofs.CoverNear.{x0_is, y0_is, x1_is, y1_is, x0_has, y0_has, x1_has, y1_has, near_x, near_y, square-back, reachable, doubled-square}
use Rattle.tree_cells.proofs.CoverDoublings.{grows-count}
use Rattle.tree_cells.proofs.CoverMiddles.{Tame, whole_tame}
use Rattle.tree_cells.proofs.CoverCells.{TameCell, tame_finite}
pub use Rattle.tree_cells.proofs.CoverCells.{Lies, lies_quadrant, lies_quarter}

-- ---- a point in an extent

-- The ends lie within 2 ^ 44 of zero, and in order.
pub reachable_tame : {e : Extent} → Reachable e → TameCell e
reachable_tame {e} h = record {
  x0 = tame (square_of e).x0 (x0_is h) (held-near h.held).x0;
  y0 = tame (square_of e).y0 (y0_is h) (held-near h.held).y0;
  x1 = tame (square_of e).x1 (x1_is h) (held-near h.held).x1;
  y1 = tame (square_of e).y1 (y1_is h) (held-near h.held).y1;
  wide = le_int e.x0 e.x1 (square_of e).x0 (square_of e).x1 (x0_has h) (x1_has h) ∙ ap (le_z (square_of e).x0) (held_sided h.held).wide ∙ le_more (square_of e).x0 (2 ^ h.held.log);
  tall = le_int e.y0 e.y1 (square_of e).y0 (square_of e).y1 (y0_has h) (y1_has h) ∙ ap (le_z (square_of e).y0) (held_sided h.held).tall ∙ le_more (square_of e).y0 (2 ^ h.held.log);
}
  where
    tame : {x : Float} (z : ℤ) → x ≡ whole z → nat_abs z ≤ 2 ^ 44 → Tame x
    tame z u l = subst Tame (sym u) (whole_tame z l)

-- They are finite.
pub reachable-finite : {e : Extent} → Reachable e → FiniteCell e
reachable-finite h = tame_finite (reachable_tame h)

module _ {e : Extent} {x y : Float} (n : Near e x y) where
  from_x : le e.x0 x ≡ le_z (square_of e).x0 (floor x)
  from_x = floor_le x e.x0 (square_of e).x0 (within-finite x n.across) (x0_has n.reachable)

  to_x : lt x e.x1 ≡ lt_z (floor x) (square_of e).x1
  to_x = floor_lt x e.x1 (square_of e).x1 (within-finite x n.across) (x1_has n.reachable)

  from_y : le e.y0 y ≡ le_z (square_of e).y0 (floor y)
  from_y = floor_le y e.y0 (square_of e).y0 (within-finite y n.along) (y0_has n.reachable)

  to_y : lt y e.y1 ≡ lt_z (floor y) (square_of e).y1
  to_y = floor_lt y e.y1 (square_of e).y1 (within-finite y n.along) (y1_has n.reachable)

  -- A point whose floors are inside lies in the extent.
  pub inside_lies : inside (square_of e) (floor x) (floor y) ≡ true → Lies e x y
  inside_lies t =
      let s = square_of e in
      let p = le_z s.x0 (floor x) in
      let q = lt_z (floor x) s.x1 in
      let r = le_z s.y0 (floor y) in
      let u = lt_z (floor y) s.y1 in
      let pqr : p && q && r ≡ true = left (p && q && r) u t in
      let pq : p && q ≡ true = left (p && q) r pqr in
      record { across = record { low = from_x ∙ left p q pq; high = to_x ∙ right p q pq }; along = record { low = from_y ∙ right (p && q) r pqr; high = to_y ∙ right (p && q && r) u t } }

  -- A point of the extent has its floors inside.
  pub lies_inside : Lies e x y → inside (square_of e) (floor x) (floor y) ≡ true
  lies_inside w = four_true (sym from_x ∙ w.across.low) (sym to_x ∙ w.across.high) (sym from_y ∙ w.along.low) (sym to_y ∙ w.along.high)

-- ---- one doubling

module _ {e : Extent} {x y : Float} (n : Near e x y) (out : inside (square_of e) (floor x) (floor y) ≡ false) {r : Doubled} (d : DoubledTo e (floor x) (floor y) r) where
  quadrant-less : r.quadrant < 4
  quadrant-less = subst (λ (q : ℕ). q < 4) (sym d.quadrant) (old-quadrant-less (square_of e) (floor x) (floor y))

  -- Any point of the old extent has the old root's quadrant in the doubled one, so a wrap keeps it where it was.
  pub doubled-quadrant : (u v : Float) → Lies e u v → quadrant r.extent u v ≡ r.quadrant
  doubled-quadrant u v w = lies_quadrant r.extent u v r.quadrant quadrant-less (subst (λ (c : Extent). Lies c u v) (sym d.old) w)

  -- A point in range that lies in the old extent lies in the doubled one.
  pub doubled_lies : {u v : Float} → Near e u v → Lies e u v → Lies r.extent u v
  doubled_lies {u} {v} m w = inside_lies (record { reachable = d.reachable; across = m.across; along = m.along }) (subst (λ (s : Square). inside s (floor u) (floor v) ≡ true) (sym (doubled-square n out d)) (contains_inside (floor u) (floor v) (next_contains n.reachable.held (floor x) (floor y)) (lies_inside m w)))

  -- The point that forced the doubling, once it lies in the extent, has another quadrant.
  pub other-quadrant : Lies r.extent x y → quadrant r.extent x y ≢ r.quadrant
  other-quadrant w same =
      let there : Lies (quarter (quadrant r.extent x y) r.extent) x y = lies_quarter r.extent x y (reachable-finite d.reachable) w in
      let old : Lies e x y = subst (λ (c : Extent). Lies c x y) (ap (λ (q : ℕ). quarter q r.extent) same ∙ d.old) there in
      true≢false (sym (lies_inside n old) ∙ out)

-- ---- covering a point

module _ {e : Extent} {x y : Float} (n : Near e x y) {r : Answer.Covered} (d : CoveredTo e (floor x) (floor y) r) where
  way : Covering (floor x) (floor y) (square_of e) n.reachable.floors
  way = covering n.reachable.held (floor x) (floor y) (near_x n) (near_y n)

  to : square_of r.extent ≡ way.to
  to = ap square_of (d.extent ∙ ap extent_of way.is) ∙ square-back way.to (n.reachable.floors ++ (floor x, floor y) ∷ []) way.held

  -- The doublings lead from one square to the other, each with the point still outside.
  pub covered_grows : Grows (floor x) (floor y) r.doublings (square_of e) (square_of r.extent)
  covered_grows = subst₂ (λ (k : ℕ) (t : Square). Grows (floor x) (floor y) k (square_of e) t) (sym (d.doublings ∙ grows-count (floor x) (floor y) way.grows most_doublings way.few)) (sym to) way.grows

-- ---- the points of a list, in order

module _ (at : List Float) where
  -- Coordinates in range have floors in range.
  pub in_range : (is : List ℕ) → ((i : ℕ) → Memᴰ i is → T (within (x_at at i)) × T (within (y_at at i))) → AllNear at is
  in_range is h i m = ((floor-within (x_at at i) (h i m).0).within, (floor-within (y_at at i) (h i m).1).within)

  -- The extent of a list with a point can be reached, and its square is the rule's.
  pub list_reachable : (i : ℕ) (is : List ℕ) (e : Extent) → AllNear at (i ∷ is) → e ≡ extent_of (cover_all at (i ∷ is)) → Reachable e × (cover_all at (i ∷ is) ≡ holds (square_of e))
  list_reachable i is e n u =
      let (s, k, h) = reached-some (cover_all at (i ∷ is)) (floors at i) (map (floors at) is) (cover_all_lem at (i ∷ is) n) in
      let v : e ≡ extent_of (holds s) = u ∙ ap extent_of k in
      (subst Reachable (sym v) (reachable s (floors at i ∷ map (floors at) is) h), k ∙ ap holds (sym (ap square_of v ∙ square-back s (floors at i ∷ map (floors at) is) h)))

  -- One point more.
  pub list_next : (is : List ℕ) (p : ℕ) (e : Extent) (r : Answer.Covered) → cover_all at is ≡ holds (square_of e) → CoveredTo e (floor (x_at at p)) (floor (y_at at p)) r → r.extent ≡ extent_of (cover_all at (is ++ p ∷ []))
  list_next is p e r u d = d.extent ∙ ap extent_of (ap (λ (c : Covered). cover_point c (floor (x_at at p)) (floor (y_at at p))) (sym u) ∙ sym (cover_append at is (p ∷ [])))

  -- Every point of a list lies in its extent.
  pub list_lies : (i : ℕ) (is : List ℕ) → ((j : ℕ) → Memᴰ j (i ∷ is) → T (within (x_at at j)) × T (within (y_at at j))) → (j : ℕ) → Memᴰ j (i ∷ is) → Inside at (extent_of (cover_all at (i ∷ is))) j
  list_lies i is h j m =
      let n = in_range (i ∷ is) h in
      let (k, u) = list_reachable i is (extent_of (cover_all at (i ∷ is))) n refl in
      let w = inside_lies (record { reachable = k; across = (h j m).0; along = (h j m).1 }) (cover_inside at (i ∷ is) (square_of (extent_of (cover_all at (i ∷ is)))) n u j m) in
      record { x = w.across; y = w.along }
