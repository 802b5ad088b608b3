-- The extent of more points contains that of the first of them: as squares of whole numbers, and as cells. Assumes nothing.
use mathlib.Core.Path.{◌≡◌, refl, sym, ap, ◌∙◌, subst}
use mathlib.Core.Bool.{true, ◌&&◌}
use mathlib.Core.List.{List, ◌∷◌, ◌++◌}
use Prim.Native.Nat.{ℕ, zero, suc, ◌+◌, ◌-◌, ◌≤◌, ◌<◌}
use native.Mathlib.Omega.{arith}
use native.Mathlib.Nat.{zero-add, add-zero}
use lib.Dec.{T}
use lib.Ieee.{Float, le, lt}
use Rattle.rules.specs.declared.Extent.{Extent}
use Rattle.rules.specs.Plain.{count_from, up_to}
use Rattle.rules.specs.Number.{within, place_range}
use Rattle.rules.specs.Floor.{floor}
use Rattle.rules.specs.Cover.{Square, holds, cover_all, cover_first, extent_of}
use Rattle.rules.specs.Terms.{in_cell, Contains}
use Rattle.rules.proofs.CellList.{left, right}
use Rattle.rules.proofs.CoverTerms.{AllNear}
use Rattle.rules.proofs.Cover.{contains_inside, cover_contains}
use Rattle.tree_cells.specs.Cover.{square_of, Reachable}
use Rattle.tree_cells.proofs.CoverLaws.{Lies, inside_lies, lies_inside, in_range, list_reachable}
use Rattle.tree_cells.proofs.Prefix.{InRange, in_T, member_less}

count-more : (a m d : ℕ) → count_from a (m + d) ≡ count_from a m ++ count_from (a + m) d
count-more a zero d = rw (zero-add d, add-zero a)
count-more a (suc m) d =
    let e : suc m + d ≡ suc (m + d) = omega arith in
    let f : a + 1 + m ≡ a + suc m = omega arith in
    ap (count_from a) e ∙ ap (λ (l : List ℕ). a ∷ l) (count-more (a + 1) m d ∙ ap (λ (b : ℕ). count_from (a + 1) m ++ count_from b d) f)

cell_lies : (c : Extent) (x y : Float) → in_cell c x y ≡ true → Lies c x y
cell_lies c x y h =
    let p = le c.x0 x in
    let q = lt x c.x1 in
    let r = le c.y0 y in
    let u = lt y c.y1 in
    let pqr = left (p && q && r) u h in
    let pq = left (p && q) r pqr in
    record { across = record { low = left p q pq; high = right p q pq }; along = record { low = right (p && q) r pqr; high = right (p && q && r) u h } }

module _ (at : List Float) where
  near : (k m : ℕ) → InRange at (k + m) → AllNear at (count_from k m)
  near k m r = in_range at (count_from k m) (λ i h. in_T at i (r i (member_less k m i h)))

  reached : (m : ℕ) → InRange at m → 0 < m → Reachable (extent_of (cover_first at m)) × (cover_first at m ≡ holds (square_of (extent_of (cover_first at m))))
  reached zero r l = absurd (omega arith)
  reached (suc k) r l = list_reachable at 0 (count_from 1 k) (extent_of (cover_first at (suc k))) (near 0 (suc k) (λ i h. r i (omega arith))) refl

  module _ (m n : ℕ) (r : InRange at n) (some : 0 < m) (few : m ≤ n) where
    abbrev narrow : Extent
    narrow = extent_of (cover_first at m)

    abbrev wide : Extent
    wide = extent_of (cover_first at n)

    one : Reachable narrow × (cover_first at m ≡ holds (square_of narrow))
    one = reached m (λ i l. r i (omega arith)) some

    two : Reachable wide × (cover_first at n ≡ holds (square_of wide))
    two = reached n r (omega arith)

    contains : Contains (square_of wide) (square_of narrow)
    contains =
        let e : m + (n - m) ≡ n = omega arith in
        cover_contains at (up_to m) (count_from (0 + m) (n - m)) (square_of narrow) (square_of wide) (near 0 m (λ i l. r i (omega arith))) (near (0 + m) (n - m) (λ i l. r i (omega arith))) one.1
        (ap (cover_all at) (sym (count-more 0 m (n - m)) ∙ ap up_to e) ∙ two.1)

    pub widens : (a b : Square) × (cover_first at m ≡ holds a) × (cover_first at n ≡ holds b) × Contains b a
    widens = (square_of narrow, square_of wide, one.1, two.1, contains)

    pub wider : (x y : Float) → place_range x y ≡ true → in_cell narrow x y ≡ true → in_cell wide x y ≡ true
    wider x y p h =
        let across = subst T (sym (left (within x) (within y) p)) tt in
        let along = subst T (sym (right (within x) (within y) p)) tt in
        let w = inside_lies (record { reachable = two.0; across = across; along = along }) (contains_inside (floor x) (floor y) contains (lies_inside (record { reachable = one.0; across = across; along = along }) (cell_lies narrow x y h))) in
        rw (w.across.low, w.across.high, w.along.low, w.along.high)
