-- The ends of an extent that covering can reach are whole floats, so each comparison, sum and middle of them is that of the whole numbers. Assumes nothing.
use Rattle.std.proofs.Common.{◌≡◌, ℕ, zero, suc, ◌+◌, ◌*◌, ◌/◌, ◌^◌, ◌<◌, ◌≤◌, Bool, true, false, cond, not, ◌&&◌, ◌||◌, T, List, ℤ, pos, negsuc, ◌+ℤ◌, ◌-ℤ◌, neg_ℤ, nat_abs, sym, refl, ap, ◌∙◌, subst, ap₂, true≢false, le_trans, le_of_eq, le_refl, le_antisymm, mul-one, le_of_mul-le-mul_right, mul-div_cancel, arith, lit≤, pow_mono}
use mathlib.Core.Bool.{false≢true}
use lib.IntN.{+ℤ_assoc, +ℤ_comm}
use lib.Signed.{lt_z, le_z}
use lib.Ieee.{Float, nan, inf, fin, up, down, lt, le}
use lib.Ieee.Fits.{down_pos}
use Rattle.rules.specs.declared.Extent.{Extent}
use Rattle.rules.specs.Number.{◌⊕◌, ◌⊖◌, 1·, within}
use Rattle.rules.specs.Floor.{floor, ceiling}
use Rattle.rules.specs.Cell.{cell, middle, quarter}
use Rattle.rules.specs.Cover.{Square, inside, old_quadrant, grown, holds, nothing, cover_point, whole, extent_of}
use Rattle.rules.proofs.Floor.{ceiling_ge, ceiling-least}
use Rattle.rules.proofs.CoverTerms.{quarter_of, Doubling, side, next, Held, NearZero}
use Rattle.rules.proofs.CoverSquare.{same-square, twice, sided_side}
use Rattle.rules.proofs.Cover.{held_sided, held-near, held_most, next-held, next-doubling}
use Rattle.rules.proofs.CoverCount.{not-above}
use Rattle.number.proofs.Order.{flip}
use Rattle.number.proofs.Integers.{HasInt, of_int_has, add_int, sub_int, middle_int}
use Rattle.number.proofs.Flooring.{floor_le, floor_lt, floor-within, within-finite}
use Rattle.tree_cells.specs.declared.cover.Doubled.{Doubled}
use Rattle.tree_cells.specs.Cover.{square_of, Reachable, Near, DoubledTo}

-- ---- whole numbers as floats

pub whole_has : (z : ℤ) → nat_abs z ≤ 2 ^ 44 → HasInt (whole z) z
whole_has z h = of_int_has 44 z (lit≤ tt) (record { within = h })

-- the floor of a float that is a whole number is that number
floor_int : (x : Float) (z : ℤ) → HasInt x z → floor x ≡ z
unfolding floor
floor_int nan z h = absurd h
floor_int (inf s) z h = absurd h
floor_int (fin false m e) (pos n) h = ap pos (ap (λ (v : ℕ). v / down e) (sym (mul-one (m * up e)) ∙ h.1) ∙ mul-div_cancel n (down_pos e))
floor_int (fin false m e) (negsuc n) h = absurd (false≢true h.0)
floor_int (fin true m e) (pos n) h = absurd (true≢false h.0)
floor_int (fin true m e) (negsuc n) h = ap (λ (c : ℕ). neg_ℤ (pos c)) (ap (λ (v : ℕ). ceiling v (down e)) (sym (mul-one (m * up e)) ∙ h.1) ∙ exact (suc n) (down e) (down_pos e))
  where
    exact : (a d : ℕ) → 0 < d → ceiling (a * d) d ≡ a
    exact a d D = le_antisymm (ceiling-least (a * d) d a D (le_refl (a * d))) (le_of_mul-le-mul_right (ceiling_ge (a * d) d D) D)

-- ---- an extent and its square

square-at : (s : Square) → NearZero s → square_of (extent_of (holds s)) ≡ s
unfolding square_of extent_of
square-at s h = same-square (floor_int (whole s.x0) s.x0 (whole_has s.x0 h.x0)) (floor_int (whole s.y0) s.y0 (whole_has s.y0 h.y0)) (floor_int (whole s.x1) s.x1 (whole_has s.x1 h.x1)) (floor_int (whole s.y1) s.y1 (whole_has s.y1 h.y1))

module _ (s : Square) (fs : List (ℤ × ℤ)) (h : Held s fs) where
  pub square-back : square_of (extent_of (holds s)) ≡ s
  square-back = square-at s (held-near h)

  pub reachable : Reachable (extent_of (holds s))
  reachable = record { is = ap (λ (t : Square). extent_of (holds t)) (sym square-back); floors = fs; held = subst (λ (t : Square). Held t fs) (sym square-back) h }

module _ {e : Extent} (h : Reachable e) where
  ends : NearZero (square_of e)
  ends = held-near h.held

  pub x0_is : e.x0 ≡ whole (square_of e).x0
  unfolding extent_of
  x0_is = ap (λ (c : Extent). c.x0) h.is

  pub y0_is : e.y0 ≡ whole (square_of e).y0
  unfolding extent_of
  y0_is = ap (λ (c : Extent). c.y0) h.is

  pub x1_is : e.x1 ≡ whole (square_of e).x1
  unfolding extent_of
  x1_is = ap (λ (c : Extent). c.x1) h.is

  pub y1_is : e.y1 ≡ whole (square_of e).y1
  unfolding extent_of
  y1_is = ap (λ (c : Extent). c.y1) h.is

pub has : {x : Float} (z : ℤ) → x ≡ whole z → nat_abs z ≤ 2 ^ 44 → HasInt x z
has {x} z e h = subst (λ (v : Float). HasInt v z) (sym e) (whole_has z h)

module _ {e : Extent} (h : Reachable e) where
  pub x0_has : HasInt e.x0 (square_of e).x0
  x0_has = has (square_of e).x0 (x0_is h) (ends h).x0

  pub y0_has : HasInt e.y0 (square_of e).y0
  y0_has = has (square_of e).y0 (y0_is h) (ends h).y0

  pub x1_has : HasInt e.x1 (square_of e).x1
  x1_has = has (square_of e).x1 (x1_is h) (ends h).x1

  pub y1_has : HasInt e.y1 (square_of e).y1
  y1_has = has (square_of e).y1 (y1_is h) (ends h).y1

-- ---- a point against the ends

module _ {e : Extent} {x y : Float} (n : Near e x y) where
  before_x : lt x e.x0 ≡ lt_z (floor x) (square_of e).x0
  before_x = floor_lt x e.x0 (square_of e).x0 (within-finite x n.across) (x0_has n.reachable)

  before_y : lt y e.y0 ≡ lt_z (floor y) (square_of e).y0
  before_y = floor_lt y e.y0 (square_of e).y0 (within-finite y n.along) (y0_has n.reachable)

  after_x : le e.x1 x ≡ le_z (square_of e).x1 (floor x)
  after_x = floor_le x e.x1 (square_of e).x1 (within-finite x n.across) (x1_has n.reachable)

  after_y : le e.y1 y ≡ le_z (square_of e).y1 (floor y)
  after_y = floor_le y e.y1 (square_of e).y1 (within-finite y n.along) (y1_has n.reachable)

  outside_is : (lt x e.x0 || le e.x1 x) || (lt y e.y0 || le e.y1 y) ≡ not (inside (square_of e) (floor x) (floor y))
  outside_is =
      let s = square_of e in
      ap₂ ◌||◌ (ap₂ ◌||◌ (before_x ∙ flip (floor x) s.x0) (after_x ∙ not-above s.x1 (floor x))) (ap₂ ◌||◌ (before_y ∙ flip (floor y) s.y0) (after_y ∙ not-above s.y1 (floor y)))
      ∙ not-all (le_z s.x0 (floor x)) (lt_z (floor x) s.x1) (le_z s.y0 (floor y)) (lt_z (floor y) s.y1)
    where
      not-all : (p q r t : Bool) → (not p || not q) || (not r || not t) ≡ not (p && q && r && t)
      not-all true true true true = refl
      not-all true true true false = refl
      not-all true true false t = refl
      not-all true false r t = refl
      not-all false q r t = refl

  -- off the first axis
  pub outside_across : (r : Bool) → r ≡ (lt x e.x0 || le e.x1 x) → r ≡ true → r ≡ not (inside (square_of e) (floor x) (floor y))
  outside_across r a t = t ∙ ap (λ (p : Bool). p || (lt y e.y0 || le e.y1 y)) (sym t ∙ a) ∙ outside_is

  -- not off the first axis: the second decides
  pub outside_along : (r u : Bool) → r ≡ (lt x e.x0 || le e.x1 x) → r ≡ false → u ≡ (lt y e.y0 || le e.y1 y) → u ≡ not (inside (square_of e) (floor x) (floor y))
  outside_along r u a f b = b ∙ ap (λ (p : Bool). p || (lt y e.y0 || le e.y1 y)) (sym f ∙ a) ∙ outside_is

  pub old-quadrant-is : cond (lt y e.y0) 2 0 + cond (lt x e.x0) 1 0 ≡ old_quadrant (square_of e) (floor x) (floor y)
  old-quadrant-is = ap₂ (λ (t u : Bool). cond t 2 0 + cond u 1 0) before_y before_x

-- ---- one doubling

-- `grown`, in f64
abbrev pub moved : ℕ → Float → Extent → Extent
moved zero z e = cell e.x0 e.y0 (e.x0 ⊕ z) (e.y0 ⊕ z)
moved (suc zero) z e = cell (e.x1 ⊖ z) e.y0 e.x1 (e.y0 ⊕ z)
moved (suc (suc zero)) z e = cell e.x0 (e.y1 ⊖ z) (e.x0 ⊕ z) e.y1
moved (suc (suc (suc n))) z e = cell (e.x1 ⊖ z) (e.y1 ⊖ z) e.x1 e.y1

module _ {e : Extent} (h : Reachable e) where
  side-is : side (square_of e) ≡ pos (2 ^ h.held.log)
  side-is = sided_side (held_sided h.held)

  side-small : nat_abs (side (square_of e)) ≤ 2 ^ 44
  side-small = le_trans (le_of_eq (ap nat_abs side-is)) (pow_mono (more h.held.log (held_most h.held)))
    where
      more : (k : ℕ) → k ≤ 43 → k ≤ 44
      more k l = omega arith

  twice-small : nat_abs (side (square_of e) +ℤ side (square_of e)) ≤ 2 ^ 44
  twice-small = le_trans (le_of_eq (ap (λ (z : ℤ). nat_abs (z +ℤ z)) side-is ∙ sym (twice h.held.log))) (pow_mono (more h.held.log (held_most h.held)))
    where
      more : (k : ℕ) → k ≤ 43 → suc k ≤ 44
      more k l = omega arith

  -- the side, twice
  pub new_side : (e.x1 ⊖ e.x0) ⊕ (e.x1 ⊖ e.x0) ≡ whole (side (square_of e) +ℤ side (square_of e))
  new_side =
      let w : e.x1 ⊖ e.x0 ≡ whole (side (square_of e)) = sub_int e.x1 e.x0 (square_of e).x1 (square_of e).x0 (x1_has h) (x0_has h) in
      add_int (e.x1 ⊖ e.x0) (e.x1 ⊖ e.x0) (side (square_of e)) (side (square_of e)) (has (side (square_of e)) w side-small) (has (side (square_of e)) w side-small)

  module _ {z : Float} (Z : z ≡ whole (side (square_of e) +ℤ side (square_of e))) where
    z-has : HasInt z (side (square_of e) +ℤ side (square_of e))
    z-has = has (side (square_of e) +ℤ side (square_of e)) Z twice-small

    on : (x : Float) (a : ℤ) → HasInt x a → x ⊕ z ≡ whole (a +ℤ (side (square_of e) +ℤ side (square_of e)))
    on x a k = add_int x z a (side (square_of e) +ℤ side (square_of e)) k z-has

    back : (x : Float) (a : ℤ) → HasInt x a → x ⊖ z ≡ whole (a -ℤ (side (square_of e) +ℤ side (square_of e)))
    back x a k = sub_int x z a (side (square_of e) +ℤ side (square_of e)) k z-has

    pub moved-is : (q : ℕ) → moved q z e ≡ extent_of (holds (grown q (side (square_of e) +ℤ side (square_of e)) (square_of e)))
    unfolding extent_of
    moved-is zero = cc (x0_is h, y0_is h, on e.x0 (square_of e).x0 (x0_has h), on e.y0 (square_of e).y0 (y0_has h))
    moved-is (suc zero) = cc (x1_is h, y0_is h, back e.x1 (square_of e).x1 (x1_has h), on e.y0 (square_of e).y0 (y0_has h))
    moved-is (suc (suc zero)) = cc (x0_is h, y1_is h, on e.x0 (square_of e).x0 (x0_has h), back e.y1 (square_of e).y1 (y1_has h))
    moved-is (suc (suc (suc n))) = cc (x1_is h, y1_is h, back e.x1 (square_of e).x1 (x1_has h), back e.y1 (square_of e).y1 (y1_has h))

-- ---- the old square is a quarter of the doubled one, with exact middles

middle-at : (a b : ℤ) (z : ℕ) → nat_abs a ≤ 2 ^ 44 → nat_abs b ≤ 2 ^ 44 → b ≡ a +ℤ pos (z + z) → middle (whole a) (whole b) ≡ whole (a +ℤ pos z)
unfolding middle
middle-at a b z h k e = middle_int a b (a +ℤ pos z) (record { within = h }) (record { within = k }) (ap (a +ℤ◌) e ∙ regroup)
  where
    regroup : a +ℤ (a +ℤ pos (z + z)) ≡ (a +ℤ pos z) +ℤ (a +ℤ pos z)
    regroup = ap (a +ℤ◌) (sym (+ℤ_assoc a (pos z) (pos z)) ∙ +ℤ_comm (a +ℤ pos z) (pos z)) ∙ sym (+ℤ_assoc a (pos z) (a +ℤ pos z))

pub quarter-is : (q k : ℕ) (t s : Square) → Doubling q k t s → NearZero t → quarter q (extent_of (holds t)) ≡ extent_of (holds s)
quarter-is q k t s d h = go q ∙ ap (λ (u : Square). extent_of (holds u)) d.quarter
  where
    mid_x : middle (whole t.x0) (whole t.x1) ≡ whole (t.x0 +ℤ pos (2 ^ k))
    mid_x = middle-at t.x0 t.x1 (2 ^ k) h.x0 h.x1 (d.sided.wide ∙ ap (λ (n : ℕ). t.x0 +ℤ pos n) (twice k))

    mid_y : middle (whole t.y0) (whole t.y1) ≡ whole (t.y0 +ℤ pos (2 ^ k))
    mid_y = middle-at t.y0 t.y1 (2 ^ k) h.y0 h.y1 (d.sided.tall ∙ ap (λ (n : ℕ). t.y0 +ℤ pos n) (twice k))

    go : (q : ℕ) → quarter q (extent_of (holds t)) ≡ extent_of (holds (quarter_of q (2 ^ k) t))
    go zero = unfold quarter extent_of in cc (mid_x, mid_y)
    go (suc zero) = unfold quarter extent_of in cc (mid_x, mid_y)
    go (suc (suc zero)) = unfold quarter extent_of in cc (mid_x, mid_y)
    go (suc (suc (suc n))) = unfold quarter extent_of in cc (mid_x, mid_y)

-- ---- the first extent

one-is : 1· ≡ whole (pos 1)
unfolding lib.Ieee.of_bits lib.Ieee.of_int lib.Ieee.round
one-is = refl

pub first-is : (x y : Float) → T (within x) → T (within y) → cell (whole (floor x)) (whole (floor y)) (whole (floor x) ⊕ 1·) (whole (floor y) ⊕ 1·) ≡ extent_of (cover_point nothing (floor x) (floor y))
unfolding extent_of cover_point
first-is x y h k = cc (up_one x h, up_one y k)
  where
    one_has : HasInt 1· (pos 1)
    one_has = has (pos 1) one-is (lit≤ tt)

    up_one : (x : Float) → T (within x) → whole (floor x) ⊕ 1· ≡ whole (floor x +ℤ pos 1)
    up_one x h = add_int (whole (floor x)) 1· (floor x) (pos 1) (of_int_has 40 (floor x) (lit≤ tt) (floor-within x h)) one_has

-- ---- what a doubling answers

module _ {e : Extent} {x y : Float} (n : Near e x y) where
  pub near_x : nat_abs (floor x) ≤ 2 ^ 40
  near_x = (floor-within x n.across).within

  pub near_y : nat_abs (floor y) ≤ 2 ^ 40
  near_y = (floor-within y n.along).within

module _ {e : Extent} {x y : Float} (n : Near e x y) (out : inside (square_of e) (floor x) (floor y) ≡ false) where
  after : (h : Held (next (square_of e) (floor x) (floor y)) n.reachable.floors) × (h.log ≡ suc n.reachable.held.log)
  after = next-held n.reachable.held (floor x) (floor y) (near_x n) (near_y n) out

  pub doubled-to : (r : Doubled) → r.quadrant ≡ old_quadrant (square_of e) (floor x) (floor y) → r.extent ≡ extent_of (holds (grown r.quadrant (side (square_of e) +ℤ side (square_of e)) (square_of e))) → DoubledTo e (floor x) (floor y) r
  doubled-to r q g =
      let s = square_of e in
      let t = next s (floor x) (floor y) in
      let to : r.extent ≡ extent_of (holds t) = g ∙ ap (λ (i : ℕ). extent_of (holds (grown i (side s +ℤ side s) s))) q in
      record {
        extent = to;
        quadrant = q;
        old = ap₂ quarter q to ∙ quarter-is (old_quadrant s (floor x) (floor y)) n.reachable.held.log t s (next-doubling n.reachable.held (floor x) (floor y) (near_x n) (near_y n) out) (held-near after.0) ∙ sym n.reachable.is;
        reachable = subst Reachable (sym to) (reachable t n.reachable.floors after.0);
      }

  -- the square of the doubled extent
  pub doubled-square : {r : Doubled} → DoubledTo e (floor x) (floor y) r → square_of r.extent ≡ next (square_of e) (floor x) (floor y)
  doubled-square {r} d = ap square_of d.extent ∙ square-back (next (square_of e) (floor x) (floor y)) n.reachable.floors after.0
