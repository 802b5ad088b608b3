-- The short way round: each computed step is the one short step, the computed outline the one outline, and it closes exactly when its steps add up to 0. Assumes nothing.
use mathlib.Core.Path.{◌≡◌, refl, sym, ap, ap₂, ◌∙◌, subst}
use mathlib.Core.Bool.{Bool, true, and-eq-true_iff}
use mathlib.Core.List.{List, [], ◌∷◌, ◌++◌}
use Prim.Native.Nat.{ℕ, zero, suc, ◌+◌, ◌-◌, ◌*◌, ◌/◌, ◌%◌, ◌≤◌, ◌<◌}
use native.Mathlib.Omega.{arith}
use borrow.Author.Tests.{leb-true}
use lib.Dec.{leb}
use lib.IntN.{ℤ, pos, negsuc, neg_ℤ, nat_abs, ◌+ℤ◌, ◌-ℤ◌, ◌*ℤ◌, +ℤ_assoc, +ℤ_idr}
use lib.Signed.{le_z}
use lib.ListN.{length, get_or}
use Rattle.rules.specs.Plain.{eq_z}
use Rattle.rules.specs.Outcome.{Check, require, check_from, ◌then◌, ◌>>=◌}
use Rattle.rules.specs.Refusal.{most_corners, count_check, lengths_check}
use Rattle.rules.specs.Outline.{half_turn, turn, longitude_range, mod_turn, short_step, short_way, outline, last_from, closes, outline_check, Equivalent, Short, IsOutline, Closed, steps_to, steps_round, total, SameMeridian, SameMeridians}
use Rattle.rules.proofs.Signs.{above, under, same, le_parts, parts_le, lt_parts, parts_lt, sum-parts, neg_above, neg_under, difference_parts, multiple-parts, size-add, eq_z_true, eq_z_refl}

-- ---- equivalents

-- whole turns apart, by their parts
apart_parts : {a b : ℤ} (e : Equivalent a b) → above b + (under a + under e.count * turn) ≡ under b + (above a + above e.count * turn)
apart_parts {a} {b} e =
    let m = multiple-parts e.count turn in
    let s = sum-parts a (e.count *ℤ pos turn) in
    subst (λ (b : ℤ). above b + (under a + under e.count * turn) ≡ under b + (above a + above e.count * turn)) (sym e.apart) (omega (arith, m.0, m.1, s))

parts-apart : (a b k : ℤ) → above b + (under a + under k * turn) ≡ under b + (above a + above k * turn) → Equivalent a b
parts-apart a b k h =
    let m = multiple-parts k turn in
    record { count = k; apart = same b (a +ℤ k *ℤ pos turn) (omega (arith, h, m.0, m.1, sum-parts a (k *ℤ pos turn))) }

pub equivalent_back : {a b : ℤ} → Equivalent a b → Equivalent b a
equivalent_back {a} {b} e = parts-apart b a (neg_ℤ e.count) (omega (arith, apart_parts e, neg_above e.count, neg_under e.count))

pub equivalent_on : {a b c : ℤ} → Equivalent a b → Equivalent b c → Equivalent a c
equivalent_on {a} {b} {c} e f = parts-apart a c (e.count +ℤ f.count) (omega (arith, apart_parts e, apart_parts f, sum-parts e.count f.count))

-- ---- longitudes

pub longitude_size : (a : ℤ) → longitude_range a ≡ true → nat_abs a ≤ half_turn
unfolding longitude_range
longitude_size (pos n) h = leb-true n half_turn ((and-eq-true_iff (le_z (neg_ℤ (pos half_turn)) (pos n)) (le_z (pos n) (pos half_turn))).0 h).1
longitude_size (negsuc n) h = omega (arith, leb-true n 1799999999 ((and-eq-true_iff (le_z (neg_ℤ (pos half_turn)) (negsuc n)) (le_z (negsuc n) (pos half_turn))).0 h).0)

-- -180 degrees and 180 are the same meridian
seam : SameMeridian (neg_ℤ (pos half_turn)) (pos half_turn)
unfolding longitude_range
seam = (record { count = pos 1; apart = refl }, refl)

meridians_self : (l : List ℤ) → SameMeridians l l
meridians_self [] = tt
meridians_self (a ∷ l) = ((parts-apart a a (pos 0) (omega arith), refl), meridians_self l)

-- so corners that differ in one of these two alone are the same meridians
pub seam-at : (l m : List ℤ) → SameMeridians (l ++ neg_ℤ (pos half_turn) ∷ m) (l ++ pos half_turn ∷ m)
seam-at [] m = (seam, meridians_self m)
seam-at (a ∷ l) m = ((parts-apart a a (pos 0) (omega arith), refl), seam-at l m)

-- ---- the short step

past : (z : ℤ) → Equivalent z (pos (mod_turn z)) × (mod_turn z < turn)
unfolding mod_turn
past (pos n) = (parts-apart (pos n) (pos (n % turn)) (neg_ℤ (pos (n / turn))) (omega (arith, neg_above (pos (n / turn)), neg_under (pos (n / turn)))), omega arith)
past (negsuc n) = (parts-apart (negsuc n) (pos (turn - 1 - n % turn)) (pos (n / turn + 1)) (omega arith), omega arith)

short-parts : {s : ℤ} → Short s → (under s ≤ half_turn + above s) × (above s < under s + half_turn)
short-parts {s} h = (omega (arith, le_parts (neg_ℤ (pos half_turn)) s h.from), omega (arith, lt_parts s (pos half_turn) h.below))

parts-short : (s : ℤ) → under s ≤ half_turn + above s → above s < under s + half_turn → Short s
parts-short s h k = record { from = parts_le (neg_ℤ (pos half_turn)) s (omega arith); below = parts_lt s (pos half_turn) (omega arith) }

pub short-size : (s : ℤ) → Short s → nat_abs s ≤ half_turn
short-size (pos n) h = omega (arith, short-parts h)
short-size (negsuc n) h = omega (arith, short-parts h)

-- it is short,
pub step-short : (p a : ℤ) → Short (short_step p a)
unfolding short_step
step-short p a =
    let r = mod_turn (a -ℤ p +ℤ pos half_turn) in
    let d = difference_parts (pos r) (pos half_turn) in
    let few = (past (a -ℤ p +ℤ pos half_turn)).1 in
    parts-short (pos r -ℤ pos half_turn) (omega (arith, d)) (omega (arith, d, few))

-- leads to an equivalent of a,
pub way_equivalent : (p a : ℤ) → Equivalent a (short_way p a)
unfolding short_step short_way
way_equivalent p a =
    let z = a -ℤ p +ℤ pos half_turn in
    let e = (past z).0 in
    let s = pos (mod_turn z) -ℤ pos half_turn in
    parts-apart a (p +ℤ s) e.count
    (omega (arith, apart_parts e, difference_parts a p, sum-parts (a -ℤ p) (pos half_turn), difference_parts (pos (mod_turn z)) (pos half_turn), sum-parts p s))

-- and two short steps between which whole turns lie are the same.
short_only : (s t : ℤ) → Short s → Short t → Equivalent s t → s ≡ t
short_only s t h k e = go e.count (apart_parts e)
  where
    go : (n : ℤ) → above t + (under s + under n * turn) ≡ under t + (above s + above n * turn) → s ≡ t
    go (pos zero) q = same s t (omega arith)
    go (pos (suc n)) q = absurd (omega (arith, short-parts h, short-parts k))
    go (negsuc n) q = absurd (omega (arith, short-parts h, short-parts k))

pub way_step : (p a : ℤ) → short_way p a -ℤ p ≡ short_step p a
unfolding short_way
way_step p a = same (p +ℤ short_step p a -ℤ p) (short_step p a) (omega (arith, difference_parts (p +ℤ short_step p a) p, sum-parts p (short_step p a)))

way_parts : (p a : ℤ) → above (short_way p a) + (under p + under (short_step p a)) ≡ under (short_way p a) + (above p + above (short_step p a))
unfolding short_way
way_parts p a = sum-parts p (short_step p a)

pub step_equivalent : (p a : ℤ) → Equivalent a (p +ℤ short_step p a)
unfolding short_way
step_equivalent p a = way_equivalent p a

-- It is the only way to an equivalent of a by a short step from p.
pub way_only : (p a u : ℤ) → Equivalent a u → Short (u -ℤ p) → u ≡ short_way p a
way_only p a u e h =
    let f = way_equivalent p a in
    let s : u -ℤ p ≡ short_step p a = short_only (u -ℤ p) (short_step p a) h (step-short p a)
    (parts-apart (u -ℤ p) (short_step p a) (f.count -ℤ e.count)
    (omega (arith, apart_parts e, apart_parts f, way_parts p a, difference_parts f.count e.count, difference_parts u p))) in
    same u (short_way p a) (omega (arith, way_parts p a, difference_parts u p, ap above s, ap under s))

pub step_only : (p a s : ℤ) → Short s → Equivalent a (p +ℤ s) → s ≡ short_step p a
step_only p a s h e =
    let back : p +ℤ s -ℤ p ≡ s = same (p +ℤ s -ℤ p) s (omega (arith, difference_parts (p +ℤ s) p, sum-parts p s)) in
    sym back ∙ ap (λ (u : ℤ). u -ℤ p) (way_only p a (p +ℤ s) e (subst Short (sym back) h)) ∙ way_step p a

-- The step is the same from an equivalent of p,
pub step_same : (p q a : ℤ) → Equivalent p q → short_step p a ≡ short_step q a
step_same p q a e =
    let f = way_equivalent p a in
    let g = way_equivalent q a in
    short_only (short_step p a) (short_step q a) (step-short p a) (step-short q a)
    (parts-apart (short_step p a) (short_step q a) (g.count -ℤ f.count -ℤ e.count)
    (omega (arith, apart_parts e, apart_parts f, apart_parts g, way_parts p a, way_parts q a, difference_parts g.count f.count, difference_parts (g.count -ℤ f.count) e.count)))

-- and the way is the same to one of a.
pub way_same : (p a b : ℤ) → Equivalent a b → short_way p a ≡ short_way p b
way_same p a b e =
    way_only p b (short_way p a) (equivalent_on (equivalent_back e) (way_equivalent p a)) (subst Short (sym (way_step p a)) (step-short p a))

pub way-size : (p a : ℤ) → nat_abs (short_way p a) ≤ nat_abs p + half_turn
unfolding short_way
way-size p a = omega (arith, size-add p (short_step p a), short-size (short_step p a) (step-short p a))

-- ---- the outline

-- The computed outline is one,
pub outline-is : (p : ℤ) (l : List ℤ) → IsOutline p l (outline p l)
unfolding outline
outline-is p [] = tt
outline-is p (a ∷ l) = (way_equivalent p a, subst Short (sym (way_step p a)) (step-short p a), outline-is (short_way p a) l)

-- and it is the only one.
pub outline_only : (p : ℤ) (l us : List ℤ) → IsOutline p l us → us ≡ outline p l
unfolding outline
outline_only p [] [] h = refl
outline_only p [] (u ∷ us) h = absurd h
outline_only p (a ∷ l) [] h = absurd h
outline_only p (a ∷ l) (u ∷ us) h =
    let e : u ≡ short_way p a = way_only p a u h.0 h.1 in
    ap₂ (λ (v : ℤ) (vs : List ℤ). v ∷ vs) e (outline_only u l us h.2 ∙ ap (λ (v : ℤ). outline v l) e)

pub outline-length : (p : ℤ) (l : List ℤ) → length (outline p l) ≡ length l
unfolding outline
outline-length p [] = refl
outline-length p (a ∷ l) = ap suc (outline-length (short_way p a) l)

-- Corners on the same meridians have the same outline.
pub outline-same : (p : ℤ) (l m : List ℤ) → SameMeridians l m → outline p l ≡ outline p m
unfolding outline
outline-same p [] [] h = refl
outline-same p [] (b ∷ m) h = absurd h
outline-same p (a ∷ l) [] h = absurd h
outline-same p (a ∷ l) (b ∷ m) h =
    let e = way_same p a b h.0.0 in
    ap₂ (λ (v : ℤ) (vs : List ℤ). v ∷ vs) e (outline-same (short_way p a) l m h.1 ∙ ap (λ (v : ℤ). outline v m) e)

-- Each number lies at most half a turn for each corner up to its own away from p.
pub outline-within : (p : ℤ) (l : List ℤ) (i : ℕ) → i < length l → nat_abs (get_or (outline p l) i (pos 0) -ℤ p) ≤ half_turn * (i + 1)
unfolding outline
outline-within p [] i h = absurd (omega arith)
outline-within p (a ∷ l) zero h = subst (λ (s : ℤ). nat_abs s ≤ half_turn * 1) (sym (way_step p a)) (omega (arith, short-size (short_step p a) (step-short p a)))
outline-within p (a ∷ l) (suc i) h =
    let u = short_way p a in
    let v = get_or (outline u l) i (pos 0) in
    let e : v -ℤ p ≡ v -ℤ u +ℤ short_step p a = same (v -ℤ p) (v -ℤ u +ℤ short_step p a) (omega (arith, difference_parts v p, difference_parts v u, sum-parts (v -ℤ u) (short_step p a), way_parts p a)) in
    subst (λ (z : ℤ). nat_abs z ≤ half_turn * (suc i + 1)) (sym e)
    (omega (arith, size-add (v -ℤ u) (short_step p a), short-size (short_step p a) (step-short p a), outline-within u l i (omega arith)))

-- The last of them, as far from 0 as p at most, and half a turn for each corner.
pub last-size : (p : ℤ) (l : List ℤ) → nat_abs (last_from p (outline p l)) ≤ nat_abs p + half_turn * length l
unfolding outline
last-size p [] = omega arith
last-size p (a ∷ l) = omega (arith, last-size (short_way p a) l, way-size p a)

-- ---- closing

-- The closing step leads to the first number and what the short steps all the way round add up to.
closing-way : (p u first : ℤ) (l : List ℤ) → Equivalent p u → short_way (last_from u (outline u l)) first ≡ u +ℤ total (steps_to first p l)
unfolding outline short_way
closing-way p u first [] e = ap (λ (s : ℤ). u +ℤ s) (step_same u p first (equivalent_back e) ∙ sym (+ℤ_idr (short_step p first)))
closing-way p u first (b ∷ l) e =
    closing-way b (short_way u b) first l (way_equivalent u b)
    ∙ ap (λ (s : ℤ). u +ℤ s +ℤ total (steps_to first b l)) (step_same u p b (equivalent_back e))
    ∙ +ℤ_assoc u (short_step p b) (total (steps_to first b l))

-- It returns to the first number exactly when they add up to 0,
pub closes-sum : (c : ℤ) (l : List ℤ) → closes c l ≡ true → total (steps_round l) ≡ pos 0
unfolding closes
closes-sum c [] h = refl
closes-sum c (a ∷ l) h =
    let u = short_way c a in
    let t = total (steps_to a a l) in
    let e : u +ℤ t ≡ u = sym (closing-way a u a l (way_equivalent c a)) ∙ eq_z_true (short_way (last_from u (outline u l)) a) u h in
    same t (pos 0) (omega (arith, sum-parts u t, ap above e, ap under e))

pub sum-closes : (c : ℤ) (l : List ℤ) → total (steps_round l) ≡ pos 0 → closes c l ≡ true
unfolding closes
sum-closes c [] h = refl
sum-closes c (a ∷ l) h =
    let u = short_way c a in
    let e : short_way (last_from u (outline u l)) a ≡ u = closing-way a u a l (way_equivalent c a) ∙ ap (λ (s : ℤ). u +ℤ s) h ∙ +ℤ_idr u in
    subst (λ (v : ℤ). eq_z v u ≡ true) (sym e) (eq_z_refl u)

-- and then it is a short step.
pub closes-short : (c : ℤ) (l : List ℤ) → closes c l ≡ true → Closed (outline c l)
unfolding outline closes
closes-short c [] h = tt
closes-short c (a ∷ l) h =
    let u = short_way c a in
    let p = last_from u (outline u l) in
    let e : short_way p a ≡ u = eq_z_true (short_way p a) u h in
    subst (λ (v : ℤ). Short (v -ℤ p)) e (subst Short (sym (way_step p a)) (step-short p a))

-- Corners on the same meridians close alike.
pub closes-same : (c : ℤ) (l m : List ℤ) → SameMeridians l m → closes c l ≡ closes c m
unfolding closes
closes-same c [] [] h = refl
closes-same c [] (b ∷ m) h = absurd h
closes-same c (a ∷ l) [] h = absurd h
closes-same c (a ∷ l) (b ∷ m) h =
    let e = way_same c a b h.0.0 in
    let last : ℤ → ℤ = λ u. last_from u (outline u m) in
    ap (λ (us : List ℤ). eq_z (short_way (last_from (short_way c a) us) a) (short_way c a)) (outline-same (short_way c a) l m h.1)
    ∙ ap (λ (v : ℤ). eq_z v (short_way c a)) (way_same (last (short_way c a)) a b h.0.0)
    ∙ ap (λ (u : ℤ). eq_z (short_way (last u) b) u) e

-- ---- the checks of corners on the same meridians

meridians_length : (l m : List ℤ) → SameMeridians l m → length l ≡ length m
meridians_length [] [] h = refl
meridians_length [] (b ∷ m) h = absurd h
meridians_length (a ∷ l) [] h = absurd h
meridians_length (a ∷ l) (b ∷ m) h = ap suc (meridians_length l m h.1)

ranges-same : (i : ℕ) (l m : List ℤ) → SameMeridians l m → check_from (λ i a. require (longitude_range a) 5 i) i l ≡ check_from (λ i a. require (longitude_range a) 5 i) i m
ranges-same i [] [] h = refl
ranges-same i [] (b ∷ m) h = absurd h
ranges-same i (a ∷ l) [] h = absurd h
ranges-same i (a ∷ l) (b ∷ m) h =
    ap₂ (λ (t : Bool) (c : Check). require t 5 i >>= λ _. c) h.0.1 (ranges-same (i + 1) l m h.1)

pub check-same : (l m : List ℤ) (c : ℤ) (room : ℕ) → SameMeridians l m → outline_check l c room ≡ outline_check m c room
unfolding outline_check
check-same l m c room h =
    ap₂ (λ (n : ℕ) (k : Check). count_check most_corners n then lengths_check (leb n room) then k then require (longitude_range c) 5 0) (meridians_length l m h) (ranges-same 0 l m h)
