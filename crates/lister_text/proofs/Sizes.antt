-- How long the lines of a listing are. Assumes nothing.
use mathlib.Core.Path.{◌≡◌, refl, ap, ◌∙◌}
use mathlib.Core.List.{List, [], ◌∷◌, ◌++◌, map}
use Prim.Native.Nat.{ℕ, zero, suc, ◌+◌, ◌*◌, ◌^◌, ◌≤◌, ◌<◌, min}
use native.Mathlib.Nat.{le_trans, lt_of_le_of_lt}
use native.Mathlib.Omega.{arith}
use lib.IntN.{ℤ, pos, negsuc, nat_abs}
use lib.Dec.{lit≤, lit<}
use lib.ListN.{length, take, drop, length-append, length-take}
use Rattle.rules.specs.declared.Extent.{Extent}
use Rattle.rules.specs.Cover.{Square, Covered, nothing, holds}
use Rattle.rules.specs.Tree.{Tree, none, leaf, node, nodes, Row, rows_from, rows_of, chains_of}
use Rattle.rules.specs.Listing.{ascii, decimal, signed, row_letter, line, extent_line, row_lines, most_listed}
use Rattle.rules.proofs.CoverTerms.{NearZero}
use Rattle.lister_text.specs.Text.{other_words}
use Rattle.lister_text.specs.Told.{chained, Covers, Listed}
use Rattle.lister_text.specs.Input.{listing_bytes}
use Rattle.lister_text.proofs.Decimal.{decimal-length, decimal_most}
use Rattle.tree_slots.specs.Trees.{Below}
use Rattle.lister_text.proofs.Rows.{row_line}
use Rattle.tree_rows.proofs.ListRows.{rows_count}

-- ---- numbers of at most four digits

abbrev Low : List ℕ → Type 0
Low l = Below (10 ^ 4) l

pub below_more : (m n : ℕ) → m ≤ n → (l : List ℕ) → Below m l → Below n l
below_more m n h [] b = tt
below_more m n h (i ∷ l) b = (le_trans b.0 h, below_more m n h l b.1)

low-take : (k : ℕ) (l : List ℕ) → Low l → Low (take k l)
low-take zero l h = tt
low-take (suc k) [] h = tt
low-take (suc k) (n ∷ l) h = (h.0, low-take k l h.1)

low-drop : (k : ℕ) (l : List ℕ) → Low l → Low (drop k l)
low-drop zero l h = h
low-drop (suc k) [] h = tt
low-drop (suc k) (n ∷ l) h = low-drop k l h.1

others-length : (l : List ℕ) → Low l → length (other_words (map decimal l)) ≤ 1 + 5 * length l
others-length [] h = lit≤ tt
others-length (n ∷ l) h =
    let e : length (decimal n ++ other_words (map decimal l)) ≡ length (decimal n) + length (other_words (map decimal l)) = length-append (decimal n) (other_words (map decimal l)) in
    let f : length (decimal n) ≤ 4 = decimal-length 3 n h.0 in
    let g : length (other_words (map decimal l)) ≤ 1 + 5 * length l = others-length l h.1 in
    omega arith

-- ---- a row

kind-length : (k : ℕ) → length (row_letter k) ≤ 1
kind-length zero = lit≤ tt
kind-length (suc zero) = lit≤ tt
kind-length (suc (suc k)) = lit≤ tt

-- a level of at most five digits, a quadrant of one
pub record Slim (r : Row) : Type 0 where
  pub level : r.level < 10 ^ 5
  pub quadrant : r.quadrant < 10

row-length : (r : Row) (l : List ℕ) → Slim r → Low l → length (row_line r l) ≤ 10 + 5 * length l
row-length r l s h =
    let e : length (row_line r l) ≡ length (decimal r.level) + suc (length (decimal r.quadrant) + suc (length (row_letter r.kind) + length (other_words (map decimal l)))) =
    length-append (decimal r.level) _
    ∙ ap (λ (n : ℕ). length (decimal r.level) + suc n) (length-append (decimal r.quadrant) _ ∙ ap (λ (n : ℕ). length (decimal r.quadrant) + suc n) (length-append (row_letter r.kind) _)) in
    let f : length (decimal r.level) ≤ 5 = decimal-length 4 r.level s.level in
    let g : length (decimal r.quadrant) ≤ 1 = decimal-length 0 r.quadrant s.quadrant in
    let i : length (row_letter r.kind) ≤ 1 = kind-length r.kind in
    let j : length (other_words (map decimal l)) ≤ 1 + 5 * length l = others-length l h in
    omega arith

-- ---- all rows

abbrev AllSlim : List Row → Type 0
AllSlim [] = Unit
AllSlim (r ∷ rs) = Slim r × AllSlim rs

slim_append : (a b : List Row) → AllSlim a → AllSlim b → AllSlim (a ++ b)
slim_append [] b h k = k
slim_append (r ∷ a) b h k = (h.0, slim_append a b h.1 k)

lines_length : (rs : List Row) (chains : List ℕ) → AllSlim rs → Low chains → length (row_lines rs chains) ≤ 10 * length rs + 5 * chained rs
lines_length [] chains s h = lit≤ tt
lines_length (r ∷ rs) chains s h =
    let n = r.chain in
    let e : length (row_lines (r ∷ rs) chains) ≡ length (row_line r (take n chains)) + length (row_lines rs (drop n chains)) = length-append (row_line r (take n chains)) (row_lines rs (drop n chains)) in
    let f : length (row_line r (take n chains)) ≤ 10 + 5 * length (take n chains) = row-length r (take n chains) s.0 (low-take n chains h) in
    let g : length (take n chains) ≡ min n (length chains) = length-take n chains in
    let i : length (row_lines rs (drop n chains)) ≤ 10 * length rs + 5 * chained rs = lines_length rs (drop n chains) s.1 (low-drop n chains h) in
    omega arith

-- ---- the rows of a tree

chained_append : (a b : List Row) → chained (a ++ b) ≡ chained a + chained b
chained_append [] b = omega arith
chained_append (r ∷ a) b = let e = chained_append a b in omega arith

module _ {A : Type 0} where
  pub rows_chained : (l q : ℕ) (t : Tree A) → chained (rows_from l q t) ≡ length (chains_of t)
  rows_chained l q none = refl
  rows_chained l q (leaf a is) = omega arith
  rows_chained l q (node a t0 t1 t2 t3) =
      let r0 = rows_from (l + 1) 0 t0 in
      let r1 = rows_from (l + 1) 1 t1 in
      let r2 = rows_from (l + 1) 2 t2 in
      let r3 = rows_from (l + 1) 3 t3 in
      let e : chained (r0 ++ r1 ++ r2 ++ r3) ≡ chained r0 + chained r1 + chained r2 + chained r3 = simp chained_append in
      let f : length (chains_of t0 ++ chains_of t1 ++ chains_of t2 ++ chains_of t3) ≡ length (chains_of t0) + length (chains_of t1) + length (chains_of t2) + length (chains_of t3) = simp length-append in
      let a0 = rows_chained (l + 1) 0 t0 in
      let a1 = rows_chained (l + 1) 1 t1 in
      let a2 = rows_chained (l + 1) 2 t2 in
      let a3 = rows_chained (l + 1) 3 t3 in
      omega arith

  -- no node is deeper than there are nodes
  rows_slim : (l q : ℕ) (t : Tree A) → l + nodes t ≤ 10 ^ 5 → q < 10 → AllSlim (rows_from l q t)
  rows_slim l q none h k = tt
  rows_slim l q (leaf a is) h k = (record { level = omega arith; quadrant = k }, tt)
  rows_slim l q (node a t0 t1 t2 t3) h k = (
    record { level = omega arith; quadrant = k },
    slim_append (rows_from (l + 1) 0 t0 ++ rows_from (l + 1) 1 t1 ++ rows_from (l + 1) 2 t2) (rows_from (l + 1) 3 t3)
        (slim_append (rows_from (l + 1) 0 t0 ++ rows_from (l + 1) 1 t1) (rows_from (l + 1) 2 t2)
        (slim_append (rows_from (l + 1) 0 t0) (rows_from (l + 1) 1 t1) (rows_slim (l + 1) 0 t0 (omega arith) (lit< tt)) (rows_slim (l + 1) 1 t1 (omega arith) (lit< tt)))
        (rows_slim (l + 1) 2 t2 (omega arith) (lit< tt)))
        (rows_slim (l + 1) 3 t3 (omega arith) (lit< tt)),
  )

-- ---- the extent's line

signed-length : (z : ℤ) → nat_abs z ≤ 2 ^ 44 → length (signed z) ≤ 15
signed-length (pos n) h = le_trans (decimal-length 13 n (lt_of_le_of_lt h (lit< tt))) (lit≤ tt)
signed-length (negsuc n) h = let e : length (decimal (suc n)) ≤ 14 = decimal-length 13 (suc n) (lt_of_le_of_lt h (lit< tt)) in omega arith

pub extent_length : (s : Square) → NearZero s → length (extent_line (holds s)) ≤ 71
extent_length s h =
    let a : length (signed s.x0) ≤ 15 = signed-length s.x0 h.x0 in
    let b : length (signed s.y0) ≤ 15 = signed-length s.y0 h.y0 in
    let c : length (signed s.x1) ≤ 15 = signed-length s.x1 h.x1 in
    let d : length (signed s.y1) ≤ 15 = signed-length s.y1 h.y1 in
    simp length-append (omega arith)

-- ---- the line of a refusal

pub refused_length : (n : ℕ) → length (line (ascii "refused" ∷ decimal n ∷ [])) ≤ 23
refused_length n =
    let e : length (decimal n ++ (10 ∷ [])) ≡ length (decimal n) + 1 = length-append (decimal n) (10 ∷ []) in
    let f : length (decimal n) ≤ 14 = decimal_most n in
    omega arith

-- ---- the whole listing

-- a listing within the limits is no longer than that
pub listing-length : (c : Covered) (t : Tree Extent) → Listed c t → length (extent_line c ++ row_lines (rows_of t) (chains_of t)) ≤ listing_bytes
listing-length c t h =
    let e : length (extent_line c ++ row_lines (rows_of t) (chains_of t)) ≡ length (extent_line c) + length (row_lines (rows_of t) (chains_of t)) = length-append (extent_line c) (row_lines (rows_of t) (chains_of t)) in
    let f : length (row_lines (rows_of t) (chains_of t)) ≤ 10 * length (rows_of t) + 5 * chained (rows_of t) =
    lines_length (rows_of t) (chains_of t) (rows_slim 0 0 t (omega (arith, h.few)) (lit< tt)) (below_more most_listed (10 ^ 4) (lit≤ tt) (chains_of t) h.low) in
    let g : length (rows_of t) ≡ nodes t = rows_count 0 0 t in
    let i : chained (rows_of t) ≡ length (chains_of t) = rows_chained 0 0 t in
    let j : length (extent_line c) ≤ 71 = cover-length c (nodes t) h.covers in
    omega (arith, h.few, h.short)
  where
    cover-length : (c : Covered) (n : ℕ) → Covers c n → length (extent_line c) ≤ 71
    cover-length nothing n v = lit≤ tt
    cover-length (holds s) n v = extent_length s v.1
