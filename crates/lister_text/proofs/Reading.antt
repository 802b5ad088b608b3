-- What a tree call told, read back: the rows, the chains, the extent and so the text. Assumes nothing.
use mathlib.Core.Path.{◌≡◌, refl, sym, ap, ap₂, ◌∙◌}
use mathlib.Core.List.{List, [], ◌∷◌, ◌++◌}
use Prim.Native.Nat.{ℕ, ◌-◌, ◌*◌, ◌^◌, ◌≤◌}
use native.Mathlib.Omega.{arith}
use lib.IntN.{ℤ, nat_abs}
use lib.Ieee.{Float}
use lib.ListN.{length, take, drop, replicate, length-append, length-drop}
use lib.Seq.{take-append-le, drop-append-le}
use Rattle.rules.specs.declared.Extent.{Extent}
use Rattle.rules.specs.Plain.{padded}
use Rattle.rules.specs.Cover.{Square, square, whole, Covered, nothing, holds, extent_of}
use Rattle.rules.specs.Tree.{Tree, Row, rows_of, flat, chains_of, row_numbers}
use Rattle.rules.specs.Listing.{extent_line, row_lines}
use Rattle.rules.proofs.CoverTerms.{NearZero}
use Rattle.lister_text.specs.Told.{integer, integer_square, WholeExtent, rows_at, chained, Told}
use Rattle.lister_text.proofs.Whole.{integer-whole, is_whole}
use Rattle.lister_text.proofs.Rows.{row_line}
use Rattle.lister_text.proofs.Sizes.{rows_chained}
use Rattle.tree_rows.proofs.ListRows.{rows_count}

-- ---- lists with more behind

rows_flat : (rs : List Row) (more : List ℕ) → rows_at (length rs) (flat rs ++ more) ≡ rs
rows_flat [] more = refl
rows_flat (r ∷ rs) more = ap (λ (l : List Row). r ∷ l) (rows_flat rs more)

flat-length : (rs : List Row) → length (flat rs) ≡ row_numbers * length rs
flat-length [] = refl
flat-length (r ∷ rs) = let e = flat-length rs in omega arith

lines_more : (rs : List Row) (chains more : List ℕ) → chained rs ≤ length chains → row_lines rs (chains ++ more) ≡ row_lines rs chains
lines_more [] chains more h = refl
lines_more (r ∷ rs) chains more h =
    let n = r.chain in
    let l : n ≤ length chains = omega arith in
    let m : chained rs ≤ length (drop n chains) = let e = length-drop n chains in omega arith in
    ap₂ (λ (a b : List ℕ). row_line r a ++ row_lines rs b) (take-append-le n chains more l) (drop-append-le n chains more l)
    ∙ ap (λ (b : List ℕ). row_line r (take n chains) ++ b) (lines_more rs (drop n chains) more m)

pad_room : (k : ℕ) (l m : List ℕ) → l ≡ padded k 0 m → length m ≤ length l
pad_room k l m e = let a = ap length e ∙ length-append m (replicate (k - length m) 0) in omega arith

-- ---- the extent

module _ (s : Square) (e : Extent) (i : e ≡ extent_of (holds s)) (h : NearZero s) where
  at_x0 : e.x0 ≡ whole s.x0
  unfolding extent_of
  at_x0 = ap (λ (c : Extent). c.x0) i

  at_y0 : e.y0 ≡ whole s.y0
  unfolding extent_of
  at_y0 = ap (λ (c : Extent). c.y0) i

  at_x1 : e.x1 ≡ whole s.x1
  unfolding extent_of
  at_x1 = ap (λ (c : Extent). c.x1) i

  at_y1 : e.y1 ≡ whole s.y1
  unfolding extent_of
  at_y1 = ap (λ (c : Extent). c.y1) i

  back : (x : Float) (z : ℤ) → x ≡ whole z → nat_abs z ≤ 2 ^ 44 → integer x ≡ z
  back x z q n = ap integer q ∙ integer-whole z n

  extent_whole : WholeExtent e
  extent_whole = record {
    x0 = is_whole e.x0 s.x0 at_x0 h.x0;
    y0 = is_whole e.y0 s.y0 at_y0 h.y0;
    x1 = is_whole e.x1 s.x1 at_x1 h.x1;
    y1 = is_whole e.y1 s.y1 at_y1 h.y1;
  }

  square-back : integer_square e ≡ s
  square-back = λ j. square (back e.x0 s.x0 at_x0 h.x0 j) (back e.y0 s.y0 at_y0 h.y0 j) (back e.x1 s.x1 at_x1 h.x1 j) (back e.y1 s.y1 at_y1 h.y1 j)

-- ---- what was told

module _ (c : Covered) (t : Tree Extent) (e : Extent) (n : ℕ) (rows chains : List ℕ) (h : Told c t e n rows chains) where
  count : n ≡ length (rows_of t)
  count = h.count-is ∙ sym (rows_count 0 0 t)

  rows_told : rows_at n rows ≡ rows_of t
  rows_told = ap₂ rows_at count h.rows_are ∙ rows_flat (rows_of t) (replicate (h.rows_length - length (flat (rows_of t))) 0)

  pub rows_room : row_numbers * n ≤ length rows
  rows_room = omega (arith, pad_room h.rows_length rows (flat (rows_of t)) h.rows_are, flat-length (rows_of t), count)

  pub chains-room : chained (rows_at n rows) ≤ length chains
  chains-room = let e : chained (rows_at n rows) ≡ length (chains_of t) = ap chained rows_told ∙ rows_chained 0 0 t in omega (arith, pad_room h.chains-length chains (chains_of t) h.chains_are)

  lines_told : row_lines (rows_at n rows) chains ≡ row_lines (rows_of t) (chains_of t)
  lines_told =
      ap₂ row_lines rows_told h.chains_are
      ∙ lines_more (rows_of t) (chains_of t) (replicate (h.chains-length - length (chains_of t)) 0) (let a = rows_chained 0 0 t in omega arith)

-- ---- the text

abbrev text : Covered → Tree Extent → List ℕ
text c t = extent_line c ++ row_lines (rows_of t) (chains_of t)

-- no node: the one line
pub none_told : (c : Covered) (t : Tree Extent) (e : Extent) (n : ℕ) (rows chains : List ℕ) → Told c t e n rows chains → n ≡ 0 → text c t ≡ extent_line nothing
none_told nothing t e n rows chains h z = ap (λ (rs : List Row). extent_line nothing ++ row_lines rs (chains_of t)) (sym (rows_told nothing t e n rows chains h) ∙ ap (λ (m : ℕ). rows_at m rows) z)
none_told (holds s) t e n rows chains h z = let some = h.listed.covers.0 in let m = h.count-is in absurd (omega arith)

-- nodes: the ends are whole
pub some_extent : (c : Covered) (t : Tree Extent) (e : Extent) (n : ℕ) (rows chains : List ℕ) → Told c t e n rows chains → (n ≡ 0 → ⊥) → WholeExtent e
some_extent nothing t e n rows chains h z = absurd (z (h.count-is ∙ h.listed.covers))
some_extent (holds s) t e n rows chains h z = extent_whole s e h.extent_is h.listed.covers.1

-- and the text is that of the numbers
pub some-told : (c : Covered) (t : Tree Extent) (e : Extent) (n : ℕ) (rows chains : List ℕ) → Told c t e n rows chains → (n ≡ 0 → ⊥) → text c t ≡ extent_line (holds (integer_square e)) ++ row_lines (rows_at n rows) chains
some-told nothing t e n rows chains h z = absurd (z (h.count-is ∙ h.listed.covers))
some-told (holds s) t e n rows chains h z =
    ap₂ (λ (q : Square) (l : List ℕ). extent_line (holds q) ++ l) (sym (square-back s e h.extent_is h.listed.covers.1)) (sym (lines_told (holds s) t e n rows chains h))
