-- Rows, written node by node.
use mathlib.Core.Path.{◌≡◌, refl, sym, ap, ◌∙◌}
use mathlib.Core.List.{List, [], ◌∷◌, ◌++◌}
use Prim.Native.Nat.{ℕ, ◌+◌, ◌*◌, ◌≤◌}
use native.Mathlib.Omega.{arith}
use lib.ListN.{length, length-append}
use Rattle.rules.specs.Plain.{overwritten}
use Rattle.rules.specs.Tree.{Tree, none, leaf, node, nodes, Row, row, rows_from, flat, row_numbers}
use Rattle.sheet.proofs.Lists.{overwritten-next, overwritten-none, overwritten-length}
use Rattle.tree_rows.specs.List.{RowsWritten}
use Rattle.tree_rows.specs.declared.Cursor.{Cursor}

pub flat-length : (rs : List Row) → length (flat rs) ≡ length rs * row_numbers
flat-length [] = refl
flat-length (r ∷ rs) = omega (arith, flat-length rs)

pub flat_append : (rs ss : List Row) → flat (rs ++ ss) ≡ flat rs ++ flat ss
flat_append [] ss = refl
flat_append (r ∷ rs) ss = ap (λ (l : List ℕ). r.level ∷ r.quadrant ∷ r.kind ∷ r.chain ∷ l) (flat_append rs ss)

-- a row for each node
pub rows_count : {A : Type 0} (l q : ℕ) (t : Tree A) → length (rows_from l q t) ≡ nodes t
rows_count l q none = refl
rows_count l q (leaf s is) = refl
rows_count l q (node s t0 t1 t2 t3) =
    simp length-append (omega (arith, rows_count (l + 1) 0 t0, rows_count (l + 1) 1 t1, rows_count (l + 1) 2 t2, rows_count (l + 1) 3 t3))

module _ {rows chains : List ℕ} {at : Cursor} where
  -- nothing is written
  pub wrote_none : RowsWritten rows chains at [] [] rows chains at
  wrote_none =
      record { listed = sym (overwritten-none rows (at.nodes * row_numbers)); chained = sym (overwritten-none chains at.chained); nodes = omega arith; reach = omega arith }

  -- an internal node's row
  pub wrote_internal : {level quadrant : ℕ} {rows' : List ℕ} → rows' ≡ overwritten rows (at.nodes * row_numbers) (flat (row level quadrant 1 0 ∷ []))
      → RowsWritten rows chains at (row level quadrant 1 0 ∷ []) [] rows' chains (record { nodes = at.nodes + 1; chained = at.chained })
  wrote_internal r = record { listed = r; chained = sym (overwritten-none chains at.chained); nodes = refl; reach = omega arith }

  module _ {rs : List Row} {is rows' chains' : List ℕ} {b : Cursor} (v : RowsWritten rows chains at rs is rows' chains' b) where
    -- lists keep their lengths
    pub wrote-rows : (at.nodes + length rs) * row_numbers ≤ length rows → length rows' ≡ length rows
    wrote-rows h = rw v.listed (overwritten-length rows (at.nodes * row_numbers) (flat rs) (omega (arith, flat-length rs)))

    pub wrote-chains : at.chained + length is ≤ length chains → length chains' ≡ length chains
    wrote-chains h = rw v.chained (overwritten-length chains at.chained is h)

    -- what is written next stands behind it
    pub wrote-next : {ss : List Row} {js rows'' chains'' : List ℕ} {c : Cursor} → RowsWritten rows' chains' b ss js rows'' chains'' c
        → (at.nodes + length rs) * row_numbers ≤ length rows → at.chained + length is ≤ length chains → RowsWritten rows chains at (rs ++ ss) (is ++ js) rows'' chains'' c
    wrote-next {ss} {js} w r s =
        let e : b.nodes * row_numbers ≡ at.nodes * row_numbers + length (flat rs) = omega (arith, v.nodes, flat-length rs) in
        record {
          listed =
              w.listed
              ∙ ap (λ (l : List ℕ). overwritten l (b.nodes * row_numbers) (flat ss)) v.listed
              ∙ ap (λ (n : ℕ). overwritten (overwritten rows (at.nodes * row_numbers) (flat rs)) n (flat ss)) e
              ∙ overwritten-next rows (at.nodes * row_numbers) (flat rs) (flat ss) (omega (arith, flat-length rs))
              ∙ ap (overwritten rows (at.nodes * row_numbers)) (sym (flat_append rs ss));
          chained =
              w.chained
              ∙ ap (λ (l : List ℕ). overwritten l b.chained js) v.chained
              ∙ ap (λ (n : ℕ). overwritten (overwritten chains at.chained is) n js) v.reach
              ∙ overwritten-next chains at.chained is js s;
          nodes = simp length-append (omega (arith, v.nodes, w.nodes));
          reach = simp length-append (omega (arith, v.reach, w.reach));
        }
