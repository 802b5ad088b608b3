-- Rows read one after another, each with its part of the chains. Assumes nothing.
use mathlib.Core.Path.{◌≡◌, ap, ap₂, ◌∙◌, subst}
use mathlib.Core.List.{List, ◌∷◌, ◌++◌, map}
use Prim.Native.Nat.{ℕ, suc, ◌+◌, ◌-◌, ◌*◌, ◌≤◌, ◌<◌}
use native.Mathlib.Nat.{add-zero}
use native.Mathlib.Omega.{arith}
use lib.ListN.{length, take, drop, get_or}
use lib.Seq.{get_or-drop, drop-drop}
use Rattle.rules.specs.Tree.{Row, row, row_numbers}
use Rattle.rules.specs.Listing.{decimal, row_letter, line, row_lines}
use Rattle.lister_text.specs.Text.{TextWritten}
use Rattle.lister_text.specs.Told.{rows_at, chained}
use Rattle.lister_text.proofs.Writing.{Left, Next, left-next}

-- the rows from i on
abbrev pub rows_from : ℕ → List ℕ → ℕ → List Row
rows_from nodes rows i = rows_at (nodes - i) (drop (row_numbers * i) rows)

-- the row at i
abbrev pub row_at : List ℕ → ℕ → Row
row_at rows i = row (get_or rows (row_numbers * i) 0) (get_or rows (row_numbers * i + 1) 0) (get_or rows (row_numbers * i + 2) 0) (get_or rows (row_numbers * i + 3) 0)

row_same : {a b c d a' b' c' d' : ℕ} → a ≡ a' → b ≡ b' → c ≡ c' → d ≡ d' → row a b c d ≡ row a' b' c' d'
row_same p q r s = λ i. row (p i) (q i) (r i) (s i)

pub rows_from_lem : (nodes : ℕ) (rows : List ℕ) (i : ℕ) → i < nodes → rows_from nodes rows i ≡ row_at rows i ∷ rows_from nodes rows (i + 1)
rows_from_lem nodes rows i h =
    let e : nodes - i ≡ suc (nodes - (i + 1)) = omega arith in
    let f : row_numbers * i + row_numbers ≡ row_numbers * (i + 1) = omega arith in
    let at : (k : ℕ) → get_or (drop (row_numbers * i) rows) k 0 ≡ get_or rows (row_numbers * i + k) 0 = λ k. get_or-drop (row_numbers * i) rows k 0 in
    ap (λ (n : ℕ). rows_at n (drop (row_numbers * i) rows)) e
    ∙ ap₂ (λ (r : Row) (l : List ℕ). r ∷ rows_at (nodes - (i + 1)) l)
    (row_same (at 0 ∙ ap (λ (n : ℕ). get_or rows n 0) (add-zero (row_numbers * i))) (at 1) (at 2) (at 3))
    (drop-drop row_numbers (row_numbers * i) rows ∙ ap (λ (n : ℕ). drop n rows) f)

-- the line of a row whose chain is given
abbrev pub row_line : Row → List ℕ → List ℕ
row_line r chain = line (decimal r.level ∷ decimal r.quadrant ∷ row_letter r.kind ∷ map decimal chain)

module _ (nodes : ℕ) (rows chains out₀ : List ℕ) (at : ℕ) where
  -- Before the row at i: what is left are the lines from there on, with the chains from `from` on.
  pub record Going (out : List ℕ) (next from i : ℕ) : Type 0 where
    pub left : Left out₀ at (row_lines (rows_at nodes rows) chains) out next (row_lines (rows_from nodes rows i) (drop from chains))
    pub chain : from + chained (rows_from nodes rows i) ≤ length chains
    pub most : i ≤ nodes

  module _ (out : List ℕ) (next from i : ℕ) (g : Going out next from i) where
    module _ (h : i < nodes) where
      chain_more : from + get_or rows (row_numbers * i + 3) 0 + chained (rows_from nodes rows (i + 1)) ≤ length chains
      chain_more = let e : chained (rows_from nodes rows i) ≡ get_or rows (row_numbers * i + 3) 0 + chained (rows_from nodes rows (i + 1)) = ap chained (rows_from_lem nodes rows i h) in omega (arith, g.chain)

      pub going-chain : from + get_or rows (row_numbers * i + 3) 0 ≤ length chains
      going-chain = omega (arith, chain_more)

      lines_from : row_lines (rows_from nodes rows i) (drop from chains) ≡ row_line (row_at rows i) (take (from + get_or rows (row_numbers * i + 3) 0 - from) (drop from chains)) ++ row_lines (rows_from nodes rows (i + 1)) (drop (from + get_or rows (row_numbers * i + 3) 0) chains)
      lines_from =
          let n = get_or rows (row_numbers * i + 3) 0 in
          let e : n ≡ from + n - from = omega arith in
          ap (λ (rs : List Row). row_lines rs (drop from chains)) (rows_from_lem nodes rows i h)
          ∙ ap₂ (λ (m : ℕ) (l : List ℕ). row_line (row_at rows i) (take m (drop from chains)) ++ row_lines (rows_from nodes rows (i + 1)) l) e (drop-drop n from chains)

      pub going-row : Next out₀ at (row_lines (rows_at nodes rows) chains) out next (row_line (row_at rows i) (take (from + get_or rows (row_numbers * i + 3) 0 - from) (drop from chains))) (row_lines (rows_from nodes rows (i + 1)) (drop (from + get_or rows (row_numbers * i + 3) 0) chains))
      going-row = left-next _ _ (subst (Left out₀ at (row_lines (rows_at nodes rows) chains) out next) lines_from g.left)

      pub going_next : (k : List ℕ) (q : ℕ) → TextWritten out next (row_line (row_at rows i) (take (from + get_or rows (row_numbers * i + 3) 0 - from) (drop from chains))) k q → Going k q (from + get_or rows (row_numbers * i + 3) 0) (i + 1)
      going_next k q w = record { left = going-row.after w; chain = chain_more; most = omega arith }
