-- What the tree call's numbers stand for: whole ends, rows, a tree. Definitions only.
use Rattle.std.specs.Prelude.{◌≡◌, List, [], ◌∷◌, ℕ, zero, suc, ◌+◌, ◌^◌, ◌≤◌, ◌<◌, ℤ, nat_abs, length, get_or, drop, Float}
use Rattle.std.specs.Float.Ieee.{to_signed}
use Rattle.rules.specs.declared.Extent.{Extent}
use Rattle.rules.specs.Plain.{padded}
use Rattle.rules.specs.Cover.{Square, square, whole, Covered, nothing, holds, extent_of}
use Rattle.rules.specs.Tree.{Tree, nodes, Row, row, row_numbers, rows_of, flat, chains_of}
use Rattle.tree_slots.specs.Trees.{Below}
use Rattle.rules.specs.Listing.{most_listed, lister_slots}
use Rattle.rules.proofs.CoverTerms.{NearZero}

-- ---- ends

-- the whole number that a float is
abbrev pub integer : Float → ℤ
integer x = to_signed 63 x

-- it is one, as the ends of an extent are
pub record IsWhole (x : Float) : Type 0 where
  pub is : x ≡ whole (integer x)
  pub near : nat_abs (integer x) ≤ 2 ^ 44

abbrev pub integer_square : Extent → Square
integer_square e = square (integer e.x0) (integer e.y0) (integer e.x1) (integer e.y1)

pub record WholeExtent (e : Extent) : Type 0 where
  pub x0 : IsWhole e.x0
  pub y0 : IsWhole e.y0
  pub x1 : IsWhole e.x1
  pub y1 : IsWhole e.y1

-- ---- rows

-- the first n rows of a list
abbrev pub rows_at : ℕ → List ℕ → List Row
rows_at zero l = []
rows_at (suc n) l = row (get_or l 0 0) (get_or l 1 0) (get_or l 2 0) (get_or l 3 0) ∷ rows_at n (drop row_numbers l)

-- how many particles their chains have
abbrev pub chained : List Row → ℕ
chained [] = 0
chained (r ∷ rs) = r.chain + chained rs

-- ---- a tree, and what covers its points

-- without a node nothing is covered, and else a square whose ends are near
abbrev pub Covers : Covered → ℕ → Type 0
Covers nothing n = n ≡ 0
Covers (holds s) n = (0 < n) × NearZero s

-- within the lister's limits
pub record Listed (c : Covered) (t : Tree Extent) : Type 0 where
  pub covers : Covers c (nodes t)
  pub few : nodes t ≤ lister_slots
  pub short : length (chains_of t) ≤ most_listed
  pub low : Below most_listed (chains_of t)

-- the extent, the number of nodes, their rows and the chains are those of a tree
pub record Told (c : Covered) (t : Tree Extent) (e : Extent) (n : ℕ) (rows chains : List ℕ) : Type 0 where
  pub listed : Listed c t
  pub extent_is : e ≡ extent_of c
  pub count-is : n ≡ nodes t
  pub rows_length : ℕ
  pub rows_are : rows ≡ padded rows_length 0 (flat (rows_of t))
  pub chains-length : ℕ
  pub chains_are : chains ≡ padded chains-length 0 (chains_of t)

-- there is such a tree
pub record SomeTree (e : Extent) (n : ℕ) (rows chains : List ℕ) : Type 0 where
  pub covered : Covered
  pub tree : Tree Extent
  pub told : Told covered tree e n rows chains
