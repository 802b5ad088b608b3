-- The listing of a whole tree.
use mathlib.Core.Path.{◌≡◌, refl, sym, ap, ◌∙◌}
use mathlib.Core.List.{List, ◌++◌, append-nil}
use Prim.Native.Nat.{ℕ, ◌+◌, ◌-◌, ◌*◌, ◌≤◌, ◌<◌}
use native.Mathlib.Nat.{zero-add}
use native.Mathlib.Omega.{arith}
use lib.ListN.{length, replicate, length-append, length-replicate, drop_of_length-le}
use lib.Ieee.{Float}
use Rattle.rules.specs.declared.Extent.{Extent}
use Rattle.rules.specs.Plain.{up_to, overwritten, padded}
use Rattle.rules.specs.Cell.{quarter}
use Rattle.rules.specs.Cover.{cover_first, extent_of}
use Rattle.rules.specs.Tree.{Tree, none, leaf, node, depth, Row, rows_from, rows_of, flat, chains_of, tree_of, row_numbers}
use Rattle.rules.proofs.CellIs.{Is}
use Rattle.rules.proofs.CellCount.{length-up_to, in_count}
use Rattle.rules.proofs.CellRule as Rule
use Rattle.sheet.proofs.Lists.{overwritten-next, overwritten-length}
use Rattle.tree_slots.specs.Trees.{in_cells, Lays, Below, InSlots}
use Rattle.tree_slots.proofs.Trees.{each_map}
use Rattle.tree_slots.proofs.Links.{in_below}
use Rattle.tree_rows.specs.List.{Listable, RowsWritten, Whole}
use Rattle.tree_slots.specs.declared.Quadtree.{Quadtree}
use Rattle.tree_rows.specs.declared.Cursor.{Cursor}
use Rattle.tree_rows.proofs.ListRows.{flat-length, rows_count, wrote-chains}

-- ---- cells for slots change nothing that is listed

pub rows_cells : (l q : ℕ) (c : Extent) (t : Tree ℕ) → rows_from l q (in_cells c t) ≡ rows_from l q t
rows_cells l q c none = refl
rows_cells l q c (leaf s is) = refl
rows_cells l q c (node s t0 t1 t2 t3) =
    rw (rows_cells (l + 1) 0 (quarter 0 c) t0, rows_cells (l + 1) 1 (quarter 1 c) t1, rows_cells (l + 1) 2 (quarter 2 c) t2, rows_cells (l + 1) 3 (quarter 3 c) t3)

pub chains_cells : (c : Extent) (t : Tree ℕ) → chains_of (in_cells c t) ≡ chains_of t
chains_cells c none = refl
chains_cells c (leaf s is) = refl
chains_cells c (node s t0 t1 t2 t3) =
    rw (chains_cells (quarter 0 c) t0, chains_cells (quarter 1 c) t1, chains_cells (quarter 2 c) t2, chains_cells (quarter 3 c) t3)

-- ---- zeros behind a part

-- a part of the list's own length takes its place
taken : (l part : List ℕ) → length part ≡ length l → overwritten l 0 part ≡ part
taken l part h = rw (zero-add, drop_of_length-le l {i = length part} (omega arith)) (append-nil part)

-- a part from the front and zeros behind it
zeros-behind : (l part : List ℕ) → length part ≤ length l
    → overwritten (overwritten l 0 part) (length part) (replicate (length (overwritten l 0 part) - length part) 0) ≡ padded (length l) 0 part
zeros-behind l part h =
    let n = length l - length part in
    let z : List ℕ = replicate n 0 in
    let e : length z ≡ n = length-replicate n 0 in
    ap (λ (k : ℕ). overwritten (overwritten l 0 part) (length part) (replicate (k - length part) 0)) (overwritten-length l 0 part (omega arith))
    ∙ ap (λ (k : ℕ). overwritten (overwritten l 0 part) k z) (sym (zero-add (length part)))
    ∙ overwritten-next l 0 part z (omega arith)
    ∙ taken l (part ++ z) (length-append part z ∙ omega arith)

-- ---- what a tree that stands in slots gives

module _ {t : Tree Extent} {m next : List ℕ} {q : Quadtree} {rows chains : ℕ} (w : Whole t m next q rows chains) where
  abbrev s : Lays t m next q
  s = w.stands

  chains-same : chains_of s.tree ≡ chains_of t
  chains-same = sym (chains_cells q.extent s.tree) ∙ ap chains_of s.is

  rows_same : rows_of s.tree ≡ rows_of t
  rows_same = sym (rows_cells 0 0 q.extent s.tree) ∙ ap (λ (t : Tree Extent). rows_of t) s.is

  -- it can be listed
  pub whole_listable : Listable m next q.root 0 rows chains (record { nodes = 0; chained = 0 }) s.tree
  whole_listable =
      let e = chains-same in
      record {
        stands = record {
          leads = s.leads;
          levels = omega (arith, s.levels);
          slots = each_map (λ i. i < q.nodes) (λ i. InSlots i m) (λ i h. omega (arith, s.room)) s.tree s.below;
          below = rw e w.below;
        };
        room = omega (arith, w.room, s.count);
        space = omega (arith, ap length e, w.space);
        few = w.few;
      }

  -- and is, with zeros behind its rows and its chains
  module _ {rows₀ chains₀ rows' chains' : List ℕ} {r : Cursor}
      (v : RowsWritten rows₀ chains₀ (record { nodes = 0; chained = 0 }) (rows_of s.tree) (chains_of s.tree) rows' chains' r) where
    pub rows-listed : length rows₀ ≡ rows → {rows'' : List ℕ} → rows'' ≡ overwritten rows' (q.nodes * row_numbers) (replicate (length rows' - q.nodes * row_numbers) 0)
        → rows'' ≡ padded (length rows₀) 0 (flat (rows_of t))
    rows-listed a e =
        let f = flat (rows_of s.tree) in
        let k : length f ≡ q.nodes * row_numbers = omega (arith, flat-length (rows_of s.tree), rows_count 0 0 s.tree, s.count) in
        e ∙ rw (← k, v.listed) (zeros-behind rows₀ f (omega (arith, w.room))) ∙ ap (λ (rs : List Row). padded (length rows₀) 0 (flat rs)) rows_same

    module _ (b : length chains₀ ≡ chains) where
      fits : length (chains_of s.tree) ≤ length chains₀
      fits = omega (arith, w.space, ap length chains-same)

      pub chains-end : r.chained ≤ length chains'
      chains-end = omega (arith, fits, v.reach, wrote-chains v (omega (arith, fits)))

      pub chains-listed : {chains'' : List ℕ} → chains'' ≡ overwritten chains' r.chained (replicate (length chains' - r.chained) 0)
          → chains'' ≡ padded (length chains₀) 0 (chains_of t)
      chains-listed e =
          let f = chains_of s.tree in
          let k : length f ≡ r.chained = omega (arith, v.reach) in
          e ∙ rw (← k, v.chained) (zeros-behind chains₀ f fits) ∙ ap (padded (length chains₀) 0) chains-same

-- ---- the tree of the first n points, for those who list it

module _ (at : List Float) (n : ℕ) where
  -- the tree of the rule is whole
  is_whole : depth (tree_of at n) ≤ 65 → Is at (extent_of (cover_first at n)) (tree_of at n) (up_to n)
  unfolding tree_of
  is_whole l = Rule.tree-whole at (extent_of (cover_first at n)) (up_to n) l

  -- its chains have each of n particles
  pub chains-all : depth (tree_of at n) ≤ 65 → (length (chains_of (tree_of at n)) ≡ n) × Below n (chains_of (tree_of at n))
  chains-all l =
      let c = extent_of (cover_first at n) in
      let t = tree_of at n in
      let h = is_whole l in
      (Rule.chains-length at t c (up_to n) h ∙ length-up_to n, in_below n (chains_of t) (λ i m. omega (arith, in_count 0 n i ((Rule.chains_in_lem at t c (up_to n) i h).0 m))))
