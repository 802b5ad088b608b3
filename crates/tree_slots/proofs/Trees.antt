-- Trees in slots: what holds of each slot, that cells for slots change no number, and how large a tree there is. Assumes nothing.
use mathlib.Core.Path.{◌≡◌, refl, sym, ap, ◌∙◌}
use mathlib.Core.List.{List}
use Prim.Native.Nat.{ℕ, ◌+◌, ◌≤◌}
use native.Mathlib.Omega.{arith}
use Rattle.rules.specs.declared.Extent.{Extent}
use Rattle.rules.specs.Cell.{quarter}
use Rattle.rules.specs.Tree.{Tree, none, leaf, node, nodes, depth, greatest_level}
use Rattle.tree_slots.specs.Trees.{EachSlot, in_cells, Lays}
use Rattle.tree_slots.specs.declared.Quadtree.{Quadtree}

pub each_map : (P Q : ℕ → Type 0) → ((j : ℕ) → P j → Q j) → (t : Tree ℕ) → EachSlot P t → EachSlot Q t
each_map P Q f none h = tt
each_map P Q f (leaf s is) h = f s h
each_map P Q f (node s t0 t1 t2 t3) h = (f s h.0, each_map P Q f t0 h.1, each_map P Q f t1 h.2, each_map P Q f t2 h.3, each_map P Q f t3 h.4)

pub cells_depth : (c : Extent) (t : Tree ℕ) → depth (in_cells c t) ≡ depth t
cells_depth c none = refl
cells_depth c (leaf s is) = refl
cells_depth c (node s t0 t1 t2 t3) = rw (cells_depth (quarter 0 c) t0, cells_depth (quarter 1 c) t1, cells_depth (quarter 2 c) t2, cells_depth (quarter 3 c) t3)

pub cells_nodes : (c : Extent) (t : Tree ℕ) → nodes (in_cells c t) ≡ nodes t
cells_nodes c none = refl
cells_nodes c (leaf s is) = refl
cells_nodes c (node s t0 t1 t2 t3) = rw (cells_nodes (quarter 0 c) t0, cells_nodes (quarter 1 c) t1, cells_nodes (quarter 2 c) t2, cells_nodes (quarter 3 c) t3)

-- a tree that slots hold has few levels, and its nodes are counted
module _ {t : Tree Extent} {m next : List ℕ} {q : Quadtree} (s : Lays t m next q) where
  pub lays_levels : depth t ≤ greatest_level + 1
  lays_levels = omega (arith, s.levels, cells_depth q.extent s.tree, ap depth s.is)

  pub lays_nodes : nodes t ≡ q.nodes
  lays_nodes = ap nodes (sym s.is) ∙ cells_nodes q.extent s.tree ∙ s.count
