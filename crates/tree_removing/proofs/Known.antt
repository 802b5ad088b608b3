-- What is known of the rule's tree in the slots: two leaves or more below every internal node, and each leaf on the way of its first particle.
use mathlib.Core.Path.{◌≡◌, refl, sym, subst}
use mathlib.Core.List.{List}
use Prim.Native.Nat.{ℕ, ◌+◌, ◌*◌, ◌≤◌, ◌<◌}
use native.Mathlib.Omega.{arith}
use lib.ListN.{length}
use lib.Ieee.{Float}
use Rattle.rules.specs.declared.Extent.{Extent}
use Rattle.rules.specs.Refusal.{most_particles}
use Rattle.rules.specs.Cell.{quarter}
use Rattle.rules.specs.Tree.{Tree, none, leaf, node, in_quarter, points_in}
use Rattle.rules.specs.Terms.{leaves, EachLeaf}
use Rattle.rules.proofs.CellList.{In, in_keep}
use Rattle.rules.proofs.CellIs.{Is}
use Rattle.rules.proofs.CellDeep.{in_quarter-is}
use Rattle.rules.proofs.CellCount.{Fruitful, fruitful, leaves-distinct}
use Rattle.rules.proofs.CellWithout.{two-distinct}
use Rattle.tree_slots.specs.declared.Quadtree.{Quadtree}
use Rattle.tree_slots.specs.Trees.{first, in_cells, InSlots, SlotsLent}
use Rattle.tree_slots.proofs.Links.{head_in}
use Rattle.tree_slots.proofs.Trees.{each_map}
use Rattle.tree_leaves.specs.Leaf.{side}
use Rattle.tree_placing.specs.Add.{Holds, pick}
use Rattle.tree_placing.proofs.SlotsTree.{pick_all}
use Rattle.tree_placing.proofs.AddHold.{holds_most, holds_is}
use Rattle.tree_removing.specs.Remove.{Lie, OnWay, Packed}

-- ---- cells for slots

cells_fruit : (c : Extent) (t : Tree ℕ) → (leaves (in_cells c t) ≡ leaves t) × (Fruitful (in_cells c t) → Fruitful t)
cells_fruit c none = (refl, λ h. h)
cells_fruit c (leaf s is) = (refl, λ h. h)
cells_fruit c (node s t0 t1 t2 t3) =
    let a = cells_fruit (quarter 0 c) t0 in
    let b = cells_fruit (quarter 1 c) t1 in
    let d = cells_fruit (quarter 2 c) t2 in
    let e = cells_fruit (quarter 3 c) t3 in
    (omega (arith, a.0, b.0, d.0, e.0), λ h. (omega (arith, h.0, a.0, b.0, d.0, e.0), a.1 h.1, b.1 h.2, d.1 h.3, e.1 h.4))

-- two leaves or more below every internal node
abbrev pub Two : Tree ℕ → Type 0
Two none = Unit {0}
Two (leaf s is) = Unit {0}
Two (node s t0 t1 t2 t3) = (2 ≤ leaves t0 + leaves t1 + leaves t2 + leaves t3) × Two t0 × Two t1 × Two t2 × Two t3

pub two_child : (s : ℕ) (t0 t1 t2 t3 : Tree ℕ) → Two (node s t0 t1 t2 t3) → (r : ℕ) → Two (pick t0 t1 t2 t3 r)
two_child s t0 t1 t2 t3 h = pick_all t0 t1 t2 t3 Two h.1 h.2 h.3 h.4

module _ (at : List Float) where
  two_is : (c : Extent) (t : Tree ℕ) (is : List ℕ) → Is at c (in_cells c t) is → Two t
  two_is c none is h = tt
  two_is c (leaf s js) is h = tt
  two_is c (node s t0 t1 t2 t3) is h = (
    omega (arith, two-distinct at is h.1, leaves-distinct at (in_cells c (node s t0 t1 t2 t3)) c is h, (cells_fruit (quarter 0 c) t0).0, (cells_fruit (quarter 1 c) t1).0, (cells_fruit (quarter 2 c) t2).0, (cells_fruit (quarter 3 c) t3).0),
    two_is (quarter 0 c) t0 (points_in at c 0 is) h.2,
    two_is (quarter 1 c) t1 (points_in at c 1 is) h.3,
    two_is (quarter 2 c) t2 (points_in at c 2 is) h.4,
    two_is (quarter 3 c) t3 (points_in at c 3 is) h.5,
  )

  -- the members of a chain are points of the cell
  members : (Q : ℕ → Type 0) (c : Extent) (t : Tree ℕ) (is : List ℕ) → Is at c (in_cells c t) is → ((j : ℕ) → In j is → Q j) → EachLeaf (λ _ js. Q (first js)) t
  members Q c none is h f = tt
  members Q c (leaf s js) is h f = f (first js) (subst (In (first js)) h.1 (head_in js (subst (λ (l : List ℕ). 0 < length l) (sym h.1) h.2)))
  members Q c (node s t0 t1 t2 t3) is h f = (
    members Q (quarter 0 c) t0 (points_in at c 0 is) h.2 (λ j m. f j (in_keep (in_quarter at c 0) is j m).0),
    members Q (quarter 1 c) t1 (points_in at c 1 is) h.3 (λ j m. f j (in_keep (in_quarter at c 1) is j m).0),
    members Q (quarter 2 c) t2 (points_in at c 2 is) h.4 (λ j m. f j (in_keep (in_quarter at c 2) is j m).0),
    members Q (quarter 3 c) t3 (points_in at c 3 is) h.5 (λ j m. f j (in_keep (in_quarter at c 3) is j m).0),
  )

  ways_is : (c : Extent) (t : Tree ℕ) (is : List ℕ) → Is at c (in_cells c t) is → OnWay at c t
  ways_is c none is h = tt
  ways_is c (leaf s js) is h = tt
  ways_is c (node s t0 t1 t2 t3) is h = (
    (own 0 t0 h.2, ways_is (quarter 0 c) t0 (points_in at c 0 is) h.2),
    (own 1 t1 h.3, ways_is (quarter 1 c) t1 (points_in at c 1 is) h.3),
    (own 2 t2 h.4, ways_is (quarter 2 c) t2 (points_in at c 2 is) h.4),
    (own 3 t3 h.5, ways_is (quarter 3 c) t3 (points_in at c 3 is) h.5),
  )
    where
      own : (r : ℕ) (u : Tree ℕ) → Is at (quarter r c) (in_cells (quarter r c) u) (points_in at c r is) → Lie at c r u
      own r u g = members (λ j. side at j c ≡ r) (quarter r c) u (points_in at c r is) g (λ j m. sym (in_quarter-is at c r j (in_keep (in_quarter at c r) is j m).1))

  -- ---- the tree of the points

  module _ (is m : List ℕ) (q : Quadtree) (h : Holds at is m q) where
    pub known_two : Two h.tree
    known_two = two_is q.extent h.tree is (holds_is at is m q h)

    pub known-lent : SlotsLent m h.tree
    known-lent = each_map (λ j. j < q.nodes) (λ j. InSlots j m) (λ j y. omega (arith, y, h.room)) h.tree h.below

    pub known-packed : ((j : ℕ) → In j is → (j < most_particles) × (j * 2 + 2 ≤ length at)) → Packed at m q h.tree
    known-packed places =
        let c = q.extent in
        let g = holds_is at is m q h in
        record {
          leads = h.root;
          stored = h.stored;
          most = holds_most at is m q h;
          count = h.count;
          slots = h.below;
          once = h.once;
          fruitful = (cells_fruit c h.tree).1 (fruitful at (in_cells c h.tree) c is g);
          ways = ways_is c h.tree is g;
          places = members (λ j. (j < most_particles) × (j * 2 + 2 ≤ length at)) c h.tree is g places;
        }
