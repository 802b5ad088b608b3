-- A node becomes its one leaf, and the slot that falls free is filled: one turn of gathering.
use mathlib.Core.Path.{◌≡◌, sym, ap, ◌∙◌, subst}
use mathlib.Core.List.{List}
use Prim.Native.Nat.{ℕ, suc, ◌+◌, ◌-◌, ◌*◌, ◌≤◌, ◌<◌}
use native.Mathlib.Omega.{arith}
use lib.ListN.{length}
use lib.Ieee.{Float}
use Rattle.std.specs.Prelude.{Some}
use Rattle.rules.specs.declared.Extent.{Extent}
use Rattle.rules.specs.Tree.{Tree, leaf, node}
use Rattle.rules.specs.Refusal.{most_particles}
use Rattle.rules.specs.Terms.{EachLeaf, most_nodes}
use Rattle.rules.specs.Calls.{slot_words}
use Rattle.tree_slots.specs.declared.Quadtree.{Quadtree}
use Rattle.tree_slots.specs.Slots.{word, put_leaf, InSlots}
use Rattle.tree_slots.proofs.Slots.{leaf_length}
use Rattle.tree_slots.specs.Trees.{first, EachSlot, in_cells, LeafIn}
use Rattle.tree_placing.specs.Add.{Stored}
use Rattle.tree_placing.proofs.SlotsTree.{each_child, stored_child, leaf_child}
use Rattle.tree_placing.proofs.AddWay.{reach-each, reach-stored, reach-leaf, plug}
use Rattle.tree_removing.specs.Remove.{gather, HasPlace, Occupies, Packed, Hollow, Filled, with_less, Tidies, FoldsAt, Folds}
use Rattle.tree_removing.specs.declared.tidy.Fold.{Fold}
use Rattle.tree_removing.proofs.Plug.{reach-nodes}
use Rattle.tree_removing.proofs.Replace.{hollowed, fold}
use Rattle.tree_removing.proofs.Gather.{gather-down, gather_leaf, plug-down}

-- ---- one turn of gathering

-- gathered so far, from q and t on
pub record Tidying (at : List Float) (m : List ℕ) (q less : Quadtree) (i : ℕ) (t : Tree ℕ) : Type 0 where
  pub tree : Tree ℕ
  pub packed : Packed at m less tree
  pub same : gather at i q.extent (in_cells q.extent tree) ≡ gather at i q.extent (in_cells q.extent t)
  pub extent : less.extent ≡ q.extent
  pub deepest : less.deepest ≡ q.deepest
  pub few : less.nodes ≤ q.nodes

module _ (at : List Float) (m : List ℕ) (q less : Quadtree) (i : ℕ) (t : Tree ℕ) (d : Tidying at m q less i t) (room : q.nodes * slot_words ≤ length m) (few : q.nodes ≤ most_nodes most_particles) (place : i * 2 + 2 ≤ length at) where
  pub tidies_of : Tidies at m less i d.tree
  tidies_of = record { packed = d.packed; room = omega (arith, d.few); few = omega (arith, d.few); place = place }

  module _ (f : Fold) (h : (u : Tree ℕ) → Tidies at m less i u → Folds at less.extent u i (Some f)) where
    at-fold : FoldsAt at less.extent d.tree i f.slot f.child
    at-fold = h d.tree tidies_of

    abbrev u : Tree ℕ
    u = node f.slot at-fold.t0 at-fold.t1 at-fold.t2 at-fold.t3

    below : EachSlot (λ j. j < less.nodes) (node f.slot at-fold.t0 at-fold.t1 at-fold.t2 at-fold.t3)
    below = reach-each at i at-fold.level less.extent d.tree at-fold.cell u at-fold.way (λ j. j < less.nodes) d.packed.slots

    child-below : f.child < less.nodes
    child-below = subst (EachSlot (λ j. j < less.nodes)) at-fold.child (each_child at-fold.t0 at-fold.t1 at-fold.t2 at-fold.t3 f.slot (λ j. j < less.nodes) below at-fold.which)

    -- the leaf
    leaf-held : LeafIn m f.child at-fold.chain
    leaf-held =
        subst (Stored m) at-fold.child
        (stored_child at-fold.t0 at-fold.t1 at-fold.t2 at-fold.t3 f.slot m (reach-stored at i at-fold.level less.extent d.tree at-fold.cell u at-fold.way m d.packed.stored) at-fold.which)

    chain-placed : (first at-fold.chain < most_particles) × (first at-fold.chain * 2 + 2 ≤ length at)
    chain-placed =
        subst (EachLeaf (λ _. HasPlace at)) at-fold.child
        (leaf_child at-fold.t0 at-fold.t1 at-fold.t2 at-fold.t3 f.slot (HasPlace at) (reach-leaf at i at-fold.level less.extent d.tree at-fold.cell u at-fold.way (HasPlace at) d.packed.places) at-fold.which)

    two : 2 ≤ less.nodes
    two = omega (arith, at-fold.two, reach-nodes at i at-fold.level less.extent d.tree at-fold.cell u at-fold.way, d.packed.count)

    pub tidy-slots : (0 < word m f.child 0) × InSlots f.child m × InSlots f.slot m × (word m f.child 0 - 1 < most_particles) × (2 ≤ less.nodes)
    tidy-slots = (omega (arith, leaf-held.tag), omega (arith, child-below, room, d.few), omega (arith, below.0, room, d.few), omega (arith, leaf-held.tag, chain-placed.0), two)

    after : Tree ℕ
    after = plug at i at-fold.level less.extent d.tree (leaf f.slot at-fold.chain)

    -- the tree with a leaf for the node, and a free slot
    occupies-after : Occupies at (put_leaf m f.slot (first at-fold.chain)) less.extent less.root (less.nodes - 1) (λ j. (j < less.nodes) × (j ≡ f.child → ⊥)) after
    unfolding after
    occupies-after =
        let one : less.nodes ≡ suc (less.nodes - 1) = omega (arith, two) in
        fold at i m less.extent less.root (less.nodes - 1) (λ j. j < less.nodes) d.tree (subst (λ (n : ℕ). Occupies at m less.extent less.root n (λ j. j < less.nodes) d.tree) one d.packed) at-fold.level at-fold.cell f.slot at-fold.t0 at-fold.t1 at-fold.t2 at-fold.t3
        at-fold.way at-fold.which at-fold.less f.child at-fold.chain at-fold.child (omega (arith, below.0, room, d.few)) at-fold.two

    written : (w : List ℕ) → w ≡ put_leaf m f.slot (word m f.child 0 - 1) → w ≡ put_leaf m f.slot (first at-fold.chain)
    written w e = e ∙ ap (put_leaf m f.slot) (let z : word m f.child 0 - 1 ≡ first at-fold.chain = omega (arith, leaf-held.tag) in z)

    hollow : (w : List ℕ) → w ≡ put_leaf m f.slot (word m f.child 0 - 1) → Hollow at w (with_less less) f.child after
    hollow w e =
        hollowed at m w less f.child after child-below (omega (arith, room, d.few)) (omega (arith, few, d.few)) (ap length (written w e) ∙ leaf_length m f.slot (first at-fold.chain))
        (subst (λ (w : List ℕ). Occupies at w less.extent less.root (less.nodes - 1) (λ j. (j < less.nodes) × (j ≡ f.child → ⊥)) after) (sym (written w e)) occupies-after)

    pub tidy-hollow : (w : List ℕ) → w ≡ put_leaf m f.slot (word m f.child 0 - 1) → (u : Tree ℕ) × Hollow at w (with_less less) f.child u
    tidy-hollow w e = (after, hollow w e)

    -- what is left to gather is the same
    same_after : gather at i q.extent (in_cells q.extent after) ≡ gather at i q.extent (in_cells q.extent t)
    unfolding after
    same_after =
        subst (λ (c : Extent). gather at i c (in_cells c (plug at i at-fold.level less.extent d.tree (leaf f.slot at-fold.chain))) ≡ gather at i c (in_cells c d.tree)) d.extent
        (plug-down at i (gather at i) (gather at i) (gather-down at i) (gather-down at i) at-fold.level less.extent d.tree at-fold.cell u (leaf f.slot at-fold.chain) at-fold.way
        (gather_leaf at i at-fold.cell at-fold.cell at-fold.chain ∙ sym at-fold.gathered))
        ∙ d.same

    pub tidy-turn : (w : List ℕ) → w ≡ put_leaf m f.slot (word m f.child 0 - 1) → (l r : Quadtree) → l ≡ with_less less → (w' : List ℕ) → ((u : Tree ℕ) → Hollow at w l f.child u → Filled at w' l r u) → Tidying at w' q r i t × (r.nodes < less.nodes)
    tidy-turn w e l r el w' h =
        let k = subst (λ (l : Quadtree). (u : Tree ℕ) → Hollow at w l f.child u → Filled at w' l r u) el h after (hollow w e) in (
          record {
            tree = k.tree;
            packed = k.packed;
            same = ap (gather at i q.extent) (subst (λ (c : Extent). in_cells c k.tree ≡ in_cells c after) d.extent k.cells) ∙ same_after;
            extent = k.extent ∙ d.extent;
            deepest = k.deepest ∙ d.deepest;
            few = omega (arith, k.nodes, d.few);
          },
          omega (arith, k.nodes, two),
        )
