-- A free slot filled: the ends of the three ways.
use mathlib.Core.Path.{◌≡◌, refl, sym, ap, ◌∙◌, subst}
use mathlib.Core.Logic.{inl, inr}
use mathlib.Core.List.{List}
use Prim.Native.Nat.{ℕ, zero, suc, ◌+◌, ◌*◌, ◌^◌, ◌≤◌, ◌<◌}
use native.Mathlib.Omega.{arith}
use lib.ListN.{length, set}
use lib.Ieee.{Float}
use Rattle.rules.specs.declared.Extent.{Extent}
use Rattle.rules.specs.Refusal.{most_particles}
use Rattle.rules.specs.Tree.{Tree, none, leaf, node, depth}
use Rattle.rules.proofs.CellCount.{Fruitful}
use Rattle.rules.proofs.CellChain.{EachLeaf}
use Rattle.tree_slots.specs.declared.Quadtree.{Quadtree}
use Rattle.tree_slots.specs.Slots.{kids, put_internal, copied, InSlots}
use Rattle.tree_slots.proofs.Trees.{each_map}
use Rattle.tree_placing.specs.Add.{Stored, pick, Reaches}
use Rattle.tree_placing.proofs.SlotsTree.{over, upd, each_child, stored_child, depth_child}
use Rattle.tree_placing.proofs.AddWay.{reach-each, plug}
use Rattle.tree_slots.specs.Trees.{lead, SlotsLent}
use Rattle.tree_removing.specs.Remove.{HasPlace, But, Hollow, Filled, LeafOf}
use Rattle.tree_removing.specs.Ways.{StandsFrom, Under, Above}
use Rattle.tree_removing.specs.declared.way.Edge.{Edge}
use Rattle.tree_removing.proofs.Plug.{fruit_child}
use Rattle.tree_removing.proofs.Replace.{occupies_slots, relabel}
use Rattle.tree_removing.proofs.Move.{relabel_cells, move_root, move-child, move-cells}
use Rattle.tree_removing.proofs.Count.{Sub, last_there, sub_of}

-- what holds of each chain holds of a leaf's
placed_of : (at : List Float) (f : ℕ) (t : Tree ℕ) → EachLeaf (λ _. HasPlace at) t → LeafOf f t → (f < most_particles) × (f * 2 + 2 ≤ length at)
placed_of at f none h m = absurd m
placed_of at f (leaf s js) h m = subst (λ (y : ℕ). (y < most_particles) × (y * 2 + 2 ≤ length at)) m h
placed_of at f (node s t0 t1 t2 t3) h (inl m) = placed_of at f t0 h.0 m
placed_of at f (node s t0 t1 t2 t3) h (inr (inl m)) = placed_of at f t1 h.1 m
placed_of at f (node s t0 t1 t2 t3) h (inr (inr (inl m))) = placed_of at f t2 h.2 m
placed_of at f (node s t0 t1 t2 t3) h (inr (inr (inr m))) = placed_of at f t3 h.3 m

module _ (at : List Float) (m : List ℕ) (q : Quadtree) (h : ℕ) (t : Tree ℕ) (g : Hollow at m q h t) where
  abbrev c : Extent
  c = q.extent

  abbrev n : ℕ
  n = q.nodes

  -- the last slot was the free one
  pub fill-last : h ≡ q.nodes → Filled at m q q t
  fill-last e =
      record {
        tree = t;
        packed = occupies_slots at m c q.root n (But n h) (λ j. j < n) (λ j y. let (a, b) = y in less j a (λ z. b (z ∙ sym e))) t g.occupies;
        cells = refl;
        extent = refl;
        nodes = refl;
        deepest = refl;
      }
    where
      less : (j : ℕ) → j < q.nodes + 1 → (j ≡ q.nodes → ⊥) → j < q.nodes
      less j a b = omega arith

  lent : SlotsLent m t
  lent = each_map (But n h) (λ j. InSlots j m) (λ j y. let (a, b) = y in omega (arith, a, g.room)) t g.occupies.slots

  module _ (ne : h ≡ q.nodes → ⊥) where
    less : h < q.nodes
    less = omega (arith, g.least)

    -- the root was in the last slot
    pub fill-root : q.root ≡ q.nodes + 1 → Filled at (copied m q.nodes h) q (record { extent = q.extent; root = h + 1; nodes = q.nodes; deepest = q.deepest }) t
    fill-root e =
        record {
          tree = relabel h t;
          packed = move_root at m c n h less g.room q.root t g.occupies (sym g.occupies.leads ∙ e);
          cells = relabel_cells h c t;
          extent = refl;
          nodes = refl;
          deepest = refl;
        }

    -- the node in the last slot
    sub : Sub at q.extent t q.nodes
    sub =
        sub_of at n c t
        (last_there n h t g.occupies.count g.occupies.once (each_map (But n h) (λ j. j < suc n) (λ j y. let (a, b) = y in omega (arith, a)) t g.occupies.slots) (each_map (But n h) (λ j. j ≡ h → ⊥) (λ j y. y.1) t g.occupies.slots) less) g.occupies.ways

    rooted : StandsFrom m q.nodes sub.tree
    rooted =
        record {
          top = sub.top;
          stored = sub.part (Stored m) (λ s t0 t1 t2 t3 h. stored_child t0 t1 t2 t3 s m h) g.occupies.stored;
          lent = sub.part (SlotsLent m) (λ s t0 t1 t2 t3 h. each_child t0 t1 t2 t3 s (λ j. InSlots j m) h) lent;
          fruitful = sub.part Fruitful (λ s t0 t1 t2 t3 h. fruit_child s t0 t1 t2 t3 h) g.occupies.fruitful;
          levels = sub.part (λ u. depth u ≤ 65) (λ s t0 t1 t2 t3 h r. omega (arith, depth_child s t0 t1 t2 t3 r, h)) g.occupies.most;
        }

    pub fill-rooted : (u : Tree ℕ) × StandsFrom m q.nodes u
    fill-rooted = (sub.tree, rooted)

    module _ (f : ℕ) (below : (u : Tree ℕ) → StandsFrom m q.nodes u → LeafOf f u) (nr : q.root ≡ q.nodes + 1 → ⊥) where
      own : LeafOf f sub.tree
      own = below sub.tree rooted

      deep : (l : ℕ) × (d : Extent) × Reaches at f (suc l) q.extent t d sub.tree
      deep = go (sub.way f own)
        where
          go : (l : ℕ) × (d : Extent) × Reaches at f l q.extent t d sub.tree → (l : ℕ) × (d : Extent) × Reaches at f (suc l) q.extent t d sub.tree
          go (zero, d, r) = absurd (nr (g.occupies.leads ∙ ap lead r.1 ∙ sub.top))
          go (suc l, d, r) = (l, d, r)

      pub fill-under : Under at m q q.nodes f t
      fill-under =
          record {
            leads = g.occupies.leads;
            stored = g.occupies.stored;
            lent = lent;
            levels = g.occupies.most;
            down = deep.0;
            cell = deep.1;
            sub = sub.tree;
            way = deep.2;
            top = sub.top;
            place = (placed_of at f t g.occupies.places (sub.up f own)).1;
            small = omega (arith, g.few);
          }

      -- the slots that are written
      pub fill-slots : (r : Edge) → Above at q.extent t q.nodes f r
          → InSlots r.slot m × (r.quadrant < 4) × InSlots q.nodes m × InSlots h m × (h + 1 < 2 ^ 32)
      fill-slots r b =
          ((reach-each at f b.level c t b.cell (node r.slot b.t0 b.t1 b.t2 b.t3) b.way (λ j. InSlots j m) lent).0, b.less, omega (arith, g.room), omega (arith, g.room, less), omega (arith, less, g.few))

      pub fill-child : (r : Edge) → Above at q.extent t q.nodes f r → (w : List ℕ)
          → w ≡ put_internal (copied m q.nodes h) r.slot (set (kids (copied m q.nodes h) r.slot) r.quadrant (h + 1)) → Filled at w q q t
      fill-child r b w e =
          record {
            tree = plug at f b.level c t (over r.slot (upd (pick b.t0 b.t1 b.t2 b.t3) r.quadrant (relabel h (pick b.t0 b.t1 b.t2 b.t3 r.quadrant))));
            packed = move-child at m c n h less g.room f q.root t g.occupies b.level b.cell r.slot b.t0 b.t1 b.t2 b.t3 b.way r.quadrant b.less b.child (omega (arith, g.few)) w e;
            cells = move-cells at m c n h less g.room f q.root t g.occupies b.level b.cell r.slot b.t0 b.t1 b.t2 b.t3 b.way r.quadrant b.less b.child (omega (arith, g.few));
            extent = refl;
            nodes = refl;
            deepest = refl;
          }
