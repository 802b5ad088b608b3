-- A larger extent: a leaf root stays where it is, an internal root is wrapped once for each doubling, and where that is refused.
use mathlib.Core.Path.{◌≡◌, refl, sym, ap, ◌∙◌, subst}
use mathlib.Core.Bool.{Bool, true, false}
use mathlib.Core.List.{List, [], ◌∷◌, ◌++◌}
use Prim.Native.Nat.{ℕ, zero, suc, ◌+◌, ◌*◌, ◌^◌, ◌≤◌, ◌<◌, max}
use native.Mathlib.Omega.{arith}
use lib.Dec.{T, eqb}
use lib.IntN.{ℤ}
use lib.ListN.{length, set}
use lib.Ieee.{Float}
use borrow.Author.Tests.{eqb-true, ne_eqb}
use Rattle.rules.specs.declared.Extent.{Extent}
use Rattle.rules.specs.Plain.{branch}
use Rattle.rules.specs.Number.{within, x_at, y_at}
use Rattle.rules.specs.Floor.{floor}
use Rattle.rules.specs.Cell.{quarter}
use Rattle.rules.specs.Cover.{Square, inside, old_quadrant, holds, extent_of}
use Rattle.rules.specs.Tree.{Tree, none, leaf, node, depth, nodes, tree_in}
use Rattle.rules.specs.Calls.{slot_words}
use Rattle.rules.proofs.CoverTerms.{Grows, done, more, next}
use Rattle.rules.proofs.Cover.{old-quadrant-less}
use Rattle.rules.proofs.CellList.{In}
use Rattle.rules.proofs.CellIs.{Is}
use Rattle.rules.proofs.CellInside.{Inside}
use Rattle.rules.proofs.CellInsert.{insert_t, insert-none}
use Rattle.rules.proofs.CellSize.{child_at, node-nodes, node-depth}
use Rattle.rules.proofs.CellWrap.{only_at, wrap_t}
use Rattle.rules.proofs.CellRule.{tree-grown, tree-passes, tree-more, insert-tree, wrapped}
use Rattle.tree_slots.specs.declared.Quadtree.{Quadtree}
use Rattle.tree_cells.specs.declared.cover.Doubled.{Doubled}
use Rattle.tree_slots.specs.Slots.{put_internal, childless}
use Rattle.tree_slots.specs.Trees.{EachSlot, Apart, Once, in_cells, lead}
use Rattle.tree_cells.specs.Cover.{square_of, Reachable, Near, DoubledTo}
use Rattle.tree_leaves.specs.Leaf.{side}
use Rattle.tree_placing.specs.Add.{Stored, Holds}
use Rattle.tree_cells.proofs.CoverNear.{doubled-to, doubled-square}
use Rattle.tree_cells.proofs.CoverLaws.{Lies, inside_lies, doubled_lies, other-quadrant}
use Rattle.tree_slots.proofs.Slots.{Small, internal_length, internal_same, node_put}
use Rattle.tree_slots.proofs.Trees.{each_map, cells_depth}
use Rattle.tree_placing.proofs.SlotsTree.{each_true, lead_le, over, upd, bare, leads, upd-below, each_over, stored-over, leads-upd, leads-small, depth-upd, nodes-upd, once_over, pair-upd, frame}
use Rattle.tree_placing.proofs.AddWay.{side_lt}
use Rattle.tree_placing.proofs.AddHold.{holds_is}

-- no doubling: the point is inside already
pub grows_none : (x y : ℤ) {n : ℕ} {s t : Square} → Grows x y n s t → n ≡ 0 → (s ≡ t) × (inside t x y ≡ true)
grows_none x y (done e) z = (refl, e)
grows_none x y (more e g) z = absurd (omega arith)

-- with another extent
abbrev pub in_extent : Extent → Quadtree → Quadtree
in_extent e q = record { extent = e; root = q.root; nodes = q.nodes; deepest = q.deepest }

module _ (at : List Float) where
  -- ---- a leaf root

  pub leaf_regrown : (is m : List ℕ) (q : Quadtree) (h : Holds at is m q) (e : Extent) (s : ℕ) (js : List ℕ) → h.tree ≡ leaf s js → Holds at is m (in_extent e q)
  leaf_regrown is m q h e s js z =
      let w : Is at q.extent (leaf q.extent js) is = subst (λ (t : Tree ℕ). Is at q.extent (in_cells q.extent t) is) z (holds_is at is m q h) in
      let g : Is at e (leaf e js) is = (refl, w.1, w.2, w.3) in
      record {
        tree = h.tree;
        root = h.root;
        stored = h.stored;
        cells = ap (in_cells e) z ∙ tree-grown at (leaf e js) e is g (omega arith);
        deepest = h.deepest;
        shallow = h.shallow;
        count = h.count;
        below = h.below;
        once = h.once;
        room = h.room;
      }

  -- ---- one wrap

  -- the old root, with its cells, in its quarter
  wrap_cells : (e c : Extent) (i x : ℕ) (s : ℕ) (t0 t1 t2 t3 : Tree ℕ) → quarter i e ≡ c → in_cells e (over x (upd bare i (node s t0 t1 t2 t3))) ≡ wrap_t e i (in_cells c (node s t0 t1 t2 t3))
  wrap_cells e c i x s t0 t1 t2 t3 z = rw (child 0, child 1, child 2, child 3)
    where
      t : Tree ℕ
      t = node s t0 t1 t2 t3

      child : (r : ℕ) → in_cells (quarter r e) (upd bare i t r) ≡ only_at i (in_cells c t) r
      child r = go (eqb r i) refl
        where
          go : (b : Bool) → eqb r i ≡ b → in_cells (quarter r e) (branch b (λ _. t) (λ _. none)) ≡ branch b (λ _. in_cells c t) (λ _. none)
          go true f = ap (λ (j : ℕ). in_cells (quarter j e) t) (eqb-true r i f) ∙ ap (λ (d : Extent). in_cells d t) z
          go false f = refl

  -- what a wrap makes of the quadtree
  abbrev pub wrapped_in : Extent → Quadtree → Quadtree
  wrapped_in e q = record { extent = e; root = q.nodes + 1; nodes = q.nodes + 1; deepest = q.deepest + 1 }

  -- all the points lie in the cell
  abbrev pub AllLie : List ℕ → Extent → Type 0
  AllLie is e = (i : ℕ) → In i is → Lies e (x_at at i) (y_at at i)

  within-inside : (is : List ℕ) (e : Extent) → AllLie is e → (i : ℕ) → In i is → Inside at e i
  within-inside is e w i m = let l = w i m in record { x = l.across; y = l.along }

  module _ (is m : List ℕ) (q : Quadtree) (h : Holds at is m q) (s : ℕ) (t0 t1 t2 t3 : Tree ℕ) (z : h.tree ≡ node s t0 t1 t2 t3)
      (e : Extent) (i : ℕ) (l : i < 4) (old : quarter i e ≡ q.extent) (w : AllLie is q.extent) (room : (q.nodes + 1) * slot_words ≤ length m) (small : q.nodes + 1 < 2 ^ 32) (levels : q.deepest + 1 ≤ 64) where
    abbrev wrap-tree : Tree ℕ
    wrap-tree = over q.nodes (upd bare i h.tree)

    wrap-depth : depth wrap-tree ≡ suc (depth h.tree)
    wrap-depth = depth-upd q.nodes bare i (depth h.tree) h.tree l (none_max (depth h.tree)) ∙ more-max (depth h.tree)
      where
        none_max : (d : ℕ) → d ≡ max 0 d
        none_max d = omega arith

        more-max : (d : ℕ) → max 1 (suc d) ≡ suc d
        more-max d = omega arith

    wrap_is : in_cells e wrap-tree ≡ tree_in at e is
    wrap_is =
        let t : Tree ℕ = node s t0 t1 t2 t3 in
        let c = q.extent in
        let g : Is at (quarter i e) (in_cells c t) is = subst (λ (d : Extent). Is at d (in_cells c t) is) (sym old) (subst (λ (t : Tree ℕ). Is at c (in_cells c t) is) z (holds_is at is m q h)) in
        let f : in_cells e wrap-tree ≡ wrap_t e i (in_cells c t) = ap (λ (t : Tree ℕ). in_cells e (over q.nodes (upd bare i t))) z ∙ wrap_cells e c i q.nodes s t0 t1 t2 t3 old in
        let v : Is at e (wrap_t e i (in_cells c t)) is = wrapped at e i (in_cells c t) is l (λ j k. subst (λ (d : Extent). Inside at d j) (sym old) (within-inside is c w j k)) g in
        f ∙ tree-grown at (wrap_t e i (in_cells c t)) e is v (subst (λ (n : ℕ). n ≤ 65) (sym (cells_depth e wrap-tree) ∙ ap depth f) (omega (arith, wrap-depth, h.deepest)))

    pub wrap_holds : (b : List ℕ) → b ≡ put_internal m q.nodes (set childless i q.root) → Holds at is b (wrapped_in e q)
    wrap_holds b f =
        let x : ℕ = q.nodes in
        let ks : List ℕ = set childless i q.root in
        let k : ℕ → Tree ℕ = upd bare i h.tree in
        let numbers : ks ≡ leads k = leads-upd bare i q.root h.tree l h.root in
        let v : List ℕ = put_internal m x ks in
        let fits : Small (leads k) = leads-small x k (omega arith) (upd-below (λ r u. lead u ≤ x) bare i h.tree (lead_le x h.tree h.below) (λ r l n. omega arith)) in
        record {
          tree = wrap-tree;
          root = refl;
          stored =
              subst (λ (b : List ℕ). Stored b wrap-tree) (sym f)
              (stored-over v x k (node_put m x ks (k 0) (k 1) (k 2) (k 3) (omega arith) fits numbers)
              (upd-below (λ r u. Stored v u) bare i h.tree (frame m v (λ j. j < x) (λ j y. internal_same m x ks j (omega arith)) h.tree h.below h.stored) (λ r l n. tt)));
          cells = wrap_is;
          deepest = omega (arith, wrap-depth, h.deepest);
          shallow = levels;
          count = omega (arith, nodes-upd x bare i h.tree l, h.count);
          below = each_over (λ j. j < x + 1) x k (omega arith) (upd-below (λ r u. EachSlot (λ j. j < x + 1) u) bare i h.tree (each_map (λ j. j < x) (λ j. j < x + 1) (λ j y. omega arith) h.tree h.below) (λ r l n. tt));
          once =
              once_over x k
              (upd-below (λ r u. EachSlot (λ j. j ≡ x → ⊥) u) bare i h.tree (each_map (λ j. j < x) (λ j. j ≡ x → ⊥) (λ j y z. omega arith) h.tree h.below) (λ r l n. tt))
              (pair-upd Apart bare i h.tree (λ a b c d n. tt) (λ r l n. each_true (λ j. Unit {0}) (λ j. tt) h.tree) (λ r l n. tt))
              (upd-below (λ r u. Once u) bare i h.tree h.once (λ r l n. tt));
          room = omega (arith, ap length f, internal_length m x ks);
        }

  -- ---- all wraps, before anything is written

  abbrev pub Internal : Tree Extent → Type 0
  Internal none = ⊥
  Internal (leaf d js) = ⊥
  Internal (node d t0 t1 t2 t3) = Unit {0}

  single-size : (e : Extent) (i : ℕ) (t : Tree Extent) → i < 4 → (depth (node e (only_at i t 0) (only_at i t 1) (only_at i t 2) (only_at i t 3)) ≡ suc (depth t)) × (nodes (node e (only_at i t 0) (only_at i t 1) (only_at i t 2) (only_at i t 3)) ≡ suc (nodes t))
  single-size e zero t l = (omega arith, omega arith)
  single-size e (suc zero) t l = (omega arith, omega arith)
  single-size e (suc (suc zero)) t l = (omega arith, omega arith)
  single-size e (suc (suc (suc zero))) t l = (omega arith, omega arith)
  single-size e (suc (suc (suc (suc i)))) t l = absurd (omega arith)

  wrap_size : (e : Extent) (i : ℕ) (t : Tree Extent) → i < 4 → Internal t → (depth (wrap_t e i t) ≡ suc (depth t)) × (nodes (wrap_t e i t) ≡ suc (nodes t)) × Internal (wrap_t e i t)
  wrap_size e i none l h = absurd h
  wrap_size e i (leaf d js) l h = absurd h
  wrap_size e i (node d t0 t1 t2 t3) l h = let z = single-size e i (node d t0 t1 t2 t3) l in (z.0, z.1, tt)

  -- any quarter but the old root's is empty
  wrap_hole : (e : Extent) (i : ℕ) (t : Tree Extent) (q : ℕ) → q < 4 → (q ≡ i → ⊥) → child_at q (wrap_t e i t) ≡ none
  wrap_hole e i none q l n = refl
  wrap_hole e i (leaf d js) q l n = refl
  wrap_hole e i (node d t0 t1 t2 t3) zero l n = rw (ne_eqb 0 i n)
  wrap_hole e i (node d t0 t1 t2 t3) (suc zero) l n = rw (ne_eqb 1 i n)
  wrap_hole e i (node d t0 t1 t2 t3) (suc (suc zero)) l n = rw (ne_eqb 2 i n)
  wrap_hole e i (node d t0 t1 t2 t3) (suc (suc (suc zero))) l n = rw (ne_eqb 3 i n)
  wrap_hole e i (node d t0 t1 t2 t3) (suc (suc (suc (suc q)))) l n = absurd (omega arith)

  module _ (p : ℕ) (is : List ℕ) (range : (i : ℕ) → In i is → T (within (x_at at i)) × T (within (y_at at i))) where
    abbrev x : Float
    x = x_at at p

    abbrev y : Float
    y = y_at at p

    -- The tree of the points in an extent that n wraps lead to: it has n levels and n nodes more, and p's quarter is empty.
    record Wraps (t : Tree Extent) (n : ℕ) (to : Square) : Type 0 where
      extent : Extent
      tree : Tree Extent
      square : square_of extent ≡ to
      reachable : Reachable extent
      internal : Internal tree
      rule : Is at extent tree is
      hole : child_at (side at p extent) tree ≡ none
      levels : depth tree ≡ depth t + n
      count : nodes tree ≡ nodes t + n

    module _ (e : Extent) (near : Near e x y) (w : AllLie is e) (out : inside (square_of e) (floor x) (floor y) ≡ false) where
      abbrev answer : Doubled
      answer = record { extent = extent_of (holds (next (square_of e) (floor x) (floor y))); quadrant = old_quadrant (square_of e) (floor x) (floor y) }

      doubles : DoubledTo e (floor x) (floor y) answer
      doubles = doubled-to near out answer refl refl

      pub next-near : {r : Doubled} → DoubledTo e (floor x) (floor y) r → Near r.extent x y
      next-near d = record { reachable = d.reachable; across = near.across; along = near.along }

      pub next-within : {r : Doubled} → DoubledTo e (floor x) (floor y) r → AllLie is r.extent
      next-within d i m = doubled_lies near out d (record { reachable = near.reachable; across = (range i m).0; along = (range i m).1 }) (w i m)

      pub next-less : {r : Doubled} → DoubledTo e (floor x) (floor y) r → r.quadrant < 4
      next-less d = subst (λ (q : ℕ). q < 4) (sym d.quadrant) (old-quadrant-less (square_of e) (floor x) (floor y))

      next-is : (t : Tree Extent) → Is at e t is → Is at answer.extent (wrap_t answer.extent answer.quadrant t) is
      next-is t h =
          wrapped at answer.extent answer.quadrant t is (next-less doubles) (λ i m. subst (λ (c : Extent). Inside at c i) (sym doubles.old) (within-inside is e w i m))
          (subst (λ (c : Extent). Is at c t is) (sym doubles.old) h)

      next-hole : (t : Tree Extent) → inside (square_of answer.extent) (floor x) (floor y) ≡ true → child_at (side at p answer.extent) (wrap_t answer.extent answer.quadrant t) ≡ none
      next-hole t i = wrap_hole answer.extent answer.quadrant t (side at p answer.extent) (side_lt at p answer.extent) (other-quadrant near out doubles (inside_lies (next-near doubles) i))

    wraps : {n : ℕ} {s t : Square} → Grows (floor x) (floor y) n s t → (e : Extent) (u : Tree Extent) → square_of e ≡ s → Near e x y → AllLie is e → Internal u → Is at e u is → (n ≡ 0 → child_at (side at p e) u ≡ none) → Wraps u n t
    wraps (done i) e u z near w h g f =
        record { extent = e; tree = u; square = z; reachable = near.reachable; internal = h; rule = g; hole = f refl; levels = omega arith; count = omega arith }
    wraps (more {n = n} {t = t} o go) e u z near w h g f =
        let out : inside (square_of e) (floor x) (floor y) ≡ false = subst (λ (s : Square). inside s (floor x) (floor y) ≡ false) (sym z) o in
        let d = doubles e near w out in
        let r = answer e near w out in
        let v : Tree Extent = wrap_t r.extent r.quadrant u in
        let k = wrap_size r.extent r.quadrant u (next-less e near w out d) h in
        let to : square_of r.extent ≡ next (square_of e) (floor x) (floor y) = doubled-square near out d in
        let next-to = to ∙ ap (λ (s : Square). next s (floor x) (floor y)) z in
        let rest = wraps go r.extent v next-to (next-near e near w out d) (next-within e near w out d) k.2 (next-is e near w out u g)
        (λ b. let a = grows_none (floor x) (floor y) go b in next-hole e near w out u (subst (λ (s : Square). inside s (floor x) (floor y) ≡ true) (sym (next-to ∙ a.0)) a.1)) in
        record {
          extent = rest.extent;
          tree = rest.tree;
          square = rest.square;
          reachable = rest.reachable;
          internal = rest.internal;
          rule = rest.rule;
          hole = rest.hole;
          levels = omega (arith, rest.levels, k.0);
          count = omega (arith, rest.count, k.1);
        }

    -- one point more in an internal node whose quarter for it is empty
    hole-more : (e : Extent) (t : Tree Extent) → Internal t → child_at (side at p e) t ≡ none → depth t ≤ 65 → (depth (insert_t at p e 65 t) ≤ 65) × (nodes (insert_t at p e 65 t) ≡ nodes t + 1)
    hole-more e none h f l = absurd h
    hole-more e (leaf d js) h f l = absurd h
    hole-more e (node d t0 t1 t2 t3) h f l =
        let t : Tree Extent = node d t0 t1 t2 t3 in
        let c : Extent = quarter (side at p e) e in
        let new : insert_t at p c 64 (child_at (side at p e) t) ≡ leaf c (p ∷ []) = ap (insert_t at p c 64) f ∙ insert-none at p c 64 in (
          (node-depth at p e d 64 t0 t1 t2 t3 l).1 (subst (λ (u : Tree Extent). depth u ≤ 64) (sym new) (omega arith)),
          omega (arith, node-nodes at p e d 64 t0 t1 t2 t3, ap nodes new, ap nodes f),
        )

    module _ (n : ℕ) (e : Extent) (u : Tree Extent) (near : Near e x y) (w : AllLie is e) (h : Internal u) (g : Is at e u is) (to : Extent) (re : Reachable to) (go : Grows (floor x) (floor y) (suc n) (square_of e) (square_of to)) where
      all-wraps : Wraps u (suc n) (square_of to)
      all-wraps = wraps go e u refl near w h g (λ z. absurd (omega arith))

      at-end : all-wraps.extent ≡ to
      at-end = all-wraps.reachable.is ∙ ap (λ (s : Square). extent_of (holds s)) all-wraps.square ∙ sym re.is

      wrapped-is : Is at to all-wraps.tree is
      wrapped-is = subst (λ (c : Extent). Is at c all-wraps.tree is) at-end all-wraps.rule

      -- the old leaves would pass the last level
      pub wrap-deep : 65 < depth u + suc n → 65 < depth (tree_in at to (is ++ (p ∷ [])))
      wrap-deep l =
          let a : depth (tree_in at to is) ≡ 66 = tree-passes at all-wraps.tree to is wrapped-is (subst (λ (d : ℕ). 65 < d) (sym all-wraps.levels) l) in
          omega (arith, (tree-more at to is (p ∷ [])).levels)

      -- a node for each wrap, and one for the new leaf
      pub wrap-full : depth u + suc n ≤ 65 → (depth (tree_in at to (is ++ (p ∷ []))) ≤ 65) × (nodes (tree_in at to (is ++ (p ∷ []))) ≡ nodes u + suc n + 1)
      wrap-full l =
          let v : Tree Extent = all-wraps.tree in
          let f : child_at (side at p to) v ≡ none = subst (λ (c : Extent). child_at (side at p c) v ≡ none) at-end all-wraps.hole in
          let a = hole-more to v all-wraps.internal f (subst (λ (d : ℕ). d ≤ 65) (sym all-wraps.levels) l) in
          let b : insert_t at p to 65 v ≡ tree_in at to (is ++ (p ∷ [])) = insert-tree at p v to is wrapped-is a.0 in
          (subst (λ (t : Tree Extent). depth t ≤ 65) b a.0, sym (ap nodes b) ∙ a.1 ∙ ap (λ (k : ℕ). k + 1) all-wraps.count)
