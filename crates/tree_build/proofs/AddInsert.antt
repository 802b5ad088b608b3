-- The turns of wrapping, and what an insertion with a covered extent does or refuses.
use mathlib.Core.Path.{◌≡◌, refl, sym, ap, ◌∙◌, subst, subst₂}
use mathlib.Core.Bool.{Bool, true, false}
use mathlib.Core.List.{List, [], ◌∷◌, ◌++◌}
use Prim.Native.Nat.{ℕ, suc, ◌+◌, ◌-◌, ◌*◌, ◌/◌, ◌≤◌, ◌<◌}
use native.Mathlib.Omega.{arith}
use lib.Dec.{T}
use lib.IntN.{ℤ}
use lib.ListN.{length, get_or, set, length-set}
use lib.Seq.{get_or-set_same}
use lib.Ieee.{Float}
use Rattle.std.specs.Prelude.{Result, Ok, Err}
use Rattle.rules.specs.declared.Reason.{Reason}
use Rattle.rules.specs.declared.Reason.TheVariants.{TooDeep, NoSlotLeft}
use Rattle.rules.specs.Reason.{number_of}
use Rattle.rules.specs.declared.Extent.{Extent}
use Rattle.rules.specs.declared.Refusal.{Refusal}
use Rattle.rules.specs.Number.{within, x_at, y_at}
use Rattle.rules.specs.Floor.{floor}
use Rattle.rules.specs.Cover.{Square, inside, holds, extent_of}
use Rattle.rules.specs.Outcome.{refused, refusal}
use Rattle.rules.specs.Tree.{Tree, none, leaf, node, depth, nodes, tree_in, greatest_level, fits_check}
use Rattle.rules.specs.Calls.{slot_words, slots_of}
use Rattle.rules.proofs.CoverTerms.{Grows, done, more, next}
use Rattle.rules.proofs.CellList.{In}
use Rattle.rules.proofs.CellInside.{Inside}
use Rattle.rules.proofs.CellInsert.{insert_t}
use Rattle.rules.proofs.CellIs.{Is}
use Rattle.rules.proofs.CellRule.{insert-tree, insert-none}
use Rattle.tree_slots.specs.declared.Quadtree.{Quadtree}
use Rattle.tree_cells.specs.declared.cover.Doubled.{Doubled}
use Rattle.tree_cells.specs.declared.cover.Covered.{Covered}
use Rattle.tree_slots.specs.Slots.{word, put_internal, childless, InSlots}
use Rattle.tree_slots.specs.Trees.{in_cells, lead, LeafIn, InternalIn}
use Rattle.tree_cells.specs.Cover.{square_of, Near, DoubledTo}
use Rattle.tree_leaves.specs.Chain.{Linked}
use Rattle.tree_build.specs.Depth.{Deepest, with_deepest, LevelsBounded}
use Rattle.tree_placing.specs.Add.{Holds, Seeks, Puts, Alone, more_check, Grown, Placed, Covers, Wraps, Wrapped, Planted}
use Rattle.tree_cells.proofs.CoverNear.{doubled-square}
use Rattle.tree_cells.proofs.CoverLaws.{Lies, covered_grows}
use Rattle.tree_cells.proofs.Prefix.{fits-fine, fits-deep, fits_full}
use Rattle.tree_slots.proofs.Slots.{internal_length, internal_tag, leaf_length, leaf_put}
use Rattle.tree_placing.proofs.SlotsTree.{lead_le}
use Rattle.tree_placing.proofs.Roots.{root_node, root_leaf}
use Rattle.tree_placing.proofs.AddChain.{begin-linked}
use Rattle.tree_slots.proofs.Trees.{each_map, cells_depth, cells_nodes}
use Rattle.tree_placing.proofs.AddHold.{holds_most, holds_is}
use Rattle.tree_build.proofs.AddWrap.{grows_none, in_extent, Internal, leaf_regrown, wrapped_in, wrap_holds, next-near, next-within, next-less, wrap-deep, wrap-full}
use Rattle.tree_placing.proofs.AddPlaced.{before-points, grown, few, placed, kept}

pub is_T : (b : Bool) → b ≡ true → T b
is_T b e = subst T (sym e) tt

-- how deep it goes
pub bounded : (at : List Float) (is m : List ℕ) (q : Quadtree) (h : Holds at is m q) → 0 < q.root → LevelsBounded m q h.tree
bounded at is m q h l =
    record {
      goes = record { leads = h.root; stored = h.stored; slots = each_map (λ j. j < q.nodes) (λ j. InSlots j m) (λ j k. omega (arith, h.room)) h.tree h.below; levels = omega (arith, holds_most at is m q h) };
      rooted = l;
      bounds = h.deepest;
      shallow = h.shallow;
    }

-- one doubling less
grows_some : (x y : ℤ) {n : ℕ} {s t : Square} → Grows x y n s t → 0 < n → (inside s x y ≡ false) × Grows x y (n - 1) (next s x y) t
grows_some x y (done e) l = absurd (omega arith)
grows_some x y (more {n = n} {s = s} {t = t} e g) l = (e, subst (λ (k : ℕ). Grows x y k (next s x y) t) (let z : n ≡ suc n - 1 = omega arith in z) g)

module _ (at : List Float) where
  in_range : (is : List ℕ) → ((i : ℕ) → In i is → (within (x_at at i) ≡ true) × (within (y_at at i) ≡ true)) → (i : ℕ) → In i is → T (within (x_at at i)) × T (within (y_at at i))
  in_range is h i m = let r = h i m in (is_T (within (x_at at i)) r.0, is_T (within (y_at at i)) r.1)

  all_lie : (is : List ℕ) (e : Extent) → ((i : ℕ) → In i is → Inside at e i) → (i : ℕ) → In i is → Lies e (x_at at i) (y_at at i)
  all_lie is e h i m = let w = h i m in record { across = w.x; along = w.y }

  -- ---- the turns of wrapping

  module _ (is m : List ℕ) (q : Quadtree) (to : Extent) (p n : ℕ) (w : Wraps at is m q to p n) where
    -- how many doublings are left makes the point outside or inside
    module _ (some : 0 < n) where
      rest : (inside (square_of q.extent) (floor (x_at at p)) (floor (y_at at p)) ≡ false) × Grows (floor (x_at at p)) (floor (y_at at p)) (n - 1) (next (square_of q.extent) (floor (x_at at p)) (floor (y_at at p))) (square_of to)
      rest = grows_some (floor (x_at at p)) (floor (y_at at p)) w.grows some

      pub wrap-asks : Near q.extent (x_at at p) (y_at at p) × (inside (square_of q.extent) (floor (x_at at p)) (floor (y_at at p)) ≡ false)
      wrap-asks = (w.near, rest.0)

      lie : (i : ℕ) → In i is → Lies q.extent (x_at at i) (y_at at i)
      lie = all_lie is q.extent w.inside

      range : (i : ℕ) → In i is → T (within (x_at at i)) × T (within (y_at at i))
      range = in_range is w.ranged

      module _ (d : Doubled) (f : DoubledTo q.extent (floor (x_at at p)) (floor (y_at at p)) d) where
        pub wrap-quadrant : d.quadrant < 4
        wrap-quadrant = next-less at p is range q.extent w.near lie rest.0 f

        pub wrap-turn : (b : List ℕ) → b ≡ put_internal m q.nodes (set childless d.quadrant q.root) → Wraps at is b (wrapped_in at d.extent q) to p (n - 1)
        wrap-turn b e =
            let (s, t0, t1, t2, t3, z) = root_node m w.holds.tree q.root w.holds.root w.rooted w.internal w.holds.stored in
            let room : (q.nodes + 1) * slot_words ≤ length m = omega (arith, w.room) in
            let x : q.nodes + 1 - 1 ≡ q.nodes = omega arith in
            let tag : InternalIn (put_internal m q.nodes (set childless d.quadrant q.root)) q.nodes = internal_tag m q.nodes (set childless d.quadrant q.root) (omega arith) in
            let after = next-within at p is range q.extent w.near lie rest.0 f in
            record {
              holds = wrap_holds at is m q w.holds s t0 t1 t2 t3 z d.extent d.quadrant wrap-quadrant f.old lie room (omega (arith, w.small)) (omega (arith, w.levels)) b e;
              rooted = omega arith;
              internal = ap (λ (j : ℕ). word b j 0) x ∙ ap (λ (b : List ℕ). word b q.nodes 0) e ∙ tag;
              near = next-near at p is range q.extent w.near lie rest.0 f;
              ranged = w.ranged;
              inside = λ i l. (let a = after i l in record { x = a.across; y = a.along });
              grows = subst (λ (s : Square). Grows (floor (x_at at p)) (floor (y_at at p)) (n - 1) s (square_of to)) (sym (doubled-square w.near rest.0 f)) rest.1;
              end = w.end;
              levels = omega (arith, w.levels);
              room = omega (arith, w.room, ap length e, internal_length m q.nodes (set childless d.quadrant q.root));
              small = omega (arith, w.small);
              read = w.read;
            }

    pub wrap-root : q.root ≤ q.nodes
    wrap-root = omega (arith, w.holds.root, lead_le q.nodes w.holds.tree w.holds.below)

    pub wrap-end : n ≤ 0 → Wrapped at is m to q
    wrap-end z =
        let e : square_of q.extent ≡ square_of to = (grows_none (floor (x_at at p)) (floor (y_at at p)) w.grows (omega arith)).0 in
        record { holds = w.holds; extent = w.near.reachable.is ∙ ap (λ (s : Square). extent_of (holds s)) e ∙ sym w.end.is; rooted = w.rooted }

  -- ---- an insertion

  module _ (is m : List ℕ) (q : Quadtree) (c : Covered) (p : ℕ) (g : Seeks at is m q p) where
    -- the first particle

    module _ (z : q.root ≡ 0) where
      pub no-points : is ≡ []
      no-points = nothing g.holds.tree (sym g.holds.root ∙ z) (holds_is at is m q g.holds)
        where
          nothing : (t : Tree ℕ) → lead t ≡ 0 → Is at q.extent (in_cells q.extent t) is → is ≡ []
          nothing none e h = h
          nothing (leaf s js) e h = absurd (omega arith)
          nothing (node s t0 t1 t2 t3) e h = absurd (omega arith)

      first-cells : leaf c.extent (p ∷ []) ≡ tree_in at c.extent (is ++ (p ∷ []))
      first-cells =
          let e = c.extent in
          let a : insert_t at p e 65 none ≡ leaf e (p ∷ []) = insert-none at p e 65 in
          sym a ∙ insert-tree at p none e is no-points (subst (λ (t : Tree Extent). depth t ≤ 65) (sym a) (omega arith))

      first_refused : (w : List ℕ) (r : Refusal) → fits_check (slots_of w) p (leaf c.extent (p ∷ [])) ≡ refused r → more_check at is w c.extent p ≡ refused r
      first_refused w r h = subst (λ (t : Tree Extent). fits_check (slots_of w) p t ≡ refused r) first-cells h

      pub first-grown : (w : List ℕ) (r : Result Quadtree Reason) → Planted m w c.extent p r → Grown at is w c.extent p r
      first-grown w (Ok r) (fits, (ew, er)) =
          let (levels, room) = (fits-fine (slots_of w) p (leaf c.extent (p ∷ []))).0 fits in
          grown at is w c.extent p r
          (subst (Holds at (is ++ (p ∷ [])) w) (sym er)
          (record {
            tree = leaf 0 (p ∷ []);
            root = refl;
            stored = subst (λ (w : List ℕ). LeafIn w 0 (p ∷ [])) (sym ew) (leaf_put m 0 p (p ∷ []) (omega (arith, ap length ew, leaf_length m 0 p)) refl);
            cells = first-cells;
            deepest = omega arith;
            shallow = omega arith;
            count = refl;
            below = omega arith;
            once = tt;
            room = omega arith;
          }))
          (ap (λ (r : Quadtree). r.extent) er)
      first-grown w (Err reason) h = first_refused w (refusal (number_of reason) p) h

    -- a leaf root

    pub leaf-enlarged : 0 < q.root → (InternalIn m (q.root - 1) → ⊥) → Wrapped at is m c.extent (in_extent c.extent q)
    leaf-enlarged l n =
        let (s, js, z) = root_leaf m g.holds.tree q.root g.holds.root l n g.holds.stored in
        record { holds = leaf_regrown at is m q g.holds c.extent s js z; extent = refl; rooted = l }

    -- an internal root; d bounds its deepest level, and is that level where there isn't room for the doublings below it

    module _ (rooted : 0 < q.root) (root-internal : InternalIn m (q.root - 1)) (f : Covers at q c p) (d : ℕ) (b : Deepest c.doublings g.holds.tree d) where
      abbrev e : Extent
      e = q.extent

      abbrev v : Extent
      v = c.extent

      abbrev u : Tree Extent
      u = in_cells q.extent g.holds.tree

      all-range : (i : ℕ) → In i is → (within (x_at at i) ≡ true) × (within (y_at at i) ≡ true)
      all-range i n = g.ranged i (omega (arith, g.earlier i n))

      lies : (i : ℕ) → In i is → Inside at e i
      lies i n = f.inside i (g.earlier i n)

      levels : depth u ≡ depth g.holds.tree
      levels = cells_depth e g.holds.tree

      count : nodes u ≡ q.nodes
      count = cells_nodes e g.holds.tree ∙ g.holds.count

      internal : Internal at u
      internal =
          let (s, t0, t1, t2, t3, z) = root_node m g.holds.tree q.root g.holds.root rooted root-internal g.holds.stored in
          subst (λ (t : Tree ℕ). Internal at (in_cells e t)) (sym z) tt

      -- at least one doubling
      module _ (some : 0 < c.doublings) where
        doublings-are : suc (c.doublings - 1) ≡ c.doublings
        doublings-are = omega arith

        go : Grows (floor (x_at at p)) (floor (y_at at p)) (suc (c.doublings - 1)) (square_of e) (square_of v)
        go = subst (λ (k : ℕ). Grows (floor (x_at at p)) (floor (y_at at p)) k (square_of e) (square_of v)) (sym doublings-are) (covered_grows f.near f.covered)

        some-deep : greatest_level < d + c.doublings → (w : List ℕ) → Grown at is w v p (Err TooDeep)
        some-deep l w =
            fits-deep (slots_of w) p (tree_in at v (is ++ (p ∷ [])))
            (wrap-deep at p is (in_range is all-range) (c.doublings - 1) e u f.near (all_lie is e lies) internal (holds_is at is m q g.holds) v f.covered.reachable go (omega (arith, levels, b.exact l, doublings-are)))

        some-full : d + c.doublings ≤ greatest_level → slots_of m < q.nodes + c.doublings → Grown at is m v p (Err NoSlotLeft)
        some-full shallow l =
            let r = wrap-full at p is (in_range is all-range) (c.doublings - 1) e u f.near (all_lie is e lies) internal (holds_is at is m q g.holds) v f.covered.reachable go (omega (arith, levels, b.bounds, doublings-are)) in
            fits_full (slots_of m) p (tree_in at v (is ++ (p ∷ []))) r.0 (more r.1)
          where
            more : {k : ℕ} → k ≡ nodes u + suc (c.doublings - 1) + 1 → slots_of m < k
            more e = omega (arith, count, doublings-are)

      pub enlarge-deep : greatest_level < d + c.doublings → (w : List ℕ) → Grown at is w v p (Err TooDeep)
      enlarge-deep l = some-deep (omega (arith, b.shallow)) l

      module _ (shallow : d + c.doublings ≤ greatest_level) where
        pub enlarge-full : slots_of m < q.nodes + c.doublings → Grown at is m v p (Err NoSlotLeft)
        enlarge-full l = some-full (some (length m) g.holds.room l) shallow l
          where
            some : (n : ℕ) → q.nodes * slot_words ≤ n → n / slot_words < q.nodes + c.doublings → 0 < c.doublings
            some n a b = omega arith

        pub enlarge-asks : q.nodes + c.doublings ≤ slots_of m → Wraps at is m (with_deepest d q) v p c.doublings
        enlarge-asks l =
            let h = g.holds in
            record {
              holds = record { tree = h.tree; root = h.root; stored = h.stored; cells = h.cells; deepest = b.bounds; shallow = b.shallow; count = h.count; below = h.below; once = h.once; room = h.room };
              rooted = rooted;
              internal = root-internal;
              near = f.near;
              ranged = all-range;
              inside = lies;
              grows = covered_grows f.near f.covered;
              end = f.covered.reachable;
              levels = shallow;
              room = omega arith;
              small = omega (arith, few at is m q p g, shallow);
              read = g.read;
            }

  -- ---- with the chains

  module _ (is m nx tail : List ℕ) (q : Quadtree) (c : Covered) (p : ℕ) (g : Puts at is m nx tail q p) (a b : List ℕ) (ea : a ≡ set nx p 0) (eb : b ≡ set tail p p) where
    pub begun-alone : Alone a b p
    begun-alone = (ap (λ (l : List ℕ). get_or l p 0) ea ∙ get_or-set_same nx p 0 0 g.in_next, ap (λ (l : List ℕ). get_or l p 0) eb ∙ get_or-set_same tail p p 0 g.in_tail)

    pub begun-puts : (w : List ℕ) (r : Quadtree) → Holds at is w r → Puts at is w a b r p
    begun-puts w r h =
        let k = g.seeks in
        record {
          seeks = record { holds = h; rises = k.rises; earlier = k.earlier; ranged = k.ranged; few = k.few; read = k.read };
          linked = subst₂ (λ (x y : List ℕ). Linked at is x y) (sym ea) (sym eb) (begin-linked at is p nx tail g.linked k.earlier (before-points at is m q p k));
          in_next = omega (arith, g.in_next, ap length ea, length-set nx p 0);
          in_tail = omega (arith, g.in_tail, ap length eb, length-set tail p p);
        }

    pub first-placed : q.root ≡ 0 → (w : List ℕ) (r : Result Quadtree Reason) → Planted m w c.extent p r → Placed at is w a b c.extent p r
    first-placed z w r h =
        placed at is w a b c.extent p r (first-grown is m q c p g.seeks z w r h)
        (kept at is m a b q p (begun-puts m q g.seeks.holds) begun-alone (λ i k e. subst (In i) (no-points is m q c p g.seeks z) k))
