-- A tree in slots, taken apart for its listing.
use mathlib.Core.Path.{◌≡◌, refl, ap, ◌∙◌}
use mathlib.Core.List.{List, [], ◌∷◌, ◌++◌}
use Prim.Native.Nat.{ℕ, zero, suc, ◌+◌, ◌*◌, ◌≤◌, ◌<◌}
use native.Mathlib.Omega.{arith}
use lib.ListN.{length, get_or, length-append}
use Rattle.rules.specs.Refusal.{most_particles}
use Rattle.rules.specs.Tree.{Tree, none, leaf, node, nodes, Row, row, rows_from, flat, chains_of, row_numbers}
use Rattle.rules.specs.Plain.{overwritten}
use Rattle.tree_slots.specs.Trees.{word, kids, first, Follows, Trails, Below, InSlots}
use Rattle.tree_rows.specs.List.{ListableLeaf, StandsAt, Listable, RowsWritten}
use Rattle.tree_rows.specs.declared.Cursor.{Cursor}
use Rattle.tree_slots.proofs.Links.{follows_trails}
use Rattle.tree_rows.proofs.ListRows.{rows_count, wrote_internal, wrote-next, wrote-rows, wrote-chains}

-- ---- numbers below a bound

below-append : (n : ℕ) (is js : List ℕ) → Below n (is ++ js) → Below n is × Below n js
below-append n [] js b = (tt, b)
below-append n (i ∷ is) js b = let r = below-append n is js b.1 in ((b.0, r.0), r.1)

module _ {m next : List ℕ} {p level : ℕ} where
  -- 0 leads to no tree
  pub stands_none : (t : Tree ℕ) → StandsAt m next p level t → p ≡ 0 → t ≡ none
  stands_none none l z = refl
  stands_none (leaf s is) l z = absurd (omega (arith, l.leads.0))
  stands_none (node s t0 t1 t2 t3) l z = absurd (omega (arith, l.leads.0))

-- any other number leads to a node, whose slot s is there
pub record Some (m : List ℕ) (s level : ℕ) (t : Tree ℕ) : Type 0 where
  pub slot : InSlots s m
  pub shallow : level ≤ 64
  pub one : 1 ≤ nodes t

-- with a first word that is not 0 it is a leaf, whose chain begins there
pub record IsLeaf (next : List ℕ) (w : ℕ) (t : Tree ℕ) : Type 0 where
  pub label : ℕ
  pub chain : List ℕ
  pub is : t ≡ leaf label chain
  pub trails : Trails next w chain
  pub below : Below (length next) chain
  pub small : w ≤ length next

module _ {m next : List ℕ} {p level : ℕ} (s : ℕ) where
  pub stands_some : (t : Tree ℕ) → StandsAt m next p level t → p ≡ s + 1 → Some m s level t
  stands_some none l e = absurd (omega (arith, l.leads))
  stands_some (leaf i is) l e = record { slot = omega (arith, l.leads.0, l.slots); shallow = omega (arith, l.levels); one = omega arith }
  stands_some (node i t0 t1 t2 t3) l e = record { slot = omega (arith, l.leads.0, l.slots.0); shallow = omega (arith, l.levels); one = omega arith }

  pub stands_leaf : {w : ℕ} (t : Tree ℕ) → StandsAt m next p level t → p ≡ s + 1 → w ≡ word m s 0 → (w ≡ 0 → ⊥) → IsLeaf next w t
  stands_leaf none l e k g = absurd (omega (arith, l.leads))
  stands_leaf {w} (leaf i is) l e k g =
      let n : s ≡ i = omega (arith, l.leads.0) in
      let h : w ≡ first is + 1 = k ∙ ap (λ (i : ℕ). word m i 0) n ∙ l.leads.1.tag in
      record { label = i; chain = is; is = refl; trails = rw h (follows_trails next is l.leads.2); below = l.below; small = go is h l.leads.2 l.below }
    where
      go : (is : List ℕ) → w ≡ first is + 1 → Follows next is → Below (length next) is → w ≤ length next
      go [] h c b = absurd c
      go (i ∷ is) h c b = omega (arith, b.0)
  stands_leaf (node i t0 t1 t2 t3) l e k g =
      let n : s ≡ i = omega (arith, l.leads.0) in
      absurd (g (k ∙ ap (λ (i : ℕ). word m i 0) n ∙ l.leads.1.tag))

-- which can be listed
pub leaf_listable : {m next : List ℕ} {p level k rows chains : ℕ} {at : Cursor} {t : Tree ℕ} → Listable m next p level rows chains at t → (l : IsLeaf next k t)
    → ListableLeaf next k rows chains at l.chain
leaf_listable {t = t} w l =
    let n : nodes t ≡ 1 = ap nodes l.is in
    let e : chains_of t ≡ l.chain = ap chains_of l.is in
    record {
      chain = record { trails = l.trails; below = l.below; room = rw e at w.space };
      room = omega (arith, w.room);
      few = w.few.1;
    }

-- with a first word that is 0 it is an internal node, over the trees that its children lead to
pub record IsNode (m next ks : List ℕ) (level : ℕ) (t : Tree ℕ) : Type 0 where
  pub label : ℕ
  pub t0 : Tree ℕ
  pub t1 : Tree ℕ
  pub t2 : Tree ℕ
  pub t3 : Tree ℕ
  pub is : t ≡ node label t0 t1 t2 t3
  pub l0 : StandsAt m next (get_or ks 0 0) (level + 1) t0
  pub l1 : StandsAt m next (get_or ks 1 0) (level + 1) t1
  pub l2 : StandsAt m next (get_or ks 2 0) (level + 1) t2
  pub l3 : StandsAt m next (get_or ks 3 0) (level + 1) t3
  pub nodes : nodes t ≡ 1 + nodes t0 + nodes t1 + nodes t2 + nodes t3
  pub chains : length (chains_of t) ≡ length (chains_of t0) + length (chains_of t1) + length (chains_of t2) + length (chains_of t3)

pub stands_node : {m next ks : List ℕ} {p level w : ℕ} (s : ℕ) (t : Tree ℕ) → StandsAt m next p level t → p ≡ s + 1 → w ≡ word m s 0 → w ≡ 0 → ks ≡ kids m s → IsNode m next ks level t
stands_node s none l e k z g = absurd (omega (arith, l.leads))
stands_node {m = m} s (leaf i is) l e k z g =
    let n : s ≡ i = omega (arith, l.leads.0) in
    absurd (omega (arith, k ∙ ap (λ (i : ℕ). word m i 0) n ∙ l.leads.1.tag))
stands_node {m = m} {next = next} s (node i t0 t1 t2 t3) l e k z g =
    let n : s ≡ i = omega (arith, l.leads.0) in
    let b = below-append (length next) (chains_of t0 ++ chains_of t1 ++ chains_of t2) (chains_of t3) l.below in
    let d = below-append (length next) (chains_of t0 ++ chains_of t1) (chains_of t2) b.0 in
    let a = below-append (length next) (chains_of t0) (chains_of t1) d.0 in
    rw (g, n)
    (record {
      label = i;
      t0 = t0;
      t1 = t1;
      t2 = t2;
      t3 = t3;
      is = refl;
      l0 = record { leads = l.leads.2; levels = omega (arith, l.levels); slots = l.slots.1; below = a.0 };
      l1 = record { leads = l.leads.3; levels = omega (arith, l.levels); slots = l.slots.2; below = a.1 };
      l2 = record { leads = l.leads.4; levels = omega (arith, l.levels); slots = l.slots.3; below = d.1 };
      l3 = record { leads = l.leads.5; levels = omega (arith, l.levels); slots = l.slots.4; below = b.1 };
      nodes = refl;
      chains = simp length-append;
    })

-- ---- the children, one after the other

abbrev nodes_of : List (Tree ℕ) → ℕ
nodes_of [] = 0
nodes_of (t ∷ ts) = nodes t + nodes_of ts

abbrev particles_of : List (Tree ℕ) → ℕ
particles_of [] = 0
particles_of (t ∷ ts) = length (chains_of t) + particles_of ts

-- These rows and particles stand behind what was listed; trees are left to list, and there is room for them.
pub record Listing (rows chains : List ℕ) (at : Cursor) (rs : List Row) (is : List ℕ) (left : List (Tree ℕ)) (rows' chains' : List ℕ) (r : Cursor) : Type 0 where
  pub wrote : RowsWritten rows chains at rs is rows' chains' r
  pub room : (at.nodes + length rs + nodes_of left) * row_numbers ≤ length rows
  pub space : at.chained + length is + particles_of left ≤ length chains

-- an internal node's row is written, its children are left
pub node_listed : {m next ks rows chains rows' : List ℕ} {p level quadrant : ℕ} {at : Cursor} {t : Tree ℕ} → Listable m next p level (length rows) (length chains) at t
    → (n : IsNode m next ks level t) → rows' ≡ overwritten rows (at.nodes * row_numbers) (flat (row level quadrant 1 0 ∷ []))
    → Listing rows chains at (row level quadrant 1 0 ∷ []) [] (n.t0 ∷ n.t1 ∷ n.t2 ∷ n.t3 ∷ []) rows' chains (record { nodes = at.nodes + 1; chained = at.chained })
node_listed w n e =
    record { wrote = wrote_internal e; room = omega (arith, w.room, n.nodes); space = omega (arith, w.space, n.chains) }

module _ {rows chains : List ℕ} {at : Cursor} {rs : List Row} {is : List ℕ} {rows' chains' : List ℕ} {r : Cursor} where
  -- the lists keep their lengths
  pub listing_rows : {left : List (Tree ℕ)} → Listing rows chains at rs is left rows' chains' r → length rows' ≡ length rows
  listing_rows s = wrote-rows s.wrote (omega (arith, s.room))

  pub listing-chains : {left : List (Tree ℕ)} → Listing rows chains at rs is left rows' chains' r → length chains' ≡ length chains
  listing-chains s = wrote-chains s.wrote (omega (arith, s.space))

  -- the next tree can be listed
  pub next_child : {m next : List ℕ} {p level : ℕ} {t : Tree ℕ} {left : List (Tree ℕ)} → Listing rows chains at rs is (t ∷ left) rows' chains' r → StandsAt m next p level t
      → (length next ≤ most_particles) × (length chains ≤ most_particles) → Listable m next p level (length rows') (length chains') r t
  next_child s l f =
      let a = listing_rows s in
      let b = listing-chains s in
      record {
        stands = l;
        room = rw a (omega (arith, s.room, s.wrote.nodes));
        space = rw b (omega (arith, s.space, s.wrote.reach));
        few = (f.0, rw b f.1);
      }

  -- and then is
  pub child_listed : (level q : ℕ) {t : Tree ℕ} {left : List (Tree ℕ)} {rows'' chains'' : List ℕ} {b : Cursor} → Listing rows chains at rs is (t ∷ left) rows' chains' r
      → RowsWritten rows' chains' r (rows_from level q t) (chains_of t) rows'' chains'' b
      → Listing rows chains at (rs ++ rows_from level q t) (is ++ chains_of t) left rows'' chains'' b
  child_listed level q {t} s w = record {
    wrote = wrote-next s.wrote w (omega (arith, s.room)) (omega (arith, s.space));
    room = simp length-append (omega (arith, s.room, rows_count level q t));
    space = simp length-append (omega (arith, s.space));
  }

-- ---- an internal node, from its row on

module _ {m next ks : List ℕ} {level : ℕ} {t : Tree ℕ} (n : IsNode m next ks level t) where
  -- the children from the quadrant q on
  abbrev pub trees_from : ℕ → List (Tree ℕ)
  trees_from zero = n.t0 ∷ n.t1 ∷ n.t2 ∷ n.t3 ∷ []
  trees_from (suc zero) = n.t1 ∷ n.t2 ∷ n.t3 ∷ []
  trees_from (suc (suc zero)) = n.t2 ∷ n.t3 ∷ []
  trees_from (suc (suc (suc zero))) = n.t3 ∷ []
  trees_from (suc (suc (suc (suc q)))) = []

  -- the node's own row, and those of the children before
  abbrev pub rows_before : ℕ → ℕ → List Row
  rows_before quadrant zero = row level quadrant 1 0 ∷ []
  rows_before quadrant (suc zero) = (row level quadrant 1 0 ∷ []) ++ rows_from (level + 1) 0 n.t0
  rows_before quadrant (suc (suc zero)) = (row level quadrant 1 0 ∷ []) ++ rows_from (level + 1) 0 n.t0 ++ rows_from (level + 1) 1 n.t1
  rows_before quadrant (suc (suc (suc zero))) = (row level quadrant 1 0 ∷ []) ++ rows_from (level + 1) 0 n.t0 ++ rows_from (level + 1) 1 n.t1 ++ rows_from (level + 1) 2 n.t2
  rows_before quadrant (suc (suc (suc (suc q)))) =
      (row level quadrant 1 0 ∷ []) ++ rows_from (level + 1) 0 n.t0 ++ rows_from (level + 1) 1 n.t1 ++ rows_from (level + 1) 2 n.t2 ++ rows_from (level + 1) 3 n.t3

  -- and their chains
  abbrev pub chains_before : ℕ → List ℕ
  chains_before zero = []
  chains_before (suc zero) = [] ++ chains_of n.t0
  chains_before (suc (suc zero)) = [] ++ chains_of n.t0 ++ chains_of n.t1
  chains_before (suc (suc (suc zero))) = [] ++ chains_of n.t0 ++ chains_of n.t1 ++ chains_of n.t2
  chains_before (suc (suc (suc (suc q)))) = [] ++ chains_of n.t0 ++ chains_of n.t1 ++ chains_of n.t2 ++ chains_of n.t3

-- The row of t, an internal node, is written, and the rows and chains of its children before the quadrant q.
pub record Children (m next ks rows chains : List ℕ) (at : Cursor) (level quadrant : ℕ) (t : Tree ℕ) (q : ℕ) (rows' chains' : List ℕ) (r : Cursor) : Type 0 where
  pub node : IsNode m next ks level t
  pub listing : Listing rows chains at (rows_before node quadrant q) (chains_before node q) (trees_from node q) rows' chains' r

module _ {m next ks rows chains : List ℕ} {at : Cursor} {level quadrant : ℕ} {t : Tree ℕ} {q : ℕ} {rows' chains' : List ℕ} {r : Cursor}
    (c : Children m next ks rows chains at level quadrant t q rows' chains' r) (b : q < 4) where
  -- the next child can be listed
  pub child_ready : (length next ≤ most_particles) × (length chains ≤ most_particles)
      → (x : Tree ℕ) × Listable m next (get_or ks q 0) (level + 1) (length rows') (length chains') r x
  child_ready f = go q b c.listing
    where
      go : (q : ℕ) → q < 4 → Listing rows chains at (rows_before c.node quadrant q) (chains_before c.node q) (trees_from c.node q) rows' chains' r
          → (x : Tree ℕ) × Listable m next (get_or ks q 0) (level + 1) (length rows') (length chains') r x
      go zero b s = (c.node.t0, next_child s c.node.l0 f)
      go (suc zero) b s = (c.node.t1, next_child s c.node.l1 f)
      go (suc (suc zero)) b s = (c.node.t2, next_child s c.node.l2 f)
      go (suc (suc (suc zero))) b s = (c.node.t3, next_child s c.node.l3 f)
      go (suc (suc (suc (suc q)))) b s = absurd (omega arith)

  -- and then is
  pub child_done : (length next ≤ most_particles) × (length chains ≤ most_particles) → {rows'' chains'' : List ℕ} {d : Cursor}
      → ((x : Tree ℕ) → Listable m next (get_or ks q 0) (level + 1) (length rows') (length chains') r x → RowsWritten rows' chains' r (rows_from (level + 1) q x) (chains_of x) rows'' chains'' d)
      → Children m next ks rows chains at level quadrant t (q + 1) rows'' chains'' d
  child_done f {rows''} {chains''} {d} w = record { node = c.node; listing = go q b c.listing w }
    where
      go : (q : ℕ) → q < 4 → Listing rows chains at (rows_before c.node quadrant q) (chains_before c.node q) (trees_from c.node q) rows' chains' r
          → ((x : Tree ℕ) → Listable m next (get_or ks q 0) (level + 1) (length rows') (length chains') r x → RowsWritten rows' chains' r (rows_from (level + 1) q x) (chains_of x) rows'' chains'' d)
          → Listing rows chains at (rows_before c.node quadrant (q + 1)) (chains_before c.node (q + 1)) (trees_from c.node (q + 1)) rows'' chains'' d
      go zero b s w = child_listed (level + 1) 0 s (w c.node.t0 (next_child s c.node.l0 f))
      go (suc zero) b s w = child_listed (level + 1) 1 s (w c.node.t1 (next_child s c.node.l1 f))
      go (suc (suc zero)) b s w = child_listed (level + 1) 2 s (w c.node.t2 (next_child s c.node.l2 f))
      go (suc (suc (suc zero))) b s w = child_listed (level + 1) 3 s (w c.node.t3 (next_child s c.node.l3 f))
      go (suc (suc (suc (suc q)))) b s w = absurd (omega arith)

-- after the last child all of t is written
pub children_listed : {m next ks rows chains : List ℕ} {at : Cursor} {level quadrant : ℕ} {t : Tree ℕ} {rows' chains' : List ℕ} {r : Cursor} → Children m next ks rows chains at level quadrant t 4 rows' chains' r
    → RowsWritten rows chains at (rows_from level quadrant t) (chains_of t) rows' chains' r
children_listed c = rw c.node.is c.listing.wrote
