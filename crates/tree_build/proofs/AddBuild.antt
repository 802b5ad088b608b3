-- The turns of building: the extent grows with each particle, the tree stands at the end, and the check of all prefixes is what the loop has done.
use mathlib.Core.Path.{◌≡◌, refl, sym, ap, ◌∙◌, subst}
use mathlib.Core.Bool.{true≢false}
use mathlib.Core.List.{List, [], Memᴰ}
use Prim.Native.Nat.{ℕ, zero, suc, ◌+◌, ◌-◌, ◌≤◌, ◌<◌}
use native.Mathlib.Omega.{arith}
use native.Mathlib.Decide.{ℕ_discrete}
use lib.Dec.{T}
use lib.ListN.{length}
use lib.Ieee.{Float}
use Rattle.std.specs.Prelude.{Ok, Err}
use Rattle.rules.specs.declared.Extent.{Extent}
use Rattle.rules.specs.declared.Refusal.{Refusal}
use Rattle.rules.specs.Plain.{count_from, up_to}
use Rattle.rules.specs.Number.{within, x_at, y_at}
use Rattle.rules.specs.Floor.{floor}
use Rattle.rules.specs.Cell.{nowhere}
use Rattle.rules.specs.Cover.{cover_point, nothing, holds, cover_all, cover_first, extent_of}
use Rattle.rules.specs.Outcome.{Check, refused, fine, ◌>>=◌, check_from}
use Rattle.rules.specs.Tree.{Tree, none, leaf, node, alike, tree_in, tree_of, fits_check, tree_check}
use Rattle.rules.specs.Calls.{slots_of}
use Rattle.rules.specs.Refusal.{most_particles}
use Rattle.rules.proofs.CellCount.{up_to_snoc}
use Rattle.rules.proofs.CellInside.{Inside}
use Rattle.rules.proofs.CellIs.{Is, grow-none}
use Rattle.rules.proofs.CellChain.{EachLeaf, Points, Chain}
use Rattle.tree_slots.specs.declared.Quadtree.{Quadtree}
use Rattle.tree_cells.specs.declared.cover.Covered.{Covered}
use Rattle.tree_slots.specs.Trees.{in_cells, Follows, Lays, Stands, lead}
use Rattle.tree_cells.specs.Cover.{square_of, Reachable, Near, CoveredTo}
use Rattle.tree_leaves.specs.Chain.{Linked}
use Rattle.tree_placing.specs.Add.{Holds, Ranged, Puts, more_check, Placed}
use Rattle.tree_build.specs.Build.{particles, no_tree, Builds, ComesNext, Extends}
use Rattle.tree_cells.proofs.CoverLaws as Laws
use Rattle.tree_cells.proofs.Prefix.{member_less}
use Rattle.tree_slots.proofs.Links.{rises_up_to, in_up_to}
use Rattle.tree_placing.proofs.SlotsTree.{stored-leads}
use Rattle.tree_placing.proofs.AddChain.{chain-follows}
use Rattle.tree_placing.proofs.AddHold.{holds_most, holds_is, holds_chains}
use Rattle.tree_build.proofs.AddInsert.{is_T}
use Rattle.tree_placing.proofs.AddPlaced.{ranged_points}

-- ---- members of 0, 1, .. , n - 1

less_member : (k n i : ℕ) → k ≤ i → i < k + n → Memᴰ i (count_from k n)
less_member k zero i h g = absurd (omega arith)
less_member k (suc n) i h g = elim (ℕ_discrete i k) [ yes e ↦ Memᴰ.head e | no ne ↦ Memᴰ.tail (less_member (k + 1) n i (omega arith) (omega arith)) ]

-- ---- the extent

module _ (at : List Float) where
  in_range : (n : ℕ) → Ranged at n → (i : ℕ) → Memᴰ i (up_to n) → T (within (x_at at i)) × T (within (y_at at i))
  in_range n h i m = let r = h i (omega (arith, member_less 0 n i m)) in (is_T (within (x_at at i)) r.0, is_T (within (y_at at i)) r.1)

  first_cover : cover_first at 1 ≡ cover_point nothing (floor (x_at at 0)) (floor (y_at at 0))
  unfolding cover_all
  first_cover = refl

  pub first_extends : (q : Quadtree) (p : ℕ) (c : Covered) → ComesNext at q p → p ≡ 0 → c.extent ≡ extent_of (cover_point nothing (floor (x_at at p)) (floor (y_at at p))) → Extends at q p c
  first_extends q p c f z e =
      record {
        extent = e ∙ ap (λ (i : ℕ). extent_of (cover_point nothing (floor (x_at at i)) (floor (y_at at i)))) z ∙ ap extent_of (sym first_cover) ∙ ap (λ (i : ℕ). extent_of (cover_first at (i + 1))) (sym z);
        covers = λ l. absurd (omega (arith, f.empty z));
      }

  -- with a particle before p, the extent can be reached and all of them lie in it
  record Ready (q : Quadtree) (p : ℕ) : Type 0 where
    reachable : Reachable q.extent
    covered : cover_first at p ≡ holds (square_of q.extent)
    inside : (i : ℕ) → i < p → Inside at q.extent i

  ready : (q : Quadtree) (p : ℕ) → q.extent ≡ extent_of (cover_first at p) → Ranged at p → (p ≡ 0 → ⊥) → Ready q p
  ready q zero e r n = absurd (n refl)
  ready q (suc k) e r n =
      let range = in_range (suc k) r in
      let a = Laws.list_reachable at 0 (count_from 1 k) q.extent (Laws.in_range at (up_to (suc k)) range) e in
      record {
        reachable = a.0;
        covered = a.1;
        inside = λ i l. subst (λ (c : Extent). Inside at c i) (sym e) (Laws.list_lies at 0 (count_from 1 k) range i (less_member 0 (suc k) i (omega arith) (omega arith)));
      }

  module _ (q : Quadtree) (p : ℕ) (f : ComesNext at q p) (n : p ≡ 0 → ⊥) where
    before : Ranged at p
    before i l = f.ranged i (omega arith)

    pub extend-near : Near q.extent (x_at at p) (y_at at p)
    extend-near =
        let r = f.ranged p (omega arith) in
        record { reachable = (ready q p f.extent before n).reachable; across = is_T (within (x_at at p)) r.0; along = is_T (within (y_at at p)) r.1 }

    pub next-extends : (c : Covered) → CoveredTo q.extent (floor (x_at at p)) (floor (y_at at p)) c → Extends at q p c
    next-extends c d =
        let r = ready q p f.extent before n in
        record {
          extent = Laws.list_next at (up_to p) p q.extent c r.covered d ∙ ap (λ (l : List ℕ). extent_of (cover_all at l)) (sym (up_to_snoc p));
          covers = λ l. record { near = extend-near; covered = d; inside = r.inside };
        }

  -- ---- the check of all prefixes

  module _ (n slots : ℕ) where
    -- what is left of it from particle p on
    abbrev pub left : ℕ → Check
    left p = check_from (λ i _. fits_check slots i (tree_of at (i + 1))) p (count_from p (n - p))

    pub check-start : tree_check at n slots ≡ left 0
    unfolding tree_check
    check-start = let z : n - 0 ≡ n = omega arith in rw z

    left-turn : (p : ℕ) → p < n → left p ≡ (fits_check slots p (tree_of at (p + 1)) >>= λ _. left (p + 1))
    left-turn p l = let z : n - p ≡ suc (n - (p + 1)) = omega arith in rw z

    pub left_end : (p : ℕ) → n ≤ p → left p ≡ fine
    left_end p l = let z : n - p ≡ 0 = omega arith in rw z

    -- the tree of the particles below p + 1, in their extent
    tree_is : (p : ℕ) → tree_in at (extent_of (cover_first at (p + 1))) (up_to (p + 1)) ≡ tree_of at (p + 1)
    unfolding tree_of
    tree_is p = refl

    -- what the check of p's prefix is, decides
    turn : (p : ℕ) → p < n → (k : Check) → fits_check slots p (tree_in at (extent_of (cover_first at (p + 1))) (up_to (p + 1))) ≡ k → left p ≡ (k >>= λ _. left (p + 1))
    turn p l k f = left-turn p l ∙ ap (λ (k : Check). k >>= λ _. left (p + 1)) (ap (fits_check slots p) (sym (tree_is p)) ∙ f)

  -- a tree of no points has no root
  pub empty_root : (is m : List ℕ) (q : Quadtree) → Holds at is m q → is ≡ [] → q.root ≡ 0
  empty_root is m q h z = go h.tree h.root (holds_is at is m q h)
    where
      go : (t : Tree ℕ) → q.root ≡ lead t → Is at q.extent (in_cells q.extent t) is → q.root ≡ 0
      go none e w = e
      go (leaf s js) e w = absurd (omega (arith, w.2, ap length z))
      go (node s t0 t1 t2 t3) e w = absurd (true≢false (ap (alike at) (sym z) ∙ w.1))

  -- ---- the loop

  -- the tree of the particles before p, and what has been checked
  pub record Building (slots : ℕ) (m next tail : List ℕ) (q : Quadtree) (p : ℕ) : Type 0 where
    pub holds : Holds at (up_to p) m q
    pub linked : Linked at (up_to p) next tail
    pub extent : q.extent ≡ extent_of (cover_first at p)
    pub check : tree_check at (particles at) slots ≡ left (particles at) slots p

  none_grown : none ≡ tree_in at nowhere []
  unfolding tree_in
  none_grown = sym (grow-none at 66 nowhere)

  pub no_extent : nowhere ≡ extent_of (cover_first at 0)
  unfolding extent_of cover_all
  no_extent = refl

  pub holds_none : (m : List ℕ) → Holds at [] m no_tree
  holds_none m = record { tree = none; root = refl; stored = tt; cells = none_grown; deepest = omega arith; shallow = omega arith; count = refl; below = tt; once = tt; room = omega arith }

  pub build_start : (m next tail : List ℕ) → Building (slots_of m) m next tail no_tree 0
  build_start m next tail =
      record {
        holds = holds_none m;
        linked = record { links = λ i m. absurd m; tails = λ i m. absurd m };
        extent = no_extent;
        check = check-start (particles at) (slots_of m);
      }

  module _ (slots : ℕ) (m next tail : List ℕ) (q : Quadtree) (p : ℕ) (b : Building slots m next tail q p) (ranged : Ranged at (particles at)) (l : p < particles at) where
    first_empty : p ≡ 0 → q.root ≡ 0
    first_empty z = empty_root (up_to p) m q b.holds (ap up_to z)

    pub build-follows : ComesNext at q p
    build-follows = record { extent = b.extent; empty = first_empty; ranged = λ i k. ranged i (omega arith); read = omega arith }

    pub build-puts : particles at ≤ most_particles → length next ≡ particles at → length tail ≡ particles at → Puts at (up_to p) m next tail q p
    build-puts few links tails =
        record {
          seeks = record { holds = b.holds; rises = rises_up_to p; earlier = in_up_to p; ranged = λ i k. ranged i (omega arith); few = omega arith; read = omega arith };
          linked = b.linked;
          in_next = omega arith;
          in_tail = omega arith;
        }

    module _ (w a d : List ℕ) (s : slots_of w ≡ slots) where
      abbrev wide : Extent
      wide = extent_of (cover_first at (p + 1))

      decided : (k : Check) → more_check at (up_to p) w wide p ≡ k → tree_check at (particles at) slots ≡ (k >>= λ _. left (particles at) slots (p + 1))
      decided k f =
          b.check ∙ turn (particles at) slots p l k
          (subst (λ (n : ℕ). fits_check n p (tree_in at wide (up_to (p + 1))) ≡ k) s (subst (λ (is : List ℕ). fits_check (slots_of w) p (tree_in at wide is) ≡ k) (sym (up_to_snoc p)) f))

      pub build-done : (r : Quadtree) → Placed at (up_to p) w a d wide p (Ok r) → Building slots w a d r (p + 1)
      build-done r (f, (h, e, k)) =
          record {
            holds = subst (λ (is : List ℕ). Holds at is w r) (sym (up_to_snoc p)) h;
            linked = subst (λ (is : List ℕ). Linked at is a d) (sym (up_to_snoc p)) k;
            extent = e;
            check = decided fine f;
          }

      pub build-refused : (r : Refusal) → more_check at (up_to p) w wide p ≡ refused r → Builds at w a (Err r)
      build-refused r f = ap (tree_check at (particles at)) s ∙ decided (refused r) f

  leaves_map : (P Q : List ℕ → Type 0) → ((js : List ℕ) → P js → Q js) → (t : Tree ℕ) → EachLeaf (λ _. P) t → EachLeaf (λ _. Q) t
  leaves_map P Q f none h = tt
  leaves_map P Q f (leaf s js) h = f js h
  leaves_map P Q f (node s t0 t1 t2 t3) h = (leaves_map P Q f t0 h.0, leaves_map P Q f t1 h.1, leaves_map P Q f t2 h.2, leaves_map P Q f t3 h.3)

  -- what is held is laid in the slots, with its chains
  pub holds_lays : (is m next tail : List ℕ) (q : Quadtree) → Points at is → Holds at is m q → Linked at is next tail → Lays (tree_in at q.extent is) m next q
  holds_lays is m next tail q r h k =
      record {
        tree = h.tree;
        leads = stored-leads m next q.root h.tree h.root h.stored (leaves_map (Chain at is) (Follows next) (chain-follows at is next tail k) h.tree (holds_chains at is m q h r));
        is = h.cells;
        levels = holds_most at is m q h;
        count = h.count;
        below = h.below;
        once = h.once;
        room = h.room;
      }

  holds_stands : (n : ℕ) (m next tail : List ℕ) (q : Quadtree) → Ranged at n → Holds at (up_to n) m q → Linked at (up_to n) next tail → q.extent ≡ extent_of (cover_first at n) → Stands at n m next q
  unfolding tree_of
  holds_stands n m next tail q r h k e = subst (λ (c : Extent). Lays (tree_in at c (up_to n)) m next q) e (holds_lays (up_to n) m next tail q (ranged_points at (up_to n) n r (in_up_to n)) h k)

  -- after the last particle
  pub build_end : (slots : ℕ) (m next tail : List ℕ) (q : Quadtree) (p : ℕ) → Building slots m next tail q p → Ranged at (particles at) → p ≤ particles at → particles at ≤ p → slots_of m ≡ slots → Builds at m next (Ok q)
  build_end slots m next tail q p b r le ge s =
      let n : ℕ = particles at in
      let z : p ≡ n = omega arith in
      let e : q.extent ≡ extent_of (cover_first at n) = b.extent ∙ ap (λ (i : ℕ). extent_of (cover_first at i)) z in (
        ap (tree_check at n) s ∙ b.check ∙ left_end n slots p ge,
        (holds_stands n m next tail q r (subst (λ (i : ℕ). Holds at (up_to i) m q) z b.holds) (subst (λ (i : ℕ). Linked at (up_to i) next tail) z b.linked) e, e),
      )
