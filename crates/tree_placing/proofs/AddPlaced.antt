-- What an insertion asks of the functions it calls, and what it has done or refused when they are through.
use mathlib.Core.Path.{◌≡◌, refl, sym, ap, ◌∙◌, subst, subst₂}
use mathlib.Core.Bool.{true, false}
use mathlib.Core.List.{List, [], ◌∷◌, ◌++◌}
use mathlib.Core.Logic.{inl, inr}
use Prim.Native.Nat.{ℕ, ◌+◌, ◌-◌, ◌*◌, ◌/◌, ◌^◌, ◌≤◌, ◌<◌, max}
use native.Mathlib.Omega.{arith}
use lib.ListN.{length, get_or, set}
use lib.Ieee.{Float}
use Rattle.std.specs.Prelude.{Result, Ok, Err, MatchResult, IsErrAnd}
use Rattle.rules.specs.declared.Extent.{Extent}
use Rattle.rules.specs.declared.Reason.{Reason}
use Rattle.rules.specs.declared.Refusal.{Refusal}
use Rattle.rules.specs.declared.Reason.TheVariants.{TooDeep, NoSlotLeft}
use Rattle.rules.specs.Number.{within, x_at, y_at}
use Rattle.rules.specs.Outcome.{refusal}
use Rattle.rules.specs.Reason.{number_of}
use Rattle.rules.specs.Tree.{Tree, none, leaf, node, depth, same}
use Rattle.rules.specs.Calls.{slot_words, slots_of}
use Rattle.rules.specs.Refusal.{most_particles}
use Rattle.rules.proofs.CellList.{In, in_some, both, in_keep, keep_in}
use Rattle.rules.proofs.CellChain.{Points}
use Rattle.rules.proofs.CellRule.{points}
use Rattle.tree_slots.specs.declared.Quadtree.{Quadtree}
use Rattle.tree_slots.proofs.Slots.{same_refl}
use Rattle.tree_slots.specs.Trees.{first, last_or, InSlots}
use Rattle.tree_slots.proofs.Links.{rises_length, last_in}
use Rattle.tree_leaves.specs.Chain.{at_point, Linked, Joinable}
use Rattle.tree_leaves.specs.Leaf.{side, shared_levels, hung, parted, Splits}
use Rattle.tree_placing.specs.Add.{Holds, pick, Reaches, Ranged, Seeks, Puts, Alone, FoundLeaf, FoundHole, with_more, Grown, Placed}
use Rattle.tree_placing.proofs.SlotsTree.{over, upd}
use Rattle.tree_placing.proofs.AddWay.{side_lt, reach-each, reach-depth}
use Rattle.tree_placing.proofs.AddSplit.{split_t, shared_le, split-length, split-same, split-stored}
use Rattle.tree_placing.proofs.AddChain.{new-linked, join-linked, chain_first}
use Rattle.tree_placing.proofs.AddHold.{holds_fits, holds_few, hole-new, leaf-new, leaf-chain, Replaces, next-full, next-holds, leaf-level, node-level, joins, hangs, splits, too-deep, joined-stored, hung-length, hung-same, hung-stored}

pub ranged_points : (at : List Float) (is : List ℕ) (n : ℕ) → Ranged at n → ((i : ℕ) → In i is → i < n) → Points at is
ranged_points at is n h l = points at is (λ i m. let r = h i (l i m) in both (within (x_at at i)) (within (y_at at i)) r.0 r.1)

-- the slots hold the tree with p
pub grown : (at : List Float) (is m : List ℕ) (c : Extent) (p : ℕ) (q : Quadtree) → Holds at (is ++ (p ∷ [])) m q → q.extent ≡ c → Grown at is m c p (Ok q)
grown at is m c p q h e = (holds_fits at (is ++ (p ∷ [])) m q c p h e, (h, e))

-- the chains beside the tree
pub placed : (at : List Float) (is m next tail : List ℕ) (c : Extent) (p : ℕ) (r : Result Quadtree Reason) → Grown at is m c p r → Linked at (is ++ (p ∷ [])) next tail → Placed at is m next tail c p r
placed at is m next tail c p (Ok q) (f, (h, e)) k = (f, (h, e, k))
placed at is m next tail c p (Err reason) h k = h

-- what an answer was before its reason became a refusal
pub was_ok : (Q : Reason → Refusal → Type 0) (r : Result Quadtree Reason) (s : Result Quadtree Refusal) (q : Quadtree) → MatchResult r (λ x. s ≡ Ok x) (λ e. IsErrAnd s (Q e)) → s ≡ Ok q → r ≡ Ok q
was_ok Q (Ok x) s q h z = cc
was_ok Q (Err e) s q h z = absurd (rw z at h)

pub was_err : (Q : Reason → Refusal → Type 0) (r : Result Quadtree Reason) (s : Result Quadtree Refusal) (d : Refusal) (k : ℕ) → MatchResult r (λ x. s ≡ Ok x) (λ e. IsErrAnd s (Q e)) → s ≡ Err d
    → ((e : Reason) → Q e d → d ≡ refusal (number_of e) k) → (e : Reason) × (r ≡ Err e) × (d ≡ refusal (number_of e) k)
was_err Q (Ok x) s d k h z f = absurd cc
was_err Q (Err e) s d k h z f = (e, refl, f e (rw z at h))

module _ (at : List Float) (is m : List ℕ) (q : Quadtree) (p : ℕ) (g : Seeks at is m q p) where
  pub before-points : Points at is
  before-points = ranged_points at is (p + 1) g.ranged (λ i m. omega (arith, g.earlier i m))

  pub own : same at p p ≡ true
  own = ranged_points at (p ∷ []) (p + 1) g.ranged (λ i m. only i m) p (inl refl)
    where
      only : (i : ℕ) → In i (p ∷ []) → i < p + 1
      only i (inl e) = omega arith
      only i (inr m) = absurd m

  -- at most 1 + 64 slots a particle
  pub few : q.nodes ≤ 262144
  few = omega (arith, holds_few at is m q g.holds, rises_length 0 p is (omega arith) g.earlier g.rises, g.few)

  -- ---- at a leaf

  module _ (s l f : ℕ) (c : Extent) (h : FoundLeaf at is m q p s l f c) where
    abbrev u : Tree ℕ
    u = leaf s (f ∷ h.rest)

    way : Reaches at p l q.extent h.holds.tree c u
    way = h.reached

    pub first_of : In f is × (first (at_point at is f) ≡ f)
    first_of = chain_first at is f h.rest (leaf-chain at p is m q h.holds l c s (f ∷ h.rest) way before-points)

    pub first-less : f < p
    first-less = g.earlier f first_of.0

    pub leaf-most : l ≤ 64
    leaf-most = leaf-level at p is m q h.holds l c s (f ∷ h.rest) way

    leaf-below : s < q.nodes
    leaf-below = reach-each at p l q.extent h.holds.tree c u way (λ j. j < q.nodes) h.holds.below

    -- the same point: p joins the chain, and nothing is written in the slots

    joined-holds : same at f p ≡ true → Holds at (is ++ (p ∷ [])) m q
    joined-holds e =
        let v = joins at p is m q h.holds l c s f h.rest way e in
        next-holds at p is m q h.holds l (64 - l) c u (leaf s (f ∷ h.rest ++ (p ∷ []))) q.nodes 1 way v m q
        (joined-stored at p is m q h.holds l c s f h.rest way) (λ j y n. same_refl m j) h.holds.room refl refl refl
        (level (depth h.holds.tree) h.holds.deepest (reach-depth at p l q.extent h.holds.tree c u way))
      where
        level : (d : ℕ) → d ≤ q.deepest + 1 → l + 1 ≤ d → q.deepest ≡ max q.deepest (l + 1 - 1)
        level d e h = omega arith

    -- another point

    pub leaf-new-point : same at f p ≡ false → (i : ℕ) → In i is → same at i p ≡ true → ⊥
    leaf-new-point ne = leaf-new at p is m q h.holds l c s f h.rest way ne

    module _ (ne : same at f p ≡ false) (k : ℕ) (ek : k ≡ shared_levels at p (64 - l) c f) where
      pub grown-deep : k ≡ 64 - l → (w : List ℕ) → Grown at is w q.extent p (Err TooDeep)
      grown-deep e w = too-deep at p is m q h.holds l c s f h.rest way ne (sym ek ∙ e) w

      pub shared-most : k ≤ 64
      shared-most = omega (arith, shared_le at p (64 - l) c f)

      module _ (shallow : k ≡ 64 - l → ⊥) where
        less : k < 64 - l
        less = other (shared_le at p (64 - l) c f)
          where
            other : shared_levels at p (64 - l) c f ≤ 64 - l → k < 64 - l
            other z = omega arith

        split-replaces : Replaces at p l (64 - l) c u (split_t at p (f ∷ h.rest) k c s q.nodes) q.nodes (q.nodes + (k + 2)) (k + 2)
        split-replaces = splits at p is m q h.holds l c s f h.rest k way ne (sym ek) less

        pub grown-split-full : slots_of m < q.nodes + k + 2 → Grown at is m q.extent p (Err NoSlotLeft)
        grown-split-full lt = next-full at p is m q h.holds l (64 - l) c u (split_t at p (f ∷ h.rest) k c s q.nodes) (q.nodes + (k + 2)) (k + 2) way split-replaces (omega arith)

        module _ (fits : q.nodes + k + 2 ≤ slots_of m) where
          pub split-asks : Splits m (length at) s q.nodes k f p
          split-asks =
              record {
                own = omega (arith, leaf-below, h.holds.room);
                room = omega arith;
                small = omega (arith, few, shared-most);
                first = omega (arith, first-less, g.few);
                new = g.few;
                first_place = omega (arith, first-less, g.read);
                new_place = g.read;
              }

          pub grown-split : (w : List ℕ) (r : Quadtree) → w ≡ parted at p f k c s q.nodes m → r ≡ with_more q (k + 2) (l + k + 1) → Grown at is w q.extent p (Ok r)
          grown-split w r ew er =
              let v : Tree ℕ = split_t at p (f ∷ h.rest) k c s q.nodes in
              let n : Quadtree = with_more q (k + 2) (l + k + 1) in
              grown at is w q.extent p r
              (subst₂ (λ (w : List ℕ) (r : Quadtree). Holds at (is ++ (p ∷ [])) w r) (sym ew) (sym er)
              (next-holds at p is m q h.holds l (64 - l) c u v (q.nodes + (k + 2)) (k + 2) way split-replaces (parted at p f k c s q.nodes m) n
              (split-stored at p (f ∷ h.rest) f k c s q.nodes m refl leaf-below split-asks.room split-asks.small)
              (λ j y n. split-same at p f k c s q.nodes m j (λ e. n (ap (λ (i : ℕ). i + 1) (sym e))) y)
              (omega (arith, split-length at p f k c s q.nodes m)) refl refl refl (ap (max q.deepest) (level l k))))
              (ap (λ (r : Quadtree). r.extent) er)
            where
              level : (l k : ℕ) → l + k + 1 ≡ l + (k + 2) - 1
              level l k = omega arith

  -- ---- at a hole

  module _ (s k l : ℕ) (h : FoundHole at is m q p s k l) where
    abbrev d : Extent
    d = h.cell

    abbrev t : Tree ℕ
    t = node s h.t0 h.t1 h.t2 h.t3

    empty : pick h.t0 h.t1 h.t2 h.t3 (side at p d) ≡ none
    empty = ap (pick h.t0 h.t1 h.t2 h.t3) (sym h.quadrant) ∙ h.empty

    abbrev v : Tree ℕ
    v = over s (upd (pick h.t0 h.t1 h.t2 h.t3) (side at p d) (leaf q.nodes (p ∷ [])))

    hang-replaces : Replaces at p l (64 - l) d t v q.nodes (q.nodes + 1) 2
    hang-replaces = hangs at p is m q h.holds l d s h.t0 h.t1 h.t2 h.t3 h.reached empty

    pub hole-most : l ≤ 63
    hole-most = node-level at p is m q h.holds l d s h.t0 h.t1 h.t2 h.t3 h.reached

    pub hole-new-point : (i : ℕ) → In i is → same at i p ≡ true → ⊥
    hole-new-point = hole-new at p is m q h.holds l d s h.t0 h.t1 h.t2 h.t3 h.reached empty

    pub grown-hole-full : slots_of m ≡ q.nodes → Grown at is m q.extent p (Err NoSlotLeft)
    grown-hole-full e = next-full at p is m q h.holds l (64 - l) d t v (q.nodes + 1) 2 h.reached hang-replaces (omega arith)

    module _ (free : slots_of m ≡ q.nodes → ⊥) where
      fits : q.nodes + 1 ≤ slots_of m
      fits = more (length m) h.holds.room free
        where
          more : (n : ℕ) → q.nodes * slot_words ≤ n → (n / slot_words ≡ q.nodes → ⊥) → q.nodes + 1 ≤ n / slot_words
          more n a b = omega arith

      pub hang-asks : InSlots s m × (k < 4) × ((q.nodes + 1) * slot_words ≤ length m) × (q.nodes + 1 < 2 ^ 32) × (p < most_particles)
      hang-asks =
          let b = reach-each at p l q.extent h.holds.tree d t h.reached (λ j. j < q.nodes) h.holds.below in
          (omega (arith, b.0, h.holds.room), subst (λ (i : ℕ). i < 4) (sym h.quadrant) (side_lt at p d), omega (arith, fits), omega (arith, few), g.few)

      pub grown-hung : (w : List ℕ) (r : Quadtree) → w ≡ hung p m s k q.nodes → r ≡ with_more q 1 (l + 1) → Grown at is w q.extent p (Ok r)
      grown-hung w r ew er =
          let (own-slot, quad, room, small, new) = hang-asks in
          let n : Quadtree = with_more q 1 (l + 1) in
          grown at is w q.extent p r
          (subst₂ (λ (w : List ℕ) (r : Quadtree). Holds at (is ++ (p ∷ [])) w r) (sym (ew ∙ ap (λ (i : ℕ). hung p m s i q.nodes) h.quadrant)) (sym er)
          (next-holds at p is m q h.holds l (64 - l) d t v (q.nodes + 1) 2 h.reached hang-replaces (hung p m s (side at p d) q.nodes) n
          (hung-stored at p is m q h.holds l d s h.t0 h.t1 h.t2 h.t3 h.reached room small)
          (hung-same at p is m q h.holds l d s h.t0 h.t1 h.t2 h.t3 h.reached room small (side at p d))
          (omega (arith, fits, hung-length at p is m q h.holds l d s h.t0 h.t1 h.t2 h.t3 h.reached room small (side at p d))) refl refl refl (ap (max q.deepest) (level l))))
          (ap (λ (r : Quadtree). r.extent) er)
        where
          level : (l : ℕ) → l + 1 ≡ l + 2 - 1
          level l = omega arith

-- ---- with the chains

module _ (at : List Float) (is m next tail : List ℕ) (q : Quadtree) (p : ℕ) (g : Puts at is m next tail q p) (alone : Alone next tail p) where
  abbrev k : Seeks at is m q p
  k = g.seeks

  -- p keeps its chain, if no particle before it has its point
  pub kept : ((i : ℕ) → In i is → same at i p ≡ true → ⊥) → Linked at (is ++ (p ∷ [])) next tail
  kept new = new-linked at is p next tail g.linked k.earlier (before-points at is m q p k) alone (own at is m q p k) new

  module _ (s l f : ℕ) (c : Extent) (h : FoundLeaf at is m q p s l f c) where
    abbrev starts : In f is × (first (at_point at is f) ≡ f)
    starts = first_of at is m q p k s l f c h

    in_tail : f < length tail
    in_tail = omega (arith, first-less at is m q p k s l f c h, g.in_tail)

    in_next : (i : ℕ) → In i is → i < length next
    in_next i n = omega (arith, k.earlier i n, g.in_next)

    -- the last of its chain is one of the particles before p
    last_there : In (get_or tail f 0) is
    last_there =
        let js : List ℕ = at_point at is f in
        let own_in : In f js = keep_in (same at f) is f starts.0 (before-points at is m q p k f starts.0) in
        subst (λ (x : ℕ). In x is) (sym (ap (λ (x : ℕ). get_or tail x 0) (sym starts.1) ∙ g.linked.tails f starts.0)) (in_keep (same at f) is (last_or 0 js) (last_in 0 js (in_some f js own_in))).0

    pub join-asks : Joinable next tail f p
    join-asks = record { first = in_tail; last = in_next (get_or tail f 0) last_there; few = k.few }

    pub placed-joined : same at f p ≡ true → (a b : List ℕ) → a ≡ set next (get_or tail f 0) (p + 1) → b ≡ set tail f p → Placed at is m a b q.extent p (Ok q)
    placed-joined e a b ea eb =
        placed at is m a b q.extent p (Ok q) (grown at is m q.extent p q (joined-holds at is m q p k s l f c h e) refl)
        (subst₂ (λ (x y : List ℕ). Linked at (is ++ (p ∷ [])) x y) (sym ea) (sym eb)
        (join-linked at is p next tail g.linked k.earlier (before-points at is m q p k) alone (own at is m q p k) f starts.0 starts.1 e k.rises in_tail in_next))
