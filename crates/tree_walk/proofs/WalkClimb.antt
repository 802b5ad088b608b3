-- A walk parent last along its path: what each kind of turn does to what is still to be handed out. Assumes nothing.
use mathlib.Core.Path.{◌≡◌, refl, sym, ap, ◌∙◌, subst}
use mathlib.Core.List.{List, [], ◌∷◌, ◌++◌, append_assoc, append-nil}
use Prim.Native.Nat.{ℕ, zero, suc, ◌+◌, ◌-◌, ◌≤◌, ◌<◌}
use native.Mathlib.Numerals.{add-one}
use native.Mathlib.Omega.{arith}
use lib.ListN.{length}
use Rattle.rules.specs.Tree.{Tree, none, leaf, node, depth}
use Rattle.rules.specs.Walk.{Entry, internal, tip, parent_last}
use Rattle.tree_slots.specs.Trees.{kid, LeafIn, InternalIn, Follows, Leads, EachSlot, InSlots, SlotsLent}
use Rattle.tree_walk.specs.WalkAfter.{Step, standing, rooted, remaining, remaining_all, Steps, Climbs, KidIn, KidsIn}

-- ---- what remains of a tree

pub remaining-all : (t : Tree ℕ) → remaining 0 t ≡ parent_last t
remaining-all none = refl
remaining-all (leaf s is) = refl
remaining-all (node s t0 t1 t2 t3) = simp append_assoc

-- child q
abbrev pick : {A : Type 0} → ℕ → A → A → A → A → A
pick zero t0 t1 t2 t3 = t0
pick (suc zero) t0 t1 t2 t3 = t1
pick (suc (suc zero)) t0 t1 t2 t3 = t2
pick (suc (suc (suc q))) t0 t1 t2 t3 = t3

module _ (s : ℕ) (t0 t1 t2 t3 : Tree ℕ) where
  -- child q is next
  remaining-next : (q : ℕ) → q < 4 → remaining q (node s t0 t1 t2 t3) ≡ parent_last (pick q t0 t1 t2 t3) ++ remaining (q + 1) (node s t0 t1 t2 t3)
  remaining-next zero h = refl
  remaining-next (suc zero) h = refl
  remaining-next (suc (suc zero)) h = refl
  remaining-next (suc (suc (suc zero))) h = refl
  remaining-next (suc (suc (suc (suc q)))) h = absurd (omega arith)

  -- none is
  remaining-last : (q : ℕ) → 3 < q → remaining q (node s t0 t1 t2 t3) ≡ internal s ∷ []
  remaining-last zero h = absurd (omega arith)
  remaining-last (suc zero) h = absurd (omega arith)
  remaining-last (suc (suc zero)) h = absurd (omega arith)
  remaining-last (suc (suc (suc zero))) h = absurd (omega arith)
  remaining-last (suc (suc (suc (suc q)))) h = refl

  depth-pick : (q : ℕ) → depth (pick q t0 t1 t2 t3) < depth (node s t0 t1 t2 t3)
  depth-pick zero = omega arith
  depth-pick (suc zero) = omega arith
  depth-pick (suc (suc zero)) = omega arith
  depth-pick (suc (suc (suc q))) = omega arith

  slots-pick : (P : ℕ → Type 0) (q : ℕ) → EachSlot P (node s t0 t1 t2 t3) → EachSlot P (pick q t0 t1 t2 t3)
  slots-pick P zero h = h.1
  slots-pick P (suc zero) h = h.2
  slots-pick P (suc (suc zero)) h = h.3
  slots-pick P (suc (suc (suc q))) h = h.4

  leads-pick : (m next : List ℕ) (q : ℕ) → Leads m next (s + 1) (node s t0 t1 t2 t3) → Leads m next (kid m s q) (pick q t0 t1 t2 t3)
  leads-pick m next zero h = h.2
  leads-pick m next (suc zero) h = h.3
  leads-pick m next (suc (suc zero)) h = h.4
  leads-pick m next (suc (suc (suc q))) h = h.5

module _ (m next : List ℕ) where
  lent-kid : (p : ℕ) (t : Tree ℕ) → Leads m next p t → SlotsLent m t → KidIn m p
  lent-kid zero t l b = tt
  lent-kid (suc p) none l b = absurd (omega (arith, l))
  lent-kid (suc p) (leaf i is) l b = omega (arith, l.0, b)
  lent-kid (suc p) (node i t0 t1 t2 t3) l b = omega (arith, l.0, b.0)

  -- ---- how it begins and ends

  pub climb_start : (p : ℕ) (t : Tree ℕ) → Leads m next p t → SlotsLent m t → depth t ≤ 65 → Climbs m next (rooted p) (parent_last t)
  climb_start zero none l b d = record { trees = []; steps = tt; same = refl }
  climb_start zero (leaf i is) l b d = absurd (omega (arith, l.0))
  climb_start zero (node i t0 t1 t2 t3) l b d = absurd (omega (arith, l.0))
  climb_start (suc p) none l b d = absurd (omega (arith, l))
  climb_start (suc p) (leaf i is) l b d = record { trees = leaf i is ∷ []; steps = (rw (add-one p) l, b, omega arith, omega arith, tt); same = refl }
  climb_start (suc p) (node i t0 t1 t2 t3) l b d =
      record { trees = node i t0 t1 t2 t3 ∷ []; steps = (rw (add-one p) l, b, omega arith, omega arith, tt); same = append-nil _ ∙ remaining-all (node i t0 t1 t2 t3) }

  pub climb_end : (rest : List (Entry ℕ)) → Climbs m next [] rest → rest ≡ []
  climb_end rest c = sym c.same

  -- ---- a turn, at the end of the path

  module _ (s q : ℕ) (es : List Step) (rest : List (Entry ℕ)) (c : Climbs m next (standing s q ∷ es) rest) where
    pub climb-lent : InSlots s m × (length es ≤ 64) × (q ≤ 4)
    climb-lent = go c.trees c.steps
      where
        go : (ts : List (Tree ℕ)) → Steps m next (standing s q ∷ es) ts → InSlots s m × (length es ≤ 64) × (q ≤ 4)
        go [] w = absurd w
        go (none ∷ ts) w = absurd (omega (arith, w.0))
        go (leaf i is ∷ ts) w = (omega (arith, w.0.0, w.1), omega (arith, w.2), w.3)
        go (node i t0 t1 t2 t3 ∷ ts) w = (omega (arith, w.0.0, w.1.0), omega (arith, w.2), w.3)

    -- ---- an internal node
    module _ (z : InternalIn m s) where
      record Open : Type 0 where
        t0 : Tree ℕ
        t1 : Tree ℕ
        t2 : Tree ℕ
        t3 : Tree ℕ
        trees : List (Tree ℕ)
        leads : Leads m next (s + 1) (node s t0 t1 t2 t3)
        lent : SlotsLent m (node s t0 t1 t2 t3)
        low : length es + depth (node s t0 t1 t2 t3) ≤ 65
        below : Steps m next es trees
        same : remaining q (node s t0 t1 t2 t3) ++ remaining_all es trees ≡ rest

      open-node : (i : ℕ) (t0 t1 t2 t3 : Tree ℕ) (ts : List (Tree ℕ)) → i ≡ s → Steps m next (standing s q ∷ es) (node i t0 t1 t2 t3 ∷ ts)
          → remaining q (node i t0 t1 t2 t3) ++ remaining_all es ts ≡ rest → Open
      open-node i t0 t1 t2 t3 ts e w r =
          record {
            t0 = t0;
            t1 = t1;
            t2 = t2;
            t3 = t3;
            trees = ts;
            leads = subst (λ (x : ℕ). Leads m next (s + 1) (node x t0 t1 t2 t3)) e w.0;
            lent = subst (λ (x : ℕ). SlotsLent m (node x t0 t1 t2 t3)) e w.1;
            low = w.2;
            below = w.4;
            same = subst (λ (x : ℕ). remaining q (node x t0 t1 t2 t3) ++ remaining_all es ts ≡ rest) e r;
          }

      open' : Open
      open' = go c.trees c.steps c.same
        where
          go : (ts : List (Tree ℕ)) → Steps m next (standing s q ∷ es) ts → remaining_all (standing s q ∷ es) ts ≡ rest → Open
          go [] w r = absurd w
          go (none ∷ ts) w r = absurd (omega (arith, w.0))
          go (leaf i is ∷ ts) w r =
              let e : i ≡ s = omega (arith, w.0.0) in
              absurd (omega (arith, z, rw e at w.0.1.tag))
          go (node i t0 t1 t2 t3 ∷ ts) w r = open-node i t0 t1 t2 t3 ts (omega (arith, w.0.0)) w r

      -- what remains begins with child q
      next_child : q < 4 → parent_last (pick q open'.t0 open'.t1 open'.t2 open'.t3) ++ (remaining (q + 1) (node s open'.t0 open'.t1 open'.t2 open'.t3) ++ remaining_all es open'.trees) ≡ rest
      next_child h =
          let o = open' in
          sym (append_assoc (parent_last (pick q o.t0 o.t1 o.t2 o.t3)) _ _)
          ∙ ap (λ (l : List (Entry ℕ)). l ++ remaining_all es o.trees) (sym (remaining-next s o.t0 o.t1 o.t2 o.t3 q h))
          ∙ o.same

      -- there is no child q
      pub climb-past : q < 4 → kid m s q ≡ 0 → Climbs m next (standing s (q + 1) ∷ es) rest
      climb-past h k =
          let o = open' in
          record {
            trees = node s o.t0 o.t1 o.t2 o.t3 ∷ o.trees;
            steps = (o.leads, o.lent, o.low, omega arith, o.below);
            same = ap (λ (l : List (Entry ℕ)). l ++ (remaining (q + 1) (node s o.t0 o.t1 o.t2 o.t3) ++ remaining_all es o.trees))
                (sym (bare (pick q o.t0 o.t1 o.t2 o.t3) (leads-pick s o.t0 o.t1 o.t2 o.t3 m next q o.leads)))
                ∙ next_child h;
          }
        where
          bare : (t : Tree ℕ) → Leads m next (kid m s q) t → parent_last t ≡ []
          bare none l = refl
          bare (leaf i is) l = absurd (omega (arith, k, l.0))
          bare (node i u0 u1 u2 u3) l = absurd (omega (arith, k, l.0))

      -- child q is walked next
      pub climb-down : q < 4 → (kid m s q ≡ 0 → ⊥) → Climbs m next (standing (kid m s q - 1) 0 ∷ standing s (q + 1) ∷ es) rest
      climb-down h k =
          let o = open' in
          let t = pick q o.t0 o.t1 o.t2 o.t3 in
          let e : kid m s q ≡ kid m s q - 1 + 1 = omega arith in
          record {
            trees = t ∷ node s o.t0 o.t1 o.t2 o.t3 ∷ o.trees;
            steps = (
              subst (λ (p : ℕ). Leads m next p t) e (leads-pick s o.t0 o.t1 o.t2 o.t3 m next q o.leads),
              slots-pick s o.t0 o.t1 o.t2 o.t3 (λ s. InSlots s m) q o.lent,
              omega (arith, depth-pick s o.t0 o.t1 o.t2 o.t3 q, o.low),
              omega arith,
              (o.leads, o.lent, o.low, omega arith, o.below),
            );
            same = ap (λ (l : List (Entry ℕ)). l ++ (remaining (q + 1) (node s o.t0 o.t1 o.t2 o.t3) ++ remaining_all es o.trees)) (remaining-all t) ∙ next_child h;
          }

      -- no child is left: it is handed out
      pub climb-node : 3 < q → (others : List (Entry ℕ)) × (rest ≡ internal s ∷ others) × KidsIn m s × Climbs m next es others
      climb-node h =
          let o = open' in (
            remaining_all es o.trees,
            sym o.same ∙ ap (λ (l : List (Entry ℕ)). l ++ remaining_all es o.trees) (remaining-last s o.t0 o.t1 o.t2 o.t3 q h),
            (
              lent-kid (kid m s 0) o.t0 o.leads.2 o.lent.1,
              lent-kid (kid m s 1) o.t1 o.leads.3 o.lent.2,
              lent-kid (kid m s 2) o.t2 o.leads.4 o.lent.3,
              lent-kid (kid m s 3) o.t3 o.leads.5 o.lent.4,
            ),
            record { trees = o.trees; steps = o.below; same = refl },
          )

    -- ---- a leaf is handed out
    pub climb-leaf : (InternalIn m s → ⊥)
        → (is : List ℕ) × (others : List (Entry ℕ)) × (rest ≡ tip s is ∷ others) × LeafIn m s is × Follows next is × Climbs m next es others
    climb-leaf z = go c.trees c.steps c.same
      where
        go : (ts : List (Tree ℕ)) → Steps m next (standing s q ∷ es) ts → remaining_all (standing s q ∷ es) ts ≡ rest
            → (is : List ℕ) × (others : List (Entry ℕ)) × (rest ≡ tip s is ∷ others) × LeafIn m s is × Follows next is × Climbs m next es others
        go [] w r = absurd w
        go (none ∷ ts) w r = absurd (omega (arith, w.0))
        go (node i t0 t1 t2 t3 ∷ ts) w r =
            let e : i ≡ s = omega (arith, w.0.0) in
            absurd (z (rw e at w.0.1.tag))
        go (leaf i is ∷ ts) w r =
            let e : i ≡ s = omega (arith, w.0.0) in
            (is, remaining_all es ts, sym r ∙ rw e, rw e at w.0.1, w.0.2, record { trees = ts; steps = w.4; same = refl })
