-- A tree in slots, taken apart to count its levels.
use Rattle.std.proofs.Common.{add-one}
use mathlib.Core.Path.{◌≡◌, refl, ap, ◌∙◌}
use mathlib.Core.List.{List, [], ◌∷◌}
use Prim.Native.Nat.{ℕ, zero, suc, ◌+◌, ◌-◌, ◌≤◌, ◌<◌, max}
use native.Mathlib.Omega.{arith}
use lib.ListN.{get_or}
use Rattle.rules.specs.Tree.{Tree, none, leaf, node, depth}
use Rattle.tree_slots.specs.Slots.{word, kids, InSlots}
use Rattle.tree_slots.specs.Trees.{lead, InternalIn}
use Rattle.tree_placing.specs.Add.{pick}
use Rattle.tree_build.specs.Depth.{Goes}

-- child n of a node
abbrev child : Tree ℕ → ℕ → Tree ℕ
child none n = none
child (leaf s is) n = none
child (node s t0 t1 t2 t3) n = pick t0 t1 t2 t3 n

-- how many levels the deepest of a node's first n children has
abbrev pub below : Tree ℕ → ℕ → ℕ
below t zero = 0
below t (suc n) = max (below t n) (depth (child t n))

pub below_more : (t : Tree ℕ) (n : ℕ) → below t (n + 1) ≡ max (below t n) (depth (child t n))
below_more t n = rw add-one

module _ (m : List ℕ) (p level : ℕ) where
  -- any other number to a node, whose slot is there
  pub goes_some : (t : Tree ℕ) → Goes m p level t → (p ≡ 0 → ⊥) → InSlots (p - 1) m × (level ≤ 64)
  goes_some none g n = absurd (n g.leads)
  goes_some (leaf s is) g n = (omega (arith, g.leads, g.slots), omega (arith, g.levels))
  goes_some (node s t0 t1 t2 t3) g n = (omega (arith, g.leads, g.slots.0), omega (arith, g.levels))

  -- an internal node: its children lead to trees one level down
  pub goes_child : (ks : List ℕ) (t : Tree ℕ) → Goes m p level t → (p ≡ 0 → ⊥) → InternalIn m (p - 1) → ks ≡ kids m (p - 1) → (n : ℕ) → n < 4 → Goes m (get_or ks n 0) (level + 1) (child t n)
  goes_child ks none g z w k n l = absurd (z g.leads)
  goes_child ks (leaf s is) g z w k n l =
      let e : p - 1 ≡ s = omega (arith, g.leads) in
      absurd (omega (arith, ap (λ (i : ℕ). word m i 0) e, g.stored.tag))
  goes_child ks (node s t0 t1 t2 t3) g z w k n l =
      let e : p - 1 ≡ s = omega (arith, g.leads) in
      rw (k ∙ ap (kids m) e ∙ g.stored.0.kids) (each n l)
    where
      most : depth (node s t0 t1 t2 t3) + level ≤ 65
      most = g.levels

      each : (n : ℕ) → n < 4 → Goes m (get_or (lead t0 ∷ lead t1 ∷ lead t2 ∷ lead t3 ∷ []) n 0) (level + 1) (pick t0 t1 t2 t3 n)
      each zero l = record { leads = refl; stored = g.stored.1; slots = g.slots.1; levels = omega (arith, most) }
      each (suc zero) l = record { leads = refl; stored = g.stored.2; slots = g.slots.2; levels = omega (arith, most) }
      each (suc (suc zero)) l = record { leads = refl; stored = g.stored.3; slots = g.slots.3; levels = omega (arith, most) }
      each (suc (suc (suc zero))) l = record { leads = refl; stored = g.stored.4; slots = g.slots.4; levels = omega (arith, most) }
      each (suc (suc (suc (suc n)))) l = absurd (omega arith)

  -- and it has one level more than the deepest of them
  pub below_all : (t : Tree ℕ) → Goes m p level t → (p ≡ 0 → ⊥) → InternalIn m (p - 1) → depth t ≡ below t 4 + 1
  below_all none g z w = absurd (z g.leads)
  below_all (leaf s is) g z w =
      let e : p - 1 ≡ s = omega (arith, g.leads) in
      absurd (omega (arith, ap (λ (i : ℕ). word m i 0) e, g.stored.tag))
  below_all (node s t0 t1 t2 t3) g z w = omega arith
