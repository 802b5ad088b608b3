-- A walk parent last along its path: each turn, with the path's lowest step taken off. Assumes nothing.
use mathlib.Core.Path.{◌≡◌, refl, sym, ap, ◌∙◌}
use mathlib.Core.List.{List, [], ◌∷◌}
use Prim.Native.Nat.{ℕ, zero, suc, ◌+◌, ◌*◌, ◌-◌, ◌≤◌, ◌<◌}
use native.Mathlib.Omega.{arith}
use lib.ListN.{length, get_or}
use Rattle.rules.specs.Walk.{Entry, internal, tip}
use Rattle.tree_slots.specs.Trees.{kid, kids, InSlots, InternalIn}
use Rattle.tree_walk.specs.WalkAfter.{Step, standing, Climbs}
use Rattle.tree_walk.specs.Path.{First}
use Rattle.tree_walk.proofs.WalkClimb.{climb-lent, climb-leaf, climb-node, climb-past, climb-down}

-- the quadrant that is next at the path's end
abbrev pub turned : List Step → ℕ
turned [] = 0
turned (e ∷ es) = e.quadrant

-- falls where the path grows, and where its end turns to a later quadrant
abbrev pub turns_left : List Step → ℕ
turns_left p = 5 * (66 - length p) - turned p

-- child q among the four
kid_at : (m : List ℕ) (s q : ℕ) → q < 4 → get_or (kids m s) q 0 ≡ kid m s q
kid_at m s zero h = refl
kid_at m s (suc zero) h = refl
kid_at m s (suc (suc zero)) h = refl
kid_at m s (suc (suc (suc zero))) h = refl
kid_at m s (suc (suc (suc (suc q)))) h = absurd (omega arith)

module _ {m next : List ℕ} {p v : List Step} {s q : ℕ} {rest : List (Entry ℕ)} (c : Climbs m next p rest) (e : p ≡ standing s q ∷ v) where
  here : Climbs m next (standing s q ∷ v) rest
  here = rw e at c

  pub lent : InSlots s m × (length v ≤ 64) × (q ≤ 4)
  lent = climb-lent m next s q v rest here

  -- a leaf is handed out
  pub first_leaf : (InternalIn m s → ⊥) → First m next v s rest
  first_leaf z =
      let r = climb-leaf m next s q v rest here z in
      record { entry = tip s r.0; others = r.1; split = r.2; stands = (refl, r.3, r.4); lent = lent.0; climbs = r.5 }

  module _ (z : InternalIn m s) where
    -- an internal node is handed out
    pub first_node : q ≡ 4 → First m next v s rest
    first_node h =
        let r = climb-node m next s q v rest here z (omega arith) in
        record { entry = internal s; others = r.0; split = r.1; stands = (refl, z, r.2); lent = lent.0; climbs = r.3 }

    module _ (h : (q ≡ 4 → ⊥)) {ks : List ℕ} (k : ks ≡ kids m s) {p' : List Step} (e' : p' ≡ standing s (q + 1) ∷ v) where
      child : get_or ks q 0 ≡ kid m s q
      child = ap (λ (l : List ℕ). get_or l q 0) k ∙ kid_at m s q (omega (arith, lent.2, h))

      -- the next quadrant, where there is no child
      pub turn_past : get_or ks q 0 ≡ 0 → Climbs m next p' rest
      turn_past n = rw e' (climb-past m next s q v rest here z (omega (arith, lent.2, h)) (sym child ∙ n))

      pub falls_past : turns_left p' < turns_left p
      falls_past = rw (e', e) (omega (arith, lent.1, lent.2))

      module _ {b : ℕ} (n : get_or ks q 0 ≡ suc b) where
        below : Climbs m next (standing b 0 ∷ standing s (q + 1) ∷ v) rest
        below =
            let i : kid m s q - 1 ≡ b = omega (arith, child, n) in
            rw i at (climb-down m next s q v rest here z (omega (arith, lent.2, h)) (λ o. omega (arith, child, n)))

        -- there is a place below
        pub deep : length p' < 65
        deep = rw e' (omega (arith, (climb-lent m next b 0 (standing s (q + 1) ∷ v) rest below).1))

        -- down to the child
        module _ {w : List Step} (f : w ≡ standing b 0 ∷ p') where
          pub turn_down : Climbs m next w rest
          turn_down = rw (f, e') below

          pub falls_down : turns_left w < turns_left p
          falls_down = rw (f, e', e) (omega (arith, lent.1, lent.2, rw e' at deep))
