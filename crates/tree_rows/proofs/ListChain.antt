-- A chain, written particle by particle.
use mathlib.Core.Path.{◌≡◌, refl, sym, ◌∙◌}
use mathlib.Core.List.{List, [], ◌∷◌}
use Prim.Native.Nat.{ℕ, ◌+◌, ◌-◌, ◌<◌}
use native.Mathlib.Omega.{arith}
use lib.ListN.{length, get_or, set, length-set}
use Rattle.rules.specs.Plain.{overwritten}
use Rattle.sheet.proofs.Lists.{overwritten-none, store_first}
use Rattle.tree_slots.proofs.Links.{trails_unique}
use Rattle.tree_slots.specs.Trees.{Trails}
use Rattle.tree_rows.specs.List.{ListableChain}

module _ (next before : List ℕ) (p at : ℕ) where
  -- The chain from p on is being written behind the first `at`: it is left to write the one from `link` on at `end`.
  pub record Chaining (chains : List ℕ) (link end : ℕ) : Type 0 where
    pub left : List ℕ
    pub chain : ListableChain next link (length before) end left
    pub size : length chains ≡ length before
    pub whole : (is : List ℕ) → ListableChain next p (length before) at is → (overwritten before at is ≡ overwritten chains end left) × (at + length is ≡ end + length left)

  pub chaining_start : (is : List ℕ) × ListableChain next p (length before) at is → Chaining before p at
  chaining_start v = record {
    left = v.0;
    chain = v.1;
    size = refl;
    whole = λ is w. let e = trails_unique next p is v.0 w.trails v.1.trails in (rw e, rw e);
  }

  -- a link that is not the end leads to a particle, and there is room for it
  pub record Here (link end : ℕ) : Type 0 where
    pub some : 0 < link
    pub inside : link - 1 < length next
    pub room : end < length before

  pub chaining_here : (chains : List ℕ) (link end : ℕ) → Chaining chains link end → (link ≡ 0 → ⊥) → Here link end
  chaining_here chains link end h f = go h.left h.chain
    where
      go : (is : List ℕ) → ListableChain next link (length before) end is → Here link end
      go [] v = absurd (f v.trails)
      go (i ∷ is) v = record { some = omega (arith, v.trails.0); inside = omega (arith, v.trails.0, v.below.0); room = omega (arith, v.room) }

  pub chaining_turn : (chains : List ℕ) (link end : ℕ) → Chaining chains link end → (link ≡ 0 → ⊥)
      → Chaining (set chains end (link - 1)) (get_or next (link - 1) 0) (end + 1)
  chaining_turn chains link end h f = go h.left h.chain h.whole
    where
      go : (js : List ℕ) → ListableChain next link (length before) end js
          → ((is : List ℕ) → ListableChain next p (length before) at is → (overwritten before at is ≡ overwritten chains end js) × (at + length is ≡ end + length js))
          → Chaining (set chains end (link - 1)) (get_or next (link - 1) 0) (end + 1)
      go [] v g = absurd (f v.trails)
      go (i ∷ js) v g =
          let e : link - 1 ≡ i = omega (arith, v.trails.0) in
          rw e (record {
            left = js;
            chain = record { trails = v.trails.1; below = v.below.1; room = omega (arith, v.room) };
            size = length-set chains end i ∙ h.size;
            whole = λ is w. ((g is w).0 ∙ store_first chains end i js (omega (arith, h.size, v.room)), omega (arith, (g is w).1));
          })

  pub chaining_end : (chains : List ℕ) (link end : ℕ) → Chaining chains link end → link ≡ 0 → (is : List ℕ) → ListableChain next p (length before) at is
      → (chains ≡ overwritten before at is) × (end ≡ at + length is)
  chaining_end chains link end h z is w = go h.left h.chain.trails (h.whole is w).0 (h.whole is w).1
    where
      go : (js : List ℕ) → Trails next link js → overwritten before at is ≡ overwritten chains end js → at + length is ≡ end + length js
          → (chains ≡ overwritten before at is) × (end ≡ at + length is)
      go [] l a b = (sym (a ∙ overwritten-none chains end), omega arith)
      go (j ∷ js) l a b = absurd (omega arith)
