-- A removal: what it asks of the functions it calls, and what is there after it.
use mathlib.Core.Path.{◌≡◌, refl, sym, ap, ◌∙◌}
use mathlib.Core.Bool.{Bool, true, false, cond}
use mathlib.Core.List.{List}
use Prim.Native.Nat.{ℕ, ◌≤◌, ◌<◌}
use native.Mathlib.Omega.{arith}
use native.Mathlib.Decide.{ℕ_discrete}
use lib.ListN.{length, get_or, set}
use lib.Seq.{get_or-set_same, get_or-set_other}
use lib.Ieee.{Float}
use Rattle.rules.specs.Outcome.{fine, refused, refusal}
use Rattle.rules.specs.Plain.{others}
use Rattle.rules.specs.Edits.{removal, Present, edited, among, extent_now, tree_now, edit_check}
use Rattle.rules.proofs.CellList.{In, in_keep}
use Rattle.tree_slots.specs.declared.Quadtree.{Quadtree}
use Rattle.tree_slots.proofs.Links.{rises_keep}
use Rattle.tree_placing.proofs.AddHold.{holds_fits}
use Rattle.tree_placing.proofs.AddPlaced.{ranged_points}
use Rattle.tree_removing.specs.Take.{Removes, Removed}
use Rattle.tree_build.specs.Build.{particles}
use Rattle.edits_made.specs.Editing.{Now, FlagsLent}
use Rattle.rules.proofs.EditLaws.{among_in, among_gone, among-kept}
use Rattle.rules.specs.Calls.{slots_of}

module _ (at : List Float) (s : Present) (there m next tail : List ℕ) (q : Quadtree) (h : Now at s there m next tail q) (i : ℕ) where
  abbrev is : List ℕ
  is = s.left

  -- ---- what isn't there

  pub absent : (slots k : ℕ) → among i is ≡ false → edit_check at slots k s (removal i) ≡ refused (refusal 15 k)
  unfolding edit_check
  absent slots k e = rw e

  -- not made yet
  pub not_made : s.made ≤ i → among i is ≡ false
  not_made l = go (among i is) refl
    where
      go : (b : Bool) → among i is ≡ b → among i is ≡ false
      go true e = absurd (omega (arith, h.earlier i (among_in i is e)))
      go false e = e

  -- already removed
  pub flag_out : i < s.made → get_or there i 0 ≡ 0 → among i is ≡ false
  flag_out l z = go (among i is) refl (h.flags i l)
    where
      go : (b : Bool) → among i is ≡ b → get_or there i 0 ≡ cond b 1 0 → among i is ≡ false
      go true e f = absurd (omega (arith, f, z))
      go false e f = e

  pub flag_in : i < s.made → (get_or there i 0 ≡ 0 → ⊥) → among i is ≡ true
  flag_in l n = go (among i is) refl (h.flags i l)
    where
      go : (b : Bool) → among i is ≡ b → get_or there i 0 ≡ cond b 1 0 → among i is ≡ true
      go true e f = e
      go false e f = absurd (n f)

  -- ---- what is there

  module _ (room : FlagsLent at there next tail) (most : s.made ≤ particles at) (e : among i is ≡ true) where
    own : In i is
    own = among_in i is e

    pub remove-asks : Removes at is m next tail q i
    remove-asks =
        record {
          holds = h.holds;
          linked = h.linked;
          rises = h.rises;
          within = own;
          points = λ j n. (
            ranged_points at is (particles at) room.lent.ranged (λ j n. omega (arith, h.earlier j n)) j n,
            omega (arith, h.earlier j n),
            omega (arith, h.earlier j n, room.lent.links),
          );
          lengths = room.lent.tails ∙ sym room.lent.links;
          few = omega (arith, room.lent.links, room.lent.few);
        }

    module _ (there' m' next' tail' : List ℕ) (flag : there' ≡ set there i 0) (size : length m' ≡ length m) (r : Quadtree) (d : Removed at (others i is) m' next' tail' q r) where
      flags' : (j : ℕ) → j < s.made → get_or there' j 0 ≡ cond (among j (others i is)) 1 0
      flags' j l = elim (ℕ_discrete i j) [
        | yes z ↦ rw (← z) (ap (λ (f : List ℕ). get_or f i 0) flag ∙ get_or-set_same there i 0 0 (omega (arith, h.earlier i own, room.flags)) ∙ ap (λ (b : Bool). cond b 1 0) (sym (among_gone i is)))
        | no n ↦ ap (λ (f : List ℕ). get_or f j 0) flag ∙ get_or-set_other there i j 0 0 (λ z. n (sym z)) ∙ h.flags j l ∙ ap (λ (b : Bool). cond b 1 0) (sym (among-kept j i is n))
      ]

      extent_is : r.extent ≡ extent_now at (edited s (removal i))
      unfolding extent_now
      extent_is = d.extent ∙ h.extent

      pub remove-now : Now at (edited s (removal i)) there' m' next' tail' r
      remove-now =
          record {
            holds = d.holds;
            linked = d.linked;
            rises = rises_keep _ 0 is h.rises;
            earlier = λ j n. h.earlier j (in_keep _ is j n).0;
            extent = extent_is;
            flags = flags';
          }

      -- a smaller tree always fits
      pub remove-fine : (k : ℕ) → edit_check at (slots_of m) k s (removal i) ≡ fine
      unfolding edit_check tree_now
      remove-fine k = rw (e, ← size) (holds_fits at (others i is) m' r (extent_now at (edited s (removal i))) k d.holds extent_is)
