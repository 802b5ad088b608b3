-- The next insertion: what it asks of the functions it calls, and what is there after it.
use mathlib.Core.Path.{◌≡◌, refl, sym, ap, ◌∙◌}
use mathlib.Core.Logic.{⊎_elim}
use mathlib.Core.Bool.{Bool, true, false, cond}
use mathlib.Core.List.{List, [], ◌∷◌, ◌++◌}
use Prim.Native.Nat.{ℕ, ◌+◌, ◌/◌, ◌<◌}
use native.Mathlib.Omega.{arith}
use native.Mathlib.Decide.{ℕ_discrete}
use lib.Dec.{leb}
use lib.ListN.{length, get_or, set}
use lib.Seq.{get_or-set_same, get_or-set_other}
use lib.Ieee.{Float}
use Rattle.std.specs.Prelude.{Ok}
use Rattle.rules.specs.declared.Extent.{Extent}
use Rattle.rules.specs.Cover.{cover_first, extent_of}
use Rattle.rules.specs.Outcome.{Check, done, fine, refused, refusal, require, ◌then◌}
use Rattle.rules.specs.Tree.{Tree, depth, nodes, tree_in, fits_check, greatest_level}
use Rattle.rules.specs.Edits.{Edit, insertion, Present, edited, among, extent_now, tree_now, edit_check}
use Rattle.rules.proofs.CellList.{In}
use Rattle.tree_slots.specs.declared.Quadtree.{Quadtree}
use Rattle.tree_slots.proofs.Links.{rises_snoc}
use Rattle.tree_placing.specs.Add.{Puts, more_check, Placed}
use Rattle.tree_placing.proofs.AddChain.{none_in, in_snoc}
use Rattle.tree_build.specs.Build.{particles, ComesNext}
use Rattle.tree_build.proofs.AddBuild.{empty_root}
use Rattle.edits_made.specs.Editing.{Now, FlagsLent}
use Rattle.rules.proofs.EditLaws.{among_new, among-old}
use Rattle.rules.specs.Calls.{slots_of, slot_words}

-- a check's answer at another place
abbrev at_place : ℕ → Check → Check
at_place k (done t) = fine
at_place k (refused r) = refused (refusal r.number k)

fits_place : {A : Type 0} (slots i k : ℕ) (t : Tree A) → fits_check slots k t ≡ at_place k (fits_check slots i t)
unfolding fits_check
fits_place slots i k t = go (leb (depth t) (greatest_level + 1)) (leb (nodes t) slots)
  where
    go : (a b : Bool) → (require a 6 k then require b 7 k) ≡ at_place k (require a 6 i then require b 7 i)
    go true true = refl
    go true false = refl
    go false b = refl

module _ (at : List Float) (s : Present) (there m next tail : List ℕ) (q : Quadtree) (h : Now at s there m next tail q) (room : FlagsLent at there next tail) (less : s.made < particles at) where
  abbrev p : ℕ
  p = s.made

  abbrev is : List ℕ
  is = s.left

  -- before the first insertion there is no root
  first_empty : p ≡ 0 → q.root ≡ 0
  first_empty z = empty_root at is m q h.holds (none_in is (λ i n. omega (arith, h.earlier i n)))

  pub insert_follows : ComesNext at q p
  unfolding extent_now
  insert_follows = record { extent = h.extent; empty = first_empty; ranged = λ i l. room.lent.ranged i (omega (arith, less)); read = omega (arith, less) }

  pub insert-puts : Puts at is m next tail q p
  insert-puts =
      record {
        seeks = record { holds = h.holds; rises = h.rises; earlier = h.earlier; ranged = λ i l. room.lent.ranged i (omega (arith, less)); few = omega (arith, less, room.lent.few); read = omega (arith, less) };
        linked = h.linked;
        in_next = omega (arith, less, room.lent.links);
        in_tail = omega (arith, less, room.lent.tails);
      }

  -- the extent with p
  abbrev wide : Extent
  wide = extent_of (cover_first at (p + 1))

  module _ (k : ℕ) (u v : Float) (m' : List ℕ) (size : length m' ≡ length m) where
    abbrev e : Edit
    e = insertion u v

    tree_is : tree_in at wide (is ++ (p ∷ [])) ≡ tree_now at (edited s e)
    unfolding tree_now extent_now
    tree_is = refl

    -- the rules' check of this edit is that of the tree with p, at the edit's place
    check-is : edit_check at (slots_of m) k s e ≡ at_place k (more_check at is m' wide p)
    unfolding edit_check
    check-is =
        ap (λ (t : Tree Extent). fits_check (slots_of m) k t) (sym tree_is)
        ∙ ap (λ (n : ℕ). fits_check (n / slot_words) k (tree_in at wide (is ++ (p ∷ [])))) (sym size)
        ∙ fits_place (slots_of m') p k (tree_in at wide (is ++ (p ∷ [])))

    pub insert-refused : (n : ℕ) → more_check at is m' wide p ≡ refused (refusal n p) → edit_check at (slots_of m) k s e ≡ refused (refusal n k)
    insert-refused n f = check-is ∙ ap (at_place k) f

    pub insert-fine : more_check at is m' wide p ≡ fine → edit_check at (slots_of m) k s e ≡ fine
    insert-fine f = check-is ∙ ap (at_place k) f

    module _ (there' next' tail' : List ℕ) (flag : there' ≡ set there p 1) (r : Quadtree) (d : Placed at is m' next' tail' wide p (Ok r)) where
      earlier' : (i : ℕ) → In i (is ++ (p ∷ [])) → i < p + 1
      earlier' i n = ⊎_elim (λ l. omega (arith, h.earlier i l)) (λ z. omega arith) (in_snoc i p is n)

      flags' : (i : ℕ) → i < p + 1 → get_or there' i 0 ≡ cond (among i (is ++ (p ∷ []))) 1 0
      flags' i l = elim (ℕ_discrete p i) [
        | yes z ↦ rw (← z) (ap (λ (f : List ℕ). get_or f p 0) flag ∙ get_or-set_same there p 1 0 (omega (arith, less, room.flags)) ∙ ap (λ (b : Bool). cond b 1 0) (sym (among_new p is)))
        | no n ↦ ap (λ (f : List ℕ). get_or f i 0) flag ∙ get_or-set_other there p i 1 0 (λ z. n (sym z)) ∙ h.flags i (omega arith) ∙ ap (λ (b : Bool). cond b 1 0) (sym (among-old i p is n))
      ]

      pub insert-now : Now at (edited s e) there' m' next' tail' r
      unfolding extent_now
      insert-now =
          record {
            holds = d.1.0;
            linked = d.1.2;
            rises = rises_snoc 0 p is (omega arith) h.earlier h.rises;
            earlier = earlier';
            extent = d.1.1;
            flags = flags';
          }
