-- What the call comes to: by which numbers edits are refused, what was built by them, and what is left then.
use mathlib.Core.Path.{◌≡◌, refl, sym, ap, ◌∙◌, subst}
use mathlib.Core.Bool.{true}
use mathlib.Core.List.{List, [], ◌∷◌}
use Prim.Native.Nat.{ℕ, ◌+◌}
use native.Mathlib.Omega.{arith}
use lib.Dec.{leb}
use lib.ListN.{length}
use lib.Ieee.{Float}
use Rattle.std.specs.Prelude.{Result, Ok, Err}
use Rattle.rules.specs.declared.Extent.{Extent}
use Rattle.rules.specs.declared.Refusal.{Refusal}
use Rattle.rules.specs.declared.TreeAnswer.{TreeAnswer}
use Rattle.rules.specs.Number.{within, x_at, y_at}
use Rattle.rules.specs.Outcome.{done, refused, fine, refusal_of, if_done, on_the_way}
use Rattle.rules.specs.Cell.{nowhere}
use Rattle.rules.specs.Tree.{Tree, nodes, depth, fits_check, greatest_level}
use Rattle.rules.specs.Calls.{slots_of}
use Rattle.rules.specs.Edits.{Edit, points_of, insertions, Present, present, edited, present_after, removable, extent_now, tree_now, edit_check, edits_from, EditsInput, edit_list, edit_input_check, edits_result, edits_answer, edit_rows_after, edit_chains_after, edit_work_after}
use Rattle.tree_slots.specs.declared.Quadtree.{Quadtree}
use Rattle.tree_build.specs.Build.{particles}
use Rattle.rules.proofs.RefusalLaws.{Refuses, of_require, of_done, ◌then·◌, ◌>>=·◌}
use Rattle.tree_call.specs.Tree.{refused_tree, refused_work, Comes, extent_built, Answers}
use Rattle.tree_call.proofs.TreeCalled.{work_cleared}
use Rattle.edits_words.proofs.Words.{points-length, points_ranged, kinds_known}
use Rattle.edits_made.specs.Editing.{FlagsLent, Edits, AllDone}
use Rattle.edits_call.specs.Call.{AfterEdits, EditsReady}
use Rattle.edits_call.proofs.Checks.{Passes, passing}

-- ---- the numbers of edits: 6, 7 and 15

-- all of them are met on the way
abbrev Met : Refusal → Type 0
Met r = on_the_way r ≡ true

fits_met : {A : Type 0} (slots k : ℕ) (t : Tree A) → Refuses Met (fits_check slots k t)
unfolding fits_check
fits_met slots k t = of_require (leb (depth t) (greatest_level + 1)) 6 k refl then· of_require (leb (nodes t) slots) 7 k refl

edits_met : (at : List Float) (slots k : ℕ) (s : Present) (es : List Edit) → Refuses Met (edits_from at slots k s es)
unfolding edits_from edit_check
edits_met at slots k s [] = of_done
edits_met at slots k s (e ∷ es) = of_require (removable s e) 15 k refl then· fits_met slots k (tree_now at (edited s e)) >>=· λ _. edits_met at slots (k + 1) (edited s e) es

-- ---- past the checks

module _ (l : EditsInput) (at : List Float) (size flags links tails : ℕ) (d : EditsReady l size flags links tails) (e : at ≡ points_of (edit_list l)) where
  p : Passes l
  p = passing l d.passed

  half : particles at ≡ insertions (edit_list l)
  half = omega (arith, ap length e, points-length (edit_list l))

  pub can_edit : Edits l.edits at
  can_edit = record { few = p.few; whole = p.whole; known = kinds_known l.edits p.kinds; points = sym half }

  pub has_room : (there next tail : List ℕ) → length there ≡ flags → length next ≡ links → length tail ≡ tails → FlagsLent at there next tail
  has_room there next tail f n t =
      record {
        lent =
            record {
              ranged = λ i k. subst (λ (a : List Float). (within (x_at a i) ≡ true) × (within (y_at a i) ≡ true)) (sym e) (points_ranged (edit_list l) p.points i (omega (arith, half)));
              few = omega (arith, half, p.made);
              links = omega (arith, half, d.links);
              tails = omega (arith, half, d.tails);
            };
        flags = omega (arith, half, d.flags);
      }

  module _ (m : List ℕ) (k : length m ≡ length l.work) where
    slots : slots_of m ≡ slots_of l.work
    slots = omega arith

    abbrev s : Present
    s = present_after (edit_list l)

    -- what the rules say, by what the edits came to
    result-refused : (r : Refusal) → edits_from at (slots_of m) 0 (present 0 []) (edit_list l) ≡ refused r → edits_result l ≡ refused r
    unfolding edits_result
    result-refused r h = let g : edits_from (points_of (edit_list l)) (slots_of l.work) 0 (present 0 []) (edit_list l) ≡ refused r = rw (← e, ← slots) h in rw (d.passed, g)

    result_done : edits_from at (slots_of m) 0 (present 0 []) (edit_list l) ≡ fine → edits_result l ≡ done (tree_now at s)
    unfolding edits_result
    result_done h = let g : edits_from (points_of (edit_list l)) (slots_of l.work) 0 (present 0 []) (edit_list l) ≡ fine = rw (← e, ← slots) h in rw (d.passed, g, ← e)

    clears : Refuses Met (edits_result l)
    unfolding edits_result
    clears = rw d.passed (edits_met (points_of (edit_list l)) (slots_of l.work) 0 (present 0 []) (edit_list l) >>=· λ _. of_done)

    pub edits-come : (next : List ℕ) → length next ≡ links → (b : Result Quadtree Refusal) → AllDone l.edits at m next b → Comes (edits_result l) b m next (length l.rows) (length l.chains)
    edits-come next j (Err r) h = result-refused r h
    edits-come next j (Ok q) h =
        let w = h.1 in
        let own : length next ≡ particles at = omega (arith, half, d.links) in (
          tree_now at s,
          result_done h.0,
          record {
            stands = w.lays;
            below = rw own w.below;
            space = omega (arith, w.few, half, p.chains);
            few = (omega (arith, half, d.links, p.made), omega (arith, p.chains, p.made));
            room = omega (arith, w.lays.room, p.rows);
          },
        )

    -- the extent is that of all points inserted, and the slots are cleared
    pub edits-after : (next : List ℕ) (b : Result Quadtree Refusal) → AllDone l.edits at m next b → (a : TreeAnswer) (rows chains work : List ℕ) → Answers (edits_result l) b a l.rows l.chains m rows chains work → AfterEdits l a rows chains work
    unfolding edits_answer edit_rows_after edit_chains_after edit_work_after
    edits-after next b h a rows chains work w =
        record {
          answer = w.answer ∙ ap (λ (c : Extent). record { refusal = refusal_of (edits_result l); nodes = if_done (edits_result l) nodes 0; extent = c }) (extent_is b h);
          listed = w.listed;
          chained = w.chained;
          worked = w.worked ∙ work_cleared (edits_result l) m l.work clears k;
        }
      where
        extent_is : (b : Result Quadtree Refusal) → AllDone l.edits at m next b → extent_built b ≡ if_done (edits_result l) (λ _. extent_now (points_of (edit_list l)) s) nowhere
        extent_is (Err r) h = rw (result-refused r h)
        extent_is (Ok q) h = rw (result_done h.0) (h.1.extent ∙ ap (λ (x : List Float). extent_now x s) e)

-- ---- refused by the checks

module _ (l : EditsInput) (r : Refusal) (e : edit_input_check l ≡ refused r) where
  result-is : edits_result l ≡ refused r
  unfolding edits_result
  result-is = rw e

  answer_is : edits_answer l ≡ refused_tree r
  unfolding edits_answer
  answer_is = rw result-is

  rows_are : edit_rows_after l ≡ l.rows
  unfolding edit_rows_after
  rows_are = rw result-is

  chains_are : edit_chains_after l ≡ l.chains
  unfolding edit_chains_after
  chains_are = rw result-is

  work_is : edit_work_after l ≡ refused_work r l.work
  unfolding edit_work_after
  work_is = rw result-is

  pub ends_refused : (a : TreeAnswer) (work : List ℕ) → a ≡ refused_tree r → work ≡ refused_work r l.work → AfterEdits l a l.rows l.chains work
  ends_refused a work h w = record { answer = h ∙ sym answer_is; listed = sym rows_are; chained = sym chains_are; worked = w ∙ sym work_is }
