-- What a call that builds a tree answers and leaves, by what building came to.
use mathlib.Core.Path.{◌≡◌, refl, sym, ap, ◌∙◌}
use mathlib.Core.Bool.{true}
use mathlib.Core.List.{List}
use Prim.Native.Nat.{ℕ, ◌/◌}
use native.Mathlib.Omega.{arith}
use borrow.Author.Tests.{ne_eqb}
use lib.ListN.{length, replicate}
use lib.Ieee.{Float}
use Rattle.std.specs.Prelude.{Result, Ok, Err}
use Rattle.rules.specs.declared.Extent.{Extent}
use Rattle.rules.specs.declared.Refusal.{Refusal}
use Rattle.rules.specs.declared.TreeAnswer.{TreeAnswer}
use Rattle.rules.specs.Plain.{padded, zeros}
use Rattle.rules.specs.Outcome.{Outcome, done, refused, no_refusal, fine, refusal_of, if_done, on_the_way, zeroes_work, work_after}
use Rattle.rules.specs.Sheet.{record_size, count_of, particles_of, places_of, pairs_from}
use Rattle.rules.specs.Cell.{nowhere}
use Rattle.rules.specs.Cover.{cover_first, extent_of}
use Rattle.rules.specs.Tree.{Tree, nodes, tree_of, tree_check, rows_of, flat, chains_of}
use Rattle.rules.specs.Calls.{slots_of, TreeInput, tree_answer, rows_after, chains_after, tree_work_after}
use Rattle.rules.proofs.RefusalLaws.{Refuses, of_done, ◌>>=·◌}
use Rattle.sheet.proofs.Checked.{all_ranged, records-sound}
use Rattle.sheet.proofs.Columns.{places_of_lem}
use Rattle.tree_slots.specs.declared.Quadtree.{Quadtree}
use Rattle.tree_slots.specs.Trees.{Stands}
use Rattle.tree_rows.proofs.ListWhole.{chains-all}
use Rattle.tree_call.specs.Tree.{AfterTree, refused_tree, refused_work, Comes, extent_built, Answers, built, TreeReady}
use Rattle.tree_build.specs.Build.{particles, Lent, Builds}
use Rattle.tree_slots.proofs.Trees.{lays_levels}
use Rattle.tree_build.proofs.Refusals.{tree_clears}

-- ---- which refusals clear the work slots

-- of what is cleared only the length matters
pub work_cleared : {A : Type 0} (o : Outcome A) (m work : List ℕ) → Refuses (λ r. on_the_way r ≡ true) o → length m ≡ length work → work_after o m ≡ work_after o work
work_cleared (done a) m work h k = ap (λ (i : ℕ). replicate i 0) k
work_cleared (refused r) m work h k = rw (h.by r refl) (ap (λ (i : ℕ). replicate i 0) k)

-- a tree is refused on the way
tree-on-way : (at : List Float) (n slots : ℕ) → Refuses (λ r. on_the_way r ≡ true) (tree_check at n slots)
unfolding zeroes_work
tree-on-way at n slots = record { by = λ r e. let l = tree_clears at n slots r e in rw (ne_eqb r.number 0 l.0) at l.1 }

-- ---- what building came to

-- a refusal leaves the lists
pub answers_refused : (o : Outcome (Tree Extent)) (b : Result Quadtree Refusal) (q : Refusal) (r : TreeAnswer) (rows chains work work' : List ℕ) → b ≡ Err q → o ≡ refused q → r ≡ refused_tree q → work' ≡ refused_work q work
    → Answers o b r rows chains work rows chains work'
answers_refused o b q r rows chains work work' eb eo er ew = rw (eb, eo) (record { answer = er; listed = refl; chained = refl; worked = ew })

-- a tree is listed
pub answers_listed : (o : Outcome (Tree Extent)) (b : Result Quadtree Refusal) (q : Quadtree) (t : Tree Extent) (z : Refusal) (r : TreeAnswer) (rows chains work rows' chains' work' : List ℕ)
    → b ≡ Ok q → o ≡ done t → nodes t ≡ q.nodes → z ≡ no_refusal → r ≡ record { refusal = z; nodes = q.nodes; extent = q.extent }
    → rows' ≡ padded (length rows) 0 (flat (rows_of t)) → chains' ≡ padded (length chains) 0 (chains_of t) → work' ≡ zeros work
    → Answers o b r rows chains work rows' chains' work'
answers_listed o b q t z r rows chains work rows' chains' work' eb eo en ez er el ec ew = rw (eb, eo) (record { answer = er ∙ rw (ez, en); listed = el; chained = ec; worked = ew })

-- ---- the call's own checks

module _ {l : TreeInput} {o : Outcome (Tree Extent)} {a : TreeAnswer} where
  pub ends_refused : {r : Refusal} {work : List ℕ} → o ≡ refused r → a ≡ refused_tree r → work ≡ refused_work r l.work → AfterTree l o a l.rows l.chains work
  unfolding tree_answer rows_after chains_after tree_work_after
  ends_refused e h w = rw e (record { answer = h; listed = refl; chained = refl; worked = w })

-- ---- the call on a sheet that passed every check

module _ {l : TreeInput} {size : ℕ} {at : List Float} {links tails : ℕ} (d : TreeReady l size links tails) (e : at ≡ pairs_from record_size l.sheet 0 (size / 2)) where
  abbrev n : ℕ
  n = count_of l.sheet

  -- what was read are the places of the sheet's particles
  read : at ≡ places_of (particles_of l.sheet)
  read =
      let h : size / 2 ≡ n = omega (arith, d.pairs) in
      e ∙ ap (pairs_from record_size l.sheet 0) h ∙ sym (places_of_lem l.sheet)

  module _ (h : length at ≡ size) where
    half : particles at ≡ n
    half = omega (arith, d.pairs)

    -- the tree can be built
    pub can_build : {next tail : List ℕ} → length next ≡ links → length tail ≡ tails → Lent at next tail
    can_build a b = record {
      ranged = all_ranged at (rw read (records-sound (particles_of l.sheet) d.passed.sound).places);
      few = omega (arith, half, d.passed.few);
      links = omega (arith, half, d.links);
      tails = omega (arith, half, d.tails);
    }

    module _ (m : List ℕ) (k : length m ≡ length l.work) where
      slots : slots_of m ≡ slots_of l.work
      slots = omega arith

      -- what building came to
      pub sheet-comes : (next : List ℕ) → length next ≡ links → (b : Result Quadtree Refusal) → Builds at m next b → Comes (built l) b m next (length l.rows) (length l.chains)
      sheet-comes next j (Err r) s =
          let g : tree_check (places_of (particles_of l.sheet)) n (slots_of l.work) ≡ refused r = rw (← read, ← half, ← slots) s in
          rw g
      sheet-comes next j (Ok q) s =
          let g : tree_check (places_of (particles_of l.sheet)) n (slots_of l.work) ≡ fine = rw (← read, ← half, ← slots) s.0 in
          let own : length next ≡ n = omega (arith, d.links) in
          let stood : Stands at n m next q = rw (← half) s.1.0 in
          let a = chains-all at n (lays_levels stood) in (
            tree_of at n,
            rw (g, ← read),
            record {
              stands = stood;
              below = rw own a.1;
              space = omega (arith, a.0, d.passed.chains);
              few = (omega (arith, d.passed.few), omega (arith, d.passed.chains, d.passed.few));
              room = omega (arith, s.1.0.room, d.passed.rows);
            },
          )

      -- the extent is that of the sheet
      pub sheet-after : (next : List ℕ) (b : Result Quadtree Refusal) → Builds at m next b → (a : TreeAnswer) (rows chains work : List ℕ) → Answers (built l) b a l.rows l.chains m rows chains work → AfterTree l (built l) a rows chains work
      unfolding tree_answer rows_after chains_after tree_work_after
      sheet-after next b s a rows chains work w =
          record {
            answer = w.answer ∙ ap (λ (e : Extent). record { refusal = refusal_of (built l); nodes = if_done (built l) nodes 0; extent = e }) (extent_is b s);
            listed = w.listed;
            chained = w.chained;
            worked = w.worked ∙ work_cleared (built l) m l.work (tree-on-way (places_of (particles_of l.sheet)) n (slots_of l.work) >>=· λ _. of_done) k;
          }
        where
          extent_is : (b : Result Quadtree Refusal) → Builds at m next b → extent_built b ≡ if_done (built l) (λ _. extent_of (cover_first (places_of (particles_of l.sheet)) (count_of l.sheet))) nowhere
          extent_is (Err r) s = let g : tree_check (places_of (particles_of l.sheet)) n (slots_of l.work) ≡ refused r = rw (← read, ← half, ← slots) s in rw g
          extent_is (Ok q) s = let g : tree_check (places_of (particles_of l.sheet)) n (slots_of l.work) ≡ fine = rw (← read, ← half, ← slots) s.0 in rw g (s.1.1 ∙ rw (half, read))
