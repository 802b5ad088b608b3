-- A sheet that the lister accepts is within its limits. Assumes nothing.
use mathlib.Core.Path.{◌≡◌, refl, sym, ap, subst}
use mathlib.Core.Bool.{Bool, true, false}
use mathlib.Core.List.{List, map, cons≢nil}
use Prim.Native.Nat.{ℕ, zero, suc, ◌≤◌, ◌<◌}
use native.Mathlib.Omega.{arith}
use borrow.Author.Tests.{leb-true}
use lib.Dec.{T, leb}
use lib.ListN.{length}
use lib.Ieee.{Float}
use Rattle.rules.specs.declared.Extent.{Extent}
use Rattle.rules.specs.Plain.{up_to}
use Rattle.rules.specs.Outcome.{Outcome, done, refused, ◌>>=◌, Check, fine, require, ◌then◌}
use Rattle.rules.specs.Number.{within, place_range, x_at, y_at}
use Rattle.rules.specs.Sheet.{whole_records, records_check, places_of, particles_of, count_of}
use Rattle.rules.specs.Cover.{Square, Covered, nothing, holds, cover_all, cover_first}
use Rattle.rules.specs.Tree.{Tree, none, leaf, node, depth, nodes, tree_of, tree_check, chains_of}
use Rattle.rules.specs.Calls.{tree_of_sheet, cover_sheet}
use Rattle.rules.specs.Listing.{most_listed, lister_slots}
use Rattle.rules.proofs.CoverTerms.{AllNear, Reached, floors}
use Rattle.rules.proofs.Cover.{cover_all_lem, held-near}
use Rattle.rules.proofs.CellList.{left, right}
use Rattle.number.proofs.Flooring.{floor-within}
use Rattle.lister_text.specs.Told.{Covers, Listed}
use Rattle.lister_text.proofs.Sizes.{below_more}
use Rattle.tree_cells.proofs.Prefix.{no_tree, check-fits, member_less}
use Rattle.tree_rows.proofs.ListWhole.{chains-all}
use Rattle.sheet.proofs.Checked.{places_ranged}
use Rattle.sheet.proofs.Sheets.{particles-count}

-- ---- outcomes

abbrev Accepts : {A : Type 0} → Outcome A → Type 0
Accepts (done a) = Unit
Accepts (refused r) = ⊥

accepts-fine : (c : Check) → Accepts c → c ≡ fine
accepts-fine (done t) h = refl
accepts-fine (refused r) h = absurd h

accepts_then : (a b : Check) → Accepts (a then b) → Accepts a × Accepts b
accepts_then (done u) b h = (tt, h)
accepts_then (refused r) b h = absurd h

accepts-require : (ok : Bool) (n p : ℕ) → Accepts (require ok n p) → ok ≡ true
accepts-require true n p h = refl
accepts-require false n p h = absurd h

-- ---- the tree

module _ (at : List Float) where
  -- where there is a particle there is a node
  nodes-some : (t : Tree Extent) → 0 < length (chains_of t) → 0 < nodes t
  nodes-some none h = h
  nodes-some (leaf c is) h = omega arith
  nodes-some (node c t0 t1 t2 t3) h = omega arith

  near-all : (n : ℕ) → ((k : ℕ) → k < n → place_range (x_at at k) (y_at at k) ≡ true) → AllNear at (up_to n)
  near-all n h i m =
      let r = h i (let l = member_less 0 n i m in omega arith) in (
        (floor-within (x_at at i) (subst T (sym (left (within (x_at at i)) (within (y_at at i)) r)) tt)).within,
        (floor-within (y_at at i) (subst T (sym (right (within (x_at at i)) (within (y_at at i)) r)) tt)).within,
      )

  cover_none : (s : Square) → cover_first at 0 ≡ holds s → ⊥
  unfolding cover_all
  cover_none s e = let z : ◌≡◌ {A = ℕ} 0 1 = cc in omega arith

  -- what covers it has ends that are near, if there is a particle
  covers : (n : ℕ) → AllNear at (up_to n) → depth (tree_of at n) ≤ 65 → Covers (cover_first at n) (nodes (tree_of at n))
  covers n h l = go n (cover_first at n) (cover_all_lem at (up_to n) h) refl (chains-all at n l).0
    where
      go : (n : ℕ) (c : Covered) → Reached c (map (floors at) (up_to n)) → cover_first at n ≡ c → length (chains_of (tree_of at n)) ≡ n → Covers c (nodes (tree_of at n))
      go zero nothing r e k = ap nodes (no_tree at)
      go (suc n) nothing r e k = absurd (cons≢nil r)
      go zero (holds s) r e k = absurd (cover_none s e)
      go (suc n) (holds s) r e k = (nodes-some (tree_of at (suc n)) (omega arith), held-near r)

-- ---- an accepted sheet

module _ (sheet : List ℕ) where
  at : List Float
  at = places_of (particles_of sheet)

  n : ℕ
  n = count_of sheet

  accepted-tree : Accepts (records_check (particles_of sheet)) → n ≤ most_listed → Accepts (tree_check at n lister_slots) → Listed (cover_sheet sheet) (tree_of at n)
  unfolding at n
  accepted-tree r m f =
      let fits = check-fits at n lister_slots (accepts-fine (tree_check at n lister_slots) f) in
      let near = near-all at n (λ k h. places_ranged (particles_of sheet) (accepts-fine (records_check (particles_of sheet)) r) k (let e = particles-count sheet in omega arith)) in
      let e = (chains-all at n fits.0).0 in
      record {
        covers = covers at n near fits.0;
        few = fits.1;
        short = omega arith;
        low = below_more n most_listed m (chains_of (tree_of at n)) (chains-all at n fits.0).1;
      }

done_tree : {A : Type 0} (a b : Check) (t u : A) → (a >>= λ _. b >>= λ _. done t) ≡ done u → Accepts a × (Accepts b × (t ≡ u))
done_tree (done _) (done _) t u e = (tt, (tt, cc))
done_tree (done _) (refused r) t u e = absurd (let z : ◌≡◌ {A = ℕ} 0 1 = cc in omega arith)
done_tree (refused r) b t u e = absurd (let z : ◌≡◌ {A = ℕ} 0 1 = cc in omega arith)

-- A sheet that the lister accepts has a tree within the limits.
pub accepted : (sheet : List ℕ) (t : Tree Extent) → tree_of_sheet most_listed lister_slots fine sheet ≡ done t → Listed (cover_sheet sheet) t
unfolding tree_of_sheet at n
accepted sheet t e =
    let ps = particles_of sheet in
    let counts = require (leb (count_of sheet) most_listed) 1 0 in
    let first = whole_records sheet then counts in
    let d = done_tree (first then fine then records_check ps) (tree_check (places_of ps) (count_of sheet) lister_slots) (tree_of (places_of ps) (count_of sheet)) t e in
    let checks = accepts_then (first then fine) (records_check ps) d.0 in
    let count = (accepts_then (whole_records sheet) counts (accepts_then first fine checks.0).0).1 in
    subst (λ (u : Tree Extent). Listed (cover_sheet sheet) u) d.1.1
    (accepted-tree sheet checks.1 (leb-true (count_of sheet) most_listed (accepts-require (leb (count_of sheet) most_listed) 1 0 count)) d.1.0)
