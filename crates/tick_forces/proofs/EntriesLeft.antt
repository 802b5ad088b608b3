-- The force slots one after another: what is left of their lists, and of the stages.
use mathlib.Core.Path.{◌≡◌, refl, sym, ap, ◌∙◌}
use mathlib.Core.Bool.{◌&&◌, and-eq-true_iff}
use mathlib.Core.List.{List, [], ◌∷◌, map}
use Prim.Native.Nat.{ℕ, ◌+◌, ◌*◌, ◌≤◌, ◌<◌}
use native.Mathlib.Omega.{arith}
use borrow.Author.Tests.{eq-eqb, eqb-true}
use lib.Dec.{eqb}
use lib.ListN.{length, get_or, drop, length-drop, drop_of_length-le}
use Rattle.list_checks.proofs.Scans.{list_left}
use lib.Ieee.{Float}
use Rattle.rules.specs.declared.ForceEntry.{ForceEntry}
use Rattle.rules.specs.declared.Tuning.{Tuning}
use Rattle.rules.specs.Plain.{all, sum}
use Rattle.rules.specs.Outcome.{Outcome, Check, fine, fold_stages, check_from, check_each}
use Rattle.rules.specs.Refusal.{most_links}
use Rattle.rules.specs.Force.{kind_of}
use Rattle.rules.specs.Tick.{force_slots, State, entries_of, entry_counts, strengths_right, numbers_needed, links_needed, force_of, forces_from, force_ends, force_stage}
use Rattle.rules.proofs.OutcomeLaws.{check-any}
use Rattle.rules.specs.declared.Progress.{Progress}
use Rattle.std.proofs.Common.{Ok, Err}
use Rattle.rules.specs.declared.Refusal.{Refusal}
use Rattle.force.specs.Ran.{Onward, most_force_visits, most_tick_visits}
use Rattle.list_checks.proofs.Checks.{then_both}
use Rattle.tick_checks.specs.Fits.{Fits}
use Rattle.tick_checks.proofs.Entries.{bind_then, kind-small}
use Rattle.tick_columns.specs.Stage.{Columns, ColumnsFit, EntryFits, state_of, Stages, StageBy}

-- ---- what 1, 2 and 3 say of the first slot and of the others

check-split : {A : Type 0} (f : A → Check) (a : A) (l : List A) → check_each (λ _ a. f a) (a ∷ l) ≡ fine → (f a ≡ fine) × (check_each (λ _ a. f a) l ≡ fine)
check-split f a l h =
    let b = then_both (f a) (check_from (λ _ a. f a) 1 l) (sym (bind_then (f a) (check_from (λ _ a. f a) 1 l)) ∙ h) in
    (b.0, check-any f 0 1 l ∙ b.1)

pub fits-split : (n : ℕ) (e : ForceEntry) (es : List ForceEntry) (xs : List Float) (ls : List ℕ) → Fits n (e ∷ es) xs ls
    → EntryFits n e xs ls × Fits n es (drop (numbers_needed n e) xs) (drop (links_needed e * 2) ls)
fits-split n e es xs ls h =
    let c = check-split entry_counts e es h.counts in
    let d = check-split (force_ends n) (force_of n e xs ls) (forces_from n es (drop (numbers_needed n e) xs) (drop (links_needed e * 2) ls)) h.ends in
    let f = (and-eq-true_iff (all strengths_right (e ∷ es) && eqb (length xs) (sum (map (numbers_needed n) (e ∷ es)))) (eqb (length ls) (sum (map links_needed (e ∷ es)) * 2))).0 h.lengths in
    let g = (and-eq-true_iff (all strengths_right (e ∷ es)) (eqb (length xs) (sum (map (numbers_needed n) (e ∷ es))))).0 f.0 in
    let s = (and-eq-true_iff (strengths_right e) (all strengths_right es)).0 g.0 in
    let x : length xs ≡ numbers_needed n e + sum (map (numbers_needed n) es) = eqb-true _ _ g.1 in
    let l : length ls ≡ (links_needed e + sum (map links_needed es)) * 2 = eqb-true _ _ f.1 in
    let x' : length (drop (numbers_needed n e) xs) ≡ sum (map (numbers_needed n) es) = simp length-drop (omega arith) in
    let l' : length (drop (links_needed e * 2) ls) ≡ sum (map links_needed es) * 2 = simp length-drop (omega arith) in (
      record { counts = c.0; strengths = s.0; numbers = omega arith; links = omega arith; ends = d.0 },
      record { few = h.few; counts = c.1; lengths = rw (s.1, eq-eqb _ _ x', eq-eqb _ _ l'); ends = d.1 },
    )

-- ---- the slots that are left: their entries, lists and stages

-- the entries from one on, of all of them
pub entry_left : (w : List ℕ) (l : List ForceEntry) (i : ℕ) (d : ForceEntry) → l ≡ entries_of w → i < force_slots → drop i l ≡ get_or l i d ∷ drop (i + 1) l
entry_left w l i d e h = list_left l i d (rw e h)

pub entries_done : (w : List ℕ) (l : List ForceEntry) (i : ℕ) → l ≡ entries_of w → force_slots ≤ i → drop i l ≡ []
entries_done w l i e h = drop_of_length-le l {i = i} (rw e h)

-- i slots ran, and what is left of the entries, numbers and links decides, with the columns k at `at`, what all do; the forces began at p
pub record Going (n : ℕ) (t : Tuning) (slots : ℕ) (ds : List Float) (p : Progress) (all : Outcome State) (i : ℕ) (es : List ForceEntry) (xs : List Float) (ls : List ℕ) (k : Columns) (at : Progress) : Type 0 where
  pub fits : Fits n es xs ls
  pub lent : ColumnsFit k.places k.speeds ds n at.used
  pub onward : Onward ds p at
  pub few : at.visits ≤ p.visits + i * most_force_visits
  pub same : fold_stages (force_stage t slots) (state_of k ds at) (forces_from n es xs ls) ≡ all

pub going_first : {n : ℕ} {ds : List Float} {p : Progress} {es : List ForceEntry} {xs : List Float} {ls : List ℕ} {k : Columns} (t : Tuning) (slots : ℕ) → Fits n es xs ls → ColumnsFit k.places k.speeds ds n p.used
    → Going n t slots ds p (fold_stages (force_stage t slots) (state_of k ds p) (forces_from n es xs ls)) 0 es xs ls k p
going_first t slots f c = record { fits = f; lent = c; onward = record { alpha = refl; draws = record { begun = omega arith; reach = c.drawn } }; few = omega arith; same = refl }

module _ {n : ℕ} {t : Tuning} {slots : ℕ} {ds : List Float} {p : Progress} {all : Outcome State} {i : ℕ} {es : List ForceEntry} {xs : List Float} {ls : List ℕ} {k : Columns} {at : Progress}
    (g : Going n t slots ds p all i es xs ls k at) where
  -- nothing is left
  pub going_end : es ≡ [] → i ≤ force_slots → Stages k ds p (p.visits + most_tick_visits) (Ok at) all
  going_end e h =
      record {
        is = ap (λ (es : List ForceEntry). fold_stages (force_stage t slots) (state_of k ds at) (forces_from n es xs ls)) (sym e) ∙ g.same;
        onward = g.onward;
        few = omega (arith, g.few);
        ranged = g.lent.ranged;
        late = tt;
      }

  -- e is the next entry
  module _ {e : ForceEntry} {rest : List ForceEntry} (is : es ≡ e ∷ rest) where
    both : EntryFits n e xs ls × Fits n rest (drop (numbers_needed n e) xs) (drop (links_needed e * 2) ls)
    both = fits-split n e rest xs ls (rw is at g.fits)

    pub going_slot : EntryFits n e xs ls
    going_slot = both.0

    small : (numbers_needed n e ≤ 2 * most_links) × (links_needed e ≤ most_links)
    small = kind-small (kind_of e.kind) n e g.fits.few going_slot.counts going_slot.strengths

    -- what it needs is little, and there
    pub going_numbers : {m : ℕ} → m ≡ numbers_needed n e → (m ≤ length xs) × (m ≤ 2 * most_links)
    going_numbers im = rw im (going_slot.numbers, small.0)

    pub going_links : {m : ℕ} → m ≡ links_needed e → (m * 2 ≤ length ls) × (m ≤ most_links)
    going_links im = rw im (going_slot.links, small.1)

    turn : fold_stages (force_stage t slots) (state_of k ds at) (force_of n e xs ls ∷ forces_from n rest (drop (numbers_needed n e) xs) (drop (links_needed e * 2) ls)) ≡ all
    turn = ap (λ (es : List ForceEntry). fold_stages (force_stage t slots) (state_of k ds at) (forces_from n es xs ls)) (sym is) ∙ g.same

    -- its stage left the columns k', and was refused
    pub going_stop : {k' : Columns} {q : Refusal} → StageBy (λ m. force_stage t slots m (force_of n e xs ls)) k k' ds at (Err q) → Stages k' ds p (p.visits + most_tick_visits) (Err q) all
    going_stop s = record { is = rw (sym s.is) at turn; onward = tt; few = tt; ranged = tt; late = s.late }

    -- or came to `to`
    pub going_on : {k' : Columns} {to : Progress} → StageBy (λ m. force_stage t slots m (force_of n e xs ls)) k k' ds at (Ok to) → length k'.places ≡ length k.places → length k'.speeds ≡ length k.speeds
        → Going n t slots ds p all (i + 1) rest (drop (numbers_needed n e) xs) (drop (links_needed e * 2) ls) k' to
    going_on s ep ev =
        record {
          fits = both.1;
          lent = record { few = g.lent.few; places = ep ∙ g.lent.places; speeds = ev ∙ g.lent.speeds; ranged = s.ranged; drawn = s.onward.draws.reach };
          onward = record { alpha = s.onward.alpha ∙ g.onward.alpha; draws = record { begun = omega (arith, s.onward.draws.begun, g.onward.draws.begun); reach = s.onward.draws.reach } };
          few = omega (arith, s.few, g.few);
          same = rw (sym s.is) at turn;
        }
