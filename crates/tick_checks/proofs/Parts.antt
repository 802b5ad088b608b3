-- Lists that the force slots share one after another: the walk over the slots, and how the rules' checks of the forces go part by part.
use mathlib.Core.Path.{◌≡◌, refl, sym, ap, ap₂, ◌∙◌}
use mathlib.Core.List.{List, [], ◌∷◌, map}
use Prim.Native.Nat.{ℕ, zero, suc, ◌+◌, ◌*◌, ◌/◌, ◌≤◌}
use native.Mathlib.Nat.{zero-add, suc-add}
use native.Mathlib.Omega.{arith}
use lib.ListN.{length, take, drop, length-drop, drop_of_length-le}
use lib.Seq.{length-take-le, take-nil, take-take}
use lib.Ieee.{Float}
use Rattle.rules.specs.declared.ForceEntry.{ForceEntry}
use Rattle.rules.specs.declared.Refusal.{Refusal}
use Rattle.rules.specs.Plain.{sum}
use Rattle.rules.specs.Outcome.{Check, require_all, ◌then◌, result_of, check_from}
use Rattle.rules.specs.Link.{Ends}
use Rattle.rules.specs.declared.Kind.{Kind}
use Rattle.rules.specs.declared.Kind.TheVariants.{Empty, ManyBody, Collide, Link, Center, Unknown}
use Rattle.rules.specs.Force.{kind_of, ends_from, ends_of, ends_range}
use Rattle.rules.specs.Tick.{kind_numbers, kind_links, kind_force, numbers_needed, links_needed, force_of, forces_from, force_ends, force_ranges}
use Rattle.tick_checks.specs.Parts.{each_part, own_ends, kind_ranges, ends_each, ranges_each}
use Rattle.std.proofs.Common.{Result, Ok, Err}
use Rattle.tick_checks.proofs.Entries.{bind_then, then_err, then_ok}

-- ---- the walk over the entries es and the list l: what is left of both decides what all does

module _ {A : Type 0} (need : ForceEntry → ℕ) (check : ForceEntry → List A → Check) (es : List ForceEntry) (l : List A) where
  pub record Walked (i : ℕ) (left : List A) : Type 0 where
    pub fits : sum (map need (drop i es)) ≤ length left
    pub short : length left ≤ length l
    pub same : each_part need check (drop i es) left ≡ each_part need check es l

module _ {A : Type 0} {need : ForceEntry → ℕ} {check : ForceEntry → List A → Check} {es : List ForceEntry} {l : List A} {i : ℕ} {left : List A} (g : Walked need check es l i left) where
  pub walk_end : length es ≤ i → Ok tt ≡ result_of (each_part need check es l)
  walk_end h = ap result_of (ap (λ (es : List ForceEntry). each_part need check es left) (sym (drop_of_length-le es {i = i} h)) ∙ g.same)

  -- e is the entry of slot i
  module _ {e : ForceEntry} (is : drop i es ≡ e ∷ drop (i + 1) es) where
    -- m is what it needs, `part` its own part and `rest` what is left then
    pub walk_room : {m : ℕ} → m ≡ need e → (m ≤ length left) × (m ≤ length l)
    walk_room im = (omega (arith, im, rw is at g.fits), omega (arith, im, g.short, rw is at g.fits))

    module _ {m : ℕ} (im : m ≡ need e) {part rest : List A} (ip : part ≡ take m left) (ir : rest ≡ drop m left) where
      turn : check e part then each_part need check (drop (i + 1) es) rest ≡ each_part need check es l
      turn = rw (ip, ir, im) (ap (λ (es : List ForceEntry). each_part need check es left) (sym is) ∙ g.same)

      module _ {answer : Result (Unit {0}) Refusal} (ia : answer ≡ result_of (check e part)) where
        pub walk_stops : {r : Refusal} → answer ≡ Err r → Err r ≡ result_of (each_part need check es l)
        walk_stops {r} h = sym (ap result_of (sym turn) ∙ then_err (check e part) (each_part need check (drop (i + 1) es) rest) r (sym ia ∙ h))

        pub walk_goes_on : {t : Unit {0}} → answer ≡ Ok t → Walked need check es l (i + 1) rest
        walk_goes_on {t} h =
            record {
              fits = rw (ir, im) (simp length-drop (omega (arith, rw is at g.fits)));
              short = rw (ir, im) (simp length-drop (omega (arith, g.short)));
              same = sym (then_ok (check e part) (each_part need check (drop (i + 1) es) rest) t (sym ia ∙ h)) ∙ turn;
            }

-- ---- a slot's force is checked on the slot's own part

twice : (k : ℕ) → suc k * 2 ≡ suc (suc (k * 2))
twice k = omega arith

take_ends : (k : ℕ) (l : List ℕ) → ends_from (take (k * 2) l) k ≡ ends_from l k
take_ends zero l = refl
take_ends (suc k) [] = rw (twice k)
take_ends (suc k) (s ∷ []) = rw (twice k)
take_ends (suc k) (s ∷ t ∷ l) = rw (twice k, take_ends k l)

-- the first k links
pub first_ends : (k : ℕ) (l : List ℕ) → k * 2 ≤ length l → ends_from l k ≡ ends_of (take (k * 2) l)
first_ends k l h = sym (ap (ends_from (take (k * 2) l)) e ∙ take_ends k l)
  where
    e : length (take (k * 2) l) / 2 ≡ k
    e = omega (arith, length-take-le (k * 2) l h)

ends-kind : (k : Kind) (n : ℕ) (e : ForceEntry) (numbers : List Float) (links : List ℕ) → kind_links k e * 2 ≤ length links
    → force_ends n (kind_force k n e numbers links) ≡ own_ends n (take (kind_links k e * 2) links)
unfolding kind_force
ends-kind Empty n e numbers links h = refl
ends-kind ManyBody n e numbers links h = refl
ends-kind Collide n e numbers links h = refl
ends-kind Link n e numbers links h = ap (λ (es : List Ends). require_all (ends_range n) 3 es) (first_ends e.links links h)
ends-kind Center n e numbers links h = refl
ends-kind Unknown n e numbers links h = refl

drop-take : {A : Type 0} (s k : ℕ) (l : List A) → drop s (take (s + k) l) ≡ take k (drop s l)
drop-take zero k l = rw zero-add
drop-take (suc s) k [] = rw (suc-add s k, take-nil k)
drop-take (suc s) k (a ∷ l) = rw (suc-add s k) (drop-take s k l)

ranges-kind : (k : Kind) (n : ℕ) (e : ForceEntry) (numbers : List Float) (links : List ℕ)
    → force_ranges (kind_force k n e numbers links) ≡ kind_ranges k e (take (kind_numbers k n e) numbers)
unfolding kind_force kind_ranges
ranges-kind Empty n e numbers links = refl
ranges-kind ManyBody n e numbers links = refl
ranges-kind Collide n e numbers links = refl
ranges-kind Link n e numbers links = rw (take-take e.strengths (e.strengths + e.links) numbers (omega arith), drop-take e.strengths e.links numbers)
ranges-kind Center n e numbers links = refl
ranges-kind Unknown n e numbers links = refl

-- ---- and so are the forces of all slots

pub ends_each_lem : (n i : ℕ) (es : List ForceEntry) (numbers : List Float) (links : List ℕ) → sum (map (λ e. links_needed e * 2) es) ≤ length links
    → check_from (λ _ f. force_ends n f) i (forces_from n es numbers links) ≡ ends_each n es links
ends_each_lem n i [] numbers links h = refl
ends_each_lem n i (e ∷ es) numbers links h =
    bind_then (force_ends n (force_of n e numbers links)) (check_from (λ _ f. force_ends n f) (i + 1) (forces_from n es (drop (numbers_needed n e) numbers) (drop (links_needed e * 2) links)))
    ∙ ap₂ ◌then◌ (ends-kind (kind_of e.kind) n e numbers links (omega arith))
    (ends_each_lem n (i + 1) es (drop (numbers_needed n e) numbers) (drop (links_needed e * 2) links) (simp length-drop (omega arith)))

pub ranges_each_lem : (n i : ℕ) (es : List ForceEntry) (numbers : List Float) (links : List ℕ)
    → check_from (λ _ f. force_ranges f) i (forces_from n es numbers links) ≡ ranges_each n es numbers
ranges_each_lem n i [] numbers links = refl
ranges_each_lem n i (e ∷ es) numbers links =
    bind_then (force_ranges (force_of n e numbers links)) (check_from (λ _ f. force_ranges f) (i + 1) (forces_from n es (drop (numbers_needed n e) numbers) (drop (links_needed e * 2) links)))
    ∙ ap₂ ◌then◌ (ranges-kind (kind_of e.kind) n e numbers links) (ranges_each_lem n (i + 1) es (drop (numbers_needed n e) numbers) (drop (links_needed e * 2) links))
