-- What the entries of the force slots need, and what 1 and 2 let pass of them.
use mathlib.Core.Path.{◌≡◌, refl, sym, ap, ◌∙◌}
use mathlib.Core.Bool.{Bool, true, false, ◌||◌, false≢true, and-eq-true_iff}
use mathlib.Core.List.{List, [], ◌∷◌, map}
use Prim.Native.Nat.{ℕ, ◌+◌, ◌*◌, ◌≤◌}
use native.Mathlib.Omega.{arith}
use borrow.Author.Tests.{eqb-true, leb-true}
use lib.Dec.{eqb, leb}
use lib.ListN.{length}
use Rattle.rules.specs.declared.ForceEntry.{ForceEntry}
use Rattle.rules.specs.Plain.{all, sum}
use Rattle.rules.specs.Outcome.{Check, done, refused, fine, ◌then◌, ◌>>=◌, check_from, check_each, result_of}
use Rattle.rules.specs.Refusal.{most_particles, most_links, most_iterations, count_check}
use Rattle.rules.specs.declared.Kind.{Kind}
use Rattle.rules.specs.declared.Kind.TheVariants.{Empty, ManyBody, Collide, Link, Center, Unknown}
use Rattle.rules.specs.Force.{kind_of, kind_counts, strengths_agree}
use Rattle.rules.specs.Tick.{kind_numbers, kind_links, kind_strengths_agree, force_slots, entry_counts, strengths_right, numbers_needed, links_needed}
use Rattle.rules.specs.declared.Refusal.{Refusal}
use Rattle.rules.proofs.OutcomeLaws.{err_stays, ok_goes_on}
use Rattle.list_checks.proofs.Checks.{then_both, require_true}
use Rattle.std.proofs.Common.{Ok, Err}

-- two ends for each link
pub sum_twice : (es : List ForceEntry) → sum (map links_needed es) * 2 ≡ sum (map (λ e. links_needed e * 2) es)
sum_twice [] = refl
sum_twice (e ∷ es) = omega (arith, sum_twice es)

-- ---- what 1 and the test of the strengths let pass is small

pub bind_then : (c d : Check) → (c >>= λ _. d) ≡ c then d
bind_then (done t) d = refl
bind_then (refused r) d = refl

pub then_err : (c d : Check) (r : Refusal) → result_of c ≡ Err r → result_of (c then d) ≡ Err r
then_err c d r h = ap result_of (sym (bind_then c d)) ∙ err_stays c (λ _. d) r h

pub then_ok : (c d : Check) (t : Unit {0}) → result_of c ≡ Ok t → c then d ≡ d
then_ok c d t h = sym (bind_then c d) ∙ ok_goes_on c (λ _. d) t h

none-small : (n k : ℕ) → strengths_agree n k ≡ true → k ≤ n
none-small n k h = go (eqb k 0) (eqb k n) (eqb-true k 0) (eqb-true k n) h
  where
    go : (a b : Bool) → (a ≡ true → k ≡ 0) → (b ≡ true → k ≡ n) → a || b ≡ true → k ≤ n
    go true b f g h = omega (arith, f refl)
    go false true f g h = omega (arith, g refl)
    go false false f g h = absurd (false≢true h)

pub count_small : (most n : ℕ) → count_check most n ≡ fine → n ≤ most
count_small most n h = leb-true n most (require_true (leb n most) 1 0 h)

-- links and strengths of a link
link_small : (links strengths iterations : ℕ) → count_check most_links links then count_check most_iterations iterations ≡ fine → strengths_agree links strengths ≡ true
    → (links ≤ most_links) × (strengths ≤ most_links)
link_small links strengths iterations c h =
    let few = count_small most_links links (then_both (count_check most_links links) (count_check most_iterations iterations) c).0 in
    (few, omega (arith, none-small links strengths h))

pub kind-small : (k : Kind) (n : ℕ) (e : ForceEntry) → n ≤ most_particles → kind_counts k e.links e.iterations ≡ fine → kind_strengths_agree k e ≡ true
    → (kind_numbers k n e ≤ 2 * most_links) × (kind_links k e ≤ most_links)
kind-small Empty n e few c r = omega arith
kind-small ManyBody n e few c r = omega arith
kind-small Collide n e few c r = omega arith
kind-small Link n e few c r = omega (arith, link_small e.links e.strengths e.iterations c r)
kind-small Center n e few c r = omega arith
kind-small Unknown n e few c r = omega arith

entries-small : (n i : ℕ) (es : List ForceEntry) → n ≤ most_particles → check_from (λ _ e. entry_counts e) i es ≡ fine → all strengths_right es ≡ true
    → (sum (map (numbers_needed n) es) ≤ length es * (2 * most_links)) × (sum (map links_needed es) ≤ length es * most_links)
entries-small n i [] few c r = omega arith
entries-small n i (e ∷ es) few c r =
    let b = then_both (entry_counts e) (check_from (λ _ e. entry_counts e) (i + 1) es) (sym (bind_then (entry_counts e) (check_from (λ _ e. entry_counts e) (i + 1) es)) ∙ c) in
    let d = (and-eq-true_iff (strengths_right e) (all strengths_right es)).0 r in
    omega (arith, kind-small (kind_of e.kind) n e few b.0 d.0, entries-small n (i + 1) es few b.1 d.1)

-- the same of all slots, in numbers
pub all_small : (n : ℕ) (es : List ForceEntry) → length es ≡ force_slots → n ≤ most_particles → check_each (λ _ e. entry_counts e) es ≡ fine → all strengths_right es ≡ true
    → (sum (map (numbers_needed n) es) ≤ 131072) × (sum (map links_needed es) ≤ 65536)
all_small n es eight few c r = let s = entries-small n 0 es few c r in rw eight at s
