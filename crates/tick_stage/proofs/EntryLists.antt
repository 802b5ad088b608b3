-- One force slot: what 1, 2 and 3 say of its lists, which force it is, and that a tree can be built of its particles.
use mathlib.Core.Path.{◌≡◌}
use mathlib.Core.List.{List}
use Prim.Native.Nat.{ℕ, ◌+◌, ◌*◌, ◌≤◌, ◌<◌}
use native.Mathlib.Omega.{arith}
use borrow.Author.Tests.{leb-true}
use lib.ListN.{length, take, drop, length-drop}
use lib.Seq.{length-take-le}
use lib.Ieee.{Float}
use Rattle.rules.specs.declared.ForceEntry.{ForceEntry}
use Rattle.rules.specs.declared.Tuning.{Tuning}
use Rattle.rules.specs.Outcome.{done, fine, require_all}
use Rattle.rules.specs.Refusal.{most_links, most_iterations, count_check}
use Rattle.rules.specs.declared.Kind.{Kind}
use Rattle.rules.specs.declared.Kind.TheVariants.{Empty, ManyBody, Collide, Center, Unknown}
use Rattle.std.proofs.Common.{◌⊎◌, inl, inr}
use Rattle.rules.specs.Force.{kind_of, many_body, collide, link, ends_from, ends_of, ends_range}
use Rattle.rules.specs.Tick.{State, push, center, kind_force, force_of, force_stage}
use Rattle.link.specs.Links.{EndsLent, NumbersLent}
use Rattle.link.proofs.EndsRange.{ends_range_lem}
use Rattle.list_checks.proofs.Checks.{then_both, require_true, as_many}
use Rattle.tick_checks.proofs.Parts.{first_ends}
use Rattle.tick_columns.specs.Stage.{ColumnsFit, Chains, EntryFits}
use Rattle.tree_build.specs.Build as Build
use Rattle.sheet.proofs.Checked.{all_ranged}

-- ---- which force

module _ (n : ℕ) (e : ForceEntry) (xs : List Float) (ls : List ℕ) where
  pub many_body_of : ManyBody ≡ kind_of e.kind → force_of n e xs ls ≡ push (many_body (take n xs))
  unfolding kind_force
  many_body_of k = rw (← k)

  pub collide_of : Collide ≡ kind_of e.kind → force_of n e xs ls ≡ push (collide (take n xs) e.a e.iterations)
  unfolding kind_force
  collide_of k = rw (← k)

  pub link_of : e.kind ≡ 3 → force_of n e xs ls ≡ push (link (ends_from ls e.links) (take e.strengths xs) (take e.links (drop e.strengths xs)) e.iterations)
  unfolding kind_force
  link_of k = rw k

  pub center_of : Center ≡ kind_of e.kind → force_of n e xs ls ≡ center e.a e.b e.c
  unfolding kind_force
  center_of k = rw (← k)

  -- no force, or one of no known kind
  pub none_of : (k : Kind) → k ≡ kind_of e.kind → (k ≡ Empty) ⊎ (k ≡ Unknown) → (t : Tuning) (slots : ℕ) (m : State) → done m ≡ force_stage t slots m (force_of n e xs ls)
  unfolding kind_force
  none_of k is (inl z) t slots m = rw (← is, z)
  none_of k is (inr z) t slots m = rw (← is, z)

-- ---- Link's lists

-- what is known of a slot that is a Link: s strengths and k distances, then k links
pub record LinkFits (n s k : ℕ) (xs : List Float) (ls : List ℕ) : Type 0 where
  pub few : k ≤ most_links
  pub each : 0 < s → s ≡ k
  pub numbers : s + k ≤ length xs
  pub links : k * 2 ≤ length ls
  pub ends : require_all (ends_range n) 3 (ends_from ls k) ≡ fine

pub link_fits : (n : ℕ) (e : ForceEntry) (xs : List Float) (ls : List ℕ) → e.kind ≡ 3 → EntryFits n e xs ls → LinkFits n e.strengths e.links xs ls
unfolding kind_force
link_fits n e xs ls k h =
    let c = then_both (count_check most_links e.links) (count_check most_iterations e.iterations) (rw k at h.counts) in
    record {
      few = leb-true e.links most_links (require_true _ 1 0 c.0);
      each = λ some. as_many e.strengths e.links some (rw k at h.strengths);
      numbers = rw k at h.numbers;
      links = rw k at h.links;
      ends = rw k at h.ends;
    }

module _ {n s k : ℕ} {xs : List Float} {ls : List ℕ} (h : LinkFits n s k xs ls) where
  ends-long : length (take (k * 2) ls) ≡ k * 2
  ends-long = length-take-le (k * 2) ls h.links

  -- the force of the lists that the code takes apart
  pub link_taken : (e : ForceEntry) (m : ℕ) → e.kind ≡ 3 → s ≡ e.strengths → k ≡ e.links
      → force_of m e xs ls ≡ push (link (ends_of (take (k * 2) ls)) (take s xs) (take k (drop s xs)) e.iterations)
  link_taken e m k3 es ek = rw (link_of m e xs ls k3, ← first_ends k ls h.links, es, ek)

  pub ends-lent : EndsLent n (take (k * 2) ls)
  ends-lent =
      record {
        whole = omega (arith, ends-long);
        few = omega (arith, ends-long, h.few);
        range = ends_range_lem n (take (k * 2) ls) (rw (← first_ends k ls h.links) h.ends) (omega (arith, ends-long));
      }

  pub lists-lent : NumbersLent (take (k * 2) ls) (take s xs) (take k (drop s xs))
  lists-lent =
      record {
        strength_each = λ some. omega (arith, h.each (omega (arith, strengths-long, some)), strengths-long, ends-long);
        distance_each = omega (arith, distances-long, ends-long);
      }
    where
      strengths-long : length (take s xs) ≡ s
      strengths-long = length-take-le s xs (omega (arith, h.numbers))

      distances-long : length (take k (drop s xs)) ≡ k
      distances-long = length-take-le k (drop s xs) (simp length-drop (omega (arith, h.numbers)))

-- ---- what a tree is built of

pub can_build : {places speeds ds : List Float} {next tail : List ℕ} {n used : ℕ} → ColumnsFit places speeds ds n used → Chains n next tail → Build.Lent places next tail
can_build {places} h k =
    record {
      ranged = all_ranged places h.ranged;
      few = omega (arith, h.few, h.places);
      links = omega (arith, k.links, h.places);
      tails = omega (arith, k.tails, h.places);
    }
