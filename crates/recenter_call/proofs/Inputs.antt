-- An input of which the first bytes, or all, are kept: its length, its count, and what is kept where both are right. Assumes nothing.
use Rattle.std.specs.Prelude.{Err}
use mathlib.Core.Path.{◌≡◌, sym, ap, ap₂, ◌∙◌}
use mathlib.Core.List.{List}
use Prim.Native.Nat.{ℕ, ◌/◌, ◌%◌, ◌≤◌, min}
use native.Mathlib.Nat.{min-eq_left}
use native.Mathlib.Omega.{arith}
use borrow.Author.Tests.{leb-true, eqb-true}
use lib.Dec.{leb, eqb}
use lib.ListN.{length, take}
use lib.Seq.{take_all}
use Rattle.rules.specs.declared.Refusal.{Refusal}
use Rattle.rules.specs.Outcome.{Outcome, refused, Check, fine, require, ◌then◌, ◌>>=◌, result_of, if_done}
use Rattle.rules.specs.Refusal.{count_check}
use Rattle.rules.specs.Sheet.{record_size, whole_records, count_of}
use Rattle.rules.specs.Recenter.{most_recentered, unless_stopped, recentered}
use Rattle.list_checks.proofs.Checks.{then_both, require_true}
use Rattle.recenter_call.specs.Recentered.{kept_bytes, Recentered}
use Rattle.recenter_call.proofs.Runs.{result}

-- refused, and nothing is changed
pub unchanged : (sheet : List ℕ) (ticks : ℕ) (r : Refusal) (kept : List ℕ) → recentered sheet ticks ≡ refused r → Recentered sheet ticks (Err r) kept kept
unchanged sheet ticks r kept e = record { answer = sym (ap (λ (o : Outcome (List ℕ)). result_of (o >>= λ _. fine)) e); bytes = sym (ap (λ (o : Outcome (List ℕ)). if_done o (λ out. out) kept) e) }

-- the two checks of so many bytes
abbrev pub whole : ℕ → Check
whole total = require (eqb (total % record_size) 0) 10 0

abbrev pub few : ℕ → Check
few total = require (leb (total / record_size) most_recentered) 1 0

whole_is : (total : ℕ) → whole total ≡ fine → total % record_size ≡ 0
whole_is total e = eqb-true (total % record_size) 0 (require_true (eqb (total % record_size) 0) 10 0 e)

few_is : (total : ℕ) → few total ≡ fine → total / record_size ≤ most_recentered
few_is total e = leb-true (total / record_size) most_recentered (require_true (leb (total / record_size) most_recentered) 1 0 e)

module _ (sheet : List ℕ) (ticks : ℕ) {total : ℕ} (n : length sheet ≡ total) where
  in_turn : recentered sheet ticks ≡ (whole total then few total >>= λ _. result sheet ticks >>= unless_stopped)
  unfolding recentered whole_records
  in_turn = ap (λ (k : ℕ). whole k then few k >>= λ _. result sheet ticks >>= unless_stopped) n

  pub bad_input : (r : Refusal) → whole total ≡ refused r → recentered sheet ticks ≡ refused r
  bad_input r e = in_turn ∙ ap (λ (c : Check). c then few total >>= λ _. result sheet ticks >>= unless_stopped) e

  pub many-input : (r : Refusal) → whole total ≡ fine → few total ≡ refused r → recentered sheet ticks ≡ refused r
  many-input r e f = in_turn ∙ ap₂ (λ (c d : Check). c then d >>= λ _. result sheet ticks >>= unless_stopped) e f

  -- else all of it is kept
  pub kept-input : whole total ≡ fine → few total ≡ fine → (kept : List ℕ) → take kept_bytes sheet ≡ kept → sheet ≡ kept
  kept-input e f kept k = sym (take_all kept_bytes sheet (omega (arith, whole_is total e, few_is total f))) ∙ k

-- what is kept of it is few enough whole records
pub kept-past : (kept : List ℕ) (total : ℕ) → length kept ≡ min total kept_bytes → whole total ≡ fine → few total ≡ fine
    → (whole_records kept then count_check most_recentered (count_of kept)) ≡ fine
unfolding whole_records
kept-past kept total e w f =
    let all-kept : length kept ≡ total = e ∙ min-eq_left {n = total} {m = kept_bytes} (omega (arith, whole_is total w, few_is total f)) in
    ap (λ (k : ℕ). whole k then few k) all-kept ∙ ap₂ (λ (c d : Check). c then d) w f

-- and has room in a list of that many bytes
pub kept-room : (sheet : List ℕ) → (whole_records sheet then count_check most_recentered (count_of sheet)) ≡ fine → length sheet ≤ kept_bytes
unfolding whole_records
kept-room sheet past =
    let both = then_both (whole_records sheet) (count_check most_recentered (count_of sheet)) past in
    let whole = eqb-true (length sheet % record_size) 0 (require_true (eqb (length sheet % record_size) 0) 10 0 both.0) in
    let few = leb-true (count_of sheet) most_recentered (require_true (leb (count_of sheet) most_recentered) 1 0 both.1) in
    omega (arith, whole, few)
