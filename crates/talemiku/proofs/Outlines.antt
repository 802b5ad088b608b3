-- The outcome of unwrapping an outline, taken apart: what is accepted, what is then written, and where it is refused. Assumes nothing.
use mathlib.Core.Path.{◌≡◌, refl, sym, ap, ◌∙◌, subst}
use mathlib.Core.Bool.{Bool, true, false}
use mathlib.Core.List.{List}
use Prim.Native.Nat.{ℕ, ◌+◌, ◌*◌, ◌≤◌, ◌<◌}
use native.Mathlib.Nat.{zero-add}
use native.Mathlib.Omega.{arith}
use lib.IntN.{ℤ, pos, nat_abs, ◌-ℤ◌, -ℤ-+ℤ_cancel}
use lib.ListN.{length, get_or, take, drop, get_or-append}
use lib.Seq.{take_at, drop_at}
use Rattle.rules.specs.declared.Refusal.{Refusal}
use Rattle.rules.specs.Plain.{overwritten}
use Rattle.rules.specs.Outcome.{Outcome, done, refused, refusal, Check, require, ◌>>=◌, refusal_of}
use Rattle.rules.specs.Refusal.{most_corners}
use Rattle.rules.specs.Outline.{half_turn, outline, closes, outline_check, OutlineInput, outline_result, outline_answer, unwrapped_after, steps_round, total, SameMeridians}
use Rattle.rules.proofs.RefusalLaws.{done_of}
use Rattle.rules.proofs.Places.{outline_refuses, early_numbered}
use Rattle.rules.proofs.Signs.{size-add}
use Rattle.rules.proofs.Outline.{longitude_size, outline-length, outline-within, outline-same, closes-sum, sum-closes, closes-same, check-same}
use Rattle.sheet.proofs.Lists.{overwritten-length}
use Rattle.outline.specs.Unwrap.{Unwrapped, lent_outline}
use Rattle.outline.proofs.OutlineCalled.{sound}
use Rattle.talemiku.specs.Told.{OutlineFine}

module _ (l : OutlineInput) where
  -- the numbers that the rule computes
  abbrev numbers : List ℤ
  numbers = outline l.centre l.corners

  -- ---- what is accepted

  result_done : (us : List ℤ) → outline_result l ≡ done us → OutlineFine l × (closes l.centre l.corners ≡ true) × (us ≡ numbers)
  unfolding outline_result
  result_done us e = go (outline_check l.corners l.centre (length l.unwrapped)) (closes l.centre l.corners) refl refl e
    where
      go : (c : Check) (t : Bool) → outline_check l.corners l.centre (length l.unwrapped) ≡ c → closes l.centre l.corners ≡ t → (c >>= λ _. require t 16 0 >>= λ _. done numbers) ≡ done us
          → OutlineFine l × (closes l.centre l.corners ≡ true) × (us ≡ numbers)
      go (done u) true h k e = (h, k, let q : us ≡ numbers = cc in q)
      go (done u) false h k e = absurd (let z : ◌≡◌ {A = ℕ} 0 1 = cc in omega arith)
      go (refused q) t h k e = absurd (let z : ◌≡◌ {A = ℕ} 0 1 = cc in omega arith)

module _ {l : OutlineInput} {r : Refusal} {after : List ℤ} (a : Unwrapped l r after) where
  answered : r ≡ refusal_of (outline_result l)
  unfolding outline_answer
  answered = a.answer

  -- what was done, where number 0 is answered
  pub record Laid : Type 0 where
    pub fits : OutlineFine l
    pub returns : closes l.centre l.corners ≡ true
    pub written : after ≡ overwritten l.unwrapped 0 (numbers l)

  pub laid : r.number ≡ 0 → Laid
  unfolding unwrapped_after
  laid z =
      let (us, e) = done_of (outline_result l) (outline_refuses early_numbered (omega arith) l) (ap (λ (r : Refusal). r.number) (sym answered) ∙ z) in
      let (h, t, k) = result_done l us e in
      record { fits = h; returns = t; written = a.written ∙ rw (e, k) }

  -- nothing is written where it is refused
  pub kept : (r.number ≡ 0 → ⊥) → after ≡ l.unwrapped
  unfolding unwrapped_after
  kept h = go (outline_result l) refl
    where
      go : (o : Outcome (List ℤ)) → outline_result l ≡ o → after ≡ l.unwrapped
      go (done us) e = absurd (h (ap (λ (r : Refusal). r.number) answered ∙ ap (λ (o : Outcome (List ℤ)). (refusal_of o).number) e))
      go (refused q) e = a.written ∙ rw e

  module _ (z : r.number ≡ 0) where
    counted : length (numbers l) ≡ length l.corners
    counted = outline-length l.centre l.corners

    room : length l.corners ≤ length l.unwrapped
    room = (sound l.corners l.centre (length l.unwrapped) (laid z).fits).1

    pub few-corners : length l.corners ≤ most_corners
    few-corners = (sound l.corners l.centre (length l.unwrapped) (laid z).fits).0.few

    pub first-are : take (length l.corners) after ≡ numbers l
    first-are = ap (take (length l.corners)) (laid z).written ∙ take_at (numbers l) (drop (0 + length (numbers l)) l.unwrapped) (length l.corners) counted

    pub rest-is : drop (length l.corners) after ≡ drop (length l.corners) l.unwrapped
    rest-is =
        ap (drop (length l.corners)) (laid z).written
        ∙ drop_at (numbers l) (drop (0 + length (numbers l)) l.unwrapped) (length l.corners) counted
        ∙ ap (λ (n : ℕ). drop n l.unwrapped) (zero-add (length (numbers l)) ∙ counted)

    pub length-is : length after ≡ length l.unwrapped
    length-is = ap length (laid z).written ∙ overwritten-length l.unwrapped 0 (numbers l) (omega (arith, counted, room))

    at-is : (i : ℕ) → i < length l.corners → get_or after i (pos 0) ≡ get_or (numbers l) i (pos 0)
    at-is i h = ap (λ (s : List ℤ). get_or s i (pos 0)) (laid z).written ∙ get_or-append (numbers l) (drop (0 + length (numbers l)) l.unwrapped) (pos 0) i (omega (arith, counted))

    pub near-centre : (i : ℕ) → i < length l.corners → nat_abs (get_or after i (pos 0) -ℤ l.centre) ≤ half_turn * length l.corners
    near-centre i h = subst (λ (u : ℤ). nat_abs (u -ℤ l.centre) ≤ half_turn * length l.corners) (sym (at-is i h)) (omega (arith, outline-within l.centre l.corners i h))

    pub near-zero : (i : ℕ) → i < length l.corners → nat_abs (get_or after i (pos 0)) ≤ half_turn * (length l.corners + 1)
    near-zero i h =
        let u = get_or after i (pos 0) in
        let c = longitude_size l.centre (sound l.corners l.centre (length l.unwrapped) (laid z).fits).0.centred in
        subst (λ (v : ℤ). nat_abs v ≤ half_turn * (length l.corners + 1)) (-ℤ-+ℤ_cancel u l.centre)
        (omega (arith, size-add (u -ℤ l.centre) l.centre, near-centre i h, c))

  -- ---- past the checks

  module _ (h : OutlineFine l) where
    closing-answer : r ≡ refusal_of (require (closes l.centre l.corners) 16 0)
    unfolding outline_result
    closing-answer = answered ∙ rw h (go (closes l.centre l.corners))
      where
        go : (t : Bool) → refusal_of (require t 16 0 >>= λ _. done (numbers l)) ≡ refusal_of (require t 16 0)
        go true = refl
        go false = refl

    pub closed_is : total (steps_round l.corners) ≡ pos 0 → r ≡ refusal 0 0
    closed_is e = closing-answer ∙ rw (sum-closes l.centre l.corners e)

    pub unclosed-is : (total (steps_round l.corners) ≡ pos 0 → ⊥) → r ≡ refusal 16 0
    unclosed-is k = closing-answer ∙ go (closes l.centre l.corners) (closes-sum l.centre l.corners)
      where
        go : (t : Bool) → (t ≡ true → total (steps_round l.corners) ≡ pos 0) → refusal_of (require t 16 0) ≡ refusal 16 0
        go true s = absurd (k (s refl))
        go false s = refl

  pub input_answer : (q : Refusal) → outline_check l.corners l.centre (length l.unwrapped) ≡ refused q → r ≡ q
  unfolding outline_result
  input_answer q e = answered ∙ rw e

-- ---- corners on the same meridians

pub result-same : (corners others : List ℤ) (centre : ℤ) (before : List ℤ) → SameMeridians corners others → outline_result (lent_outline corners centre before) ≡ outline_result (lent_outline others centre before)
unfolding outline_result
result-same corners others centre before h =
    rw (check-same corners others centre (length before) h, closes-same centre corners others h, outline-same centre corners others h)
