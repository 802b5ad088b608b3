-- Digits read one after the other, with the number cut at each. Assumes nothing.
use mathlib.Core.Path.{◌≡◌, refl, sym, ap, ◌∙◌}
use mathlib.Core.Bool.{Bool, true, false, not, ◌&&◌}
use Rattle.std.specs.Prelude.{None}
use Rattle.std.specs.Bool.{then_some, ◌==◌}
use mathlib.Core.Logic.{⊎_elim}
use mathlib.Core.List.{List, [], ◌∷◌}
use Prim.Native.Nat.{ℕ, ◌+◌, ◌≤◌, ◌<◌, min}
use native.Mathlib.Nat.{le_refl, le_trans, min-eq_left, min-eq_right, min-le_right}
use native.Mathlib.Omega.{arith}
use borrow.Author.Tests.{ne_eqb}
use lib.ListN.{length, get_or, drop, drop_of_length-le}
use Rattle.rules.specs.Plain.{all, foldl}
use Rattle.rules.proofs.CoverCount.{lt_or_le}
use Rattle.list_checks.proofs.Scans.{list_left}
use Rattle.recenter_call.specs.Ticks.{is_digit, with_digit, value_of, most_asked, ticks_of}

-- a digit more makes no number less
grows : (n : ℕ) (text : List ℕ) → n ≤ foldl with_digit n text
grows n [] = le_refl n
grows n (b ∷ text) = le_trans {m = with_digit n b} (omega arith) (grows (with_digit n b) text)

-- a number that is cut before the rest is read comes to the same
cut-before : (n : ℕ) (text : List ℕ) → min (foldl with_digit n text) most_asked ≡ min (foldl with_digit (min n most_asked) text) most_asked
cut-before n text = ⊎_elim above below (lt_or_le most_asked n)
  where
    reached : (k : ℕ) → most_asked ≤ k → min (foldl with_digit k text) most_asked ≡ most_asked
    reached k h = min-eq_right (le_trans h (grows k text))

    above : most_asked < n → min (foldl with_digit n text) most_asked ≡ min (foldl with_digit (min n most_asked) text) most_asked
    above h = let l : most_asked ≤ n = omega arith in reached n l ∙ sym (ap (λ (k : ℕ). min (foldl with_digit k text) most_asked) (min-eq_right l) ∙ reached most_asked (le_refl most_asked))

    below : n ≤ most_asked → min (foldl with_digit n text) most_asked ≡ min (foldl with_digit (min n most_asked) text) most_asked
    below h = ap (λ (k : ℕ). min (foldl with_digit k text) most_asked) (sym (min-eq_left h))

-- the first i bytes are digits, and what the whole text comes to is what the rest does from here
pub record Reading (text : List ℕ) (ticks i : ℕ) : Type 0 where
  pub few : ticks ≤ most_asked
  pub inside : i ≤ length text
  pub digits : all is_digit text ≡ all is_digit (drop i text)
  pub value : min (value_of text) most_asked ≡ min (foldl with_digit ticks (drop i text)) most_asked

-- a text with a byte that is no digit
none-asked : (text : List ℕ) → all is_digit text ≡ false → None ≡ ticks_of text
unfolding ticks_of
none-asked [] e = refl
none-asked (b ∷ text) e = rw e

-- a text of digits
all_asked : (text : List ℕ) (ticks : ℕ) → all is_digit text ≡ true → min (value_of text) most_asked ≡ ticks → then_some (not (length text == 0)) ticks ≡ ticks_of text
unfolding ticks_of
all_asked [] ticks e v = refl
all_asked (b ∷ text) ticks e v = rw (ne_eqb (length (b ∷ text)) 0 (λ z. omega arith), e, ← v)

module _ (text : List ℕ) (ticks i : ℕ) (r : Reading text ticks i) where
  module _ (h : i < length text) where
    rest : drop i text ≡ get_or text i 0 ∷ drop (i + 1) text
    rest = list_left text i 0 h

    all_left : (b : Bool) → is_digit (get_or text i 0) ≡ b → all is_digit text ≡ b && all is_digit (drop (i + 1) text)
    all_left b e = r.digits ∙ ap (all is_digit) rest ∙ ap (λ (t : Bool). t && all is_digit (drop (i + 1) text)) e

    pub reading-turn : (next : ℕ) → is_digit (get_or text i 0) ≡ true → next ≡ min (with_digit ticks (get_or text i 0)) most_asked → Reading text next (i + 1)
    reading-turn next digit e = record {
      few = rw e (min-le_right (with_digit ticks (get_or text i 0)) most_asked);
      inside = omega arith;
      digits = all_left true digit;
      value =
          r.value
          ∙ ap (λ (l : List ℕ). min (foldl with_digit ticks l) most_asked) rest
          ∙ cut-before (with_digit ticks (get_or text i 0)) (drop (i + 1) text)
          ∙ ap (λ (k : ℕ). min (foldl with_digit k (drop (i + 1) text)) most_asked) (sym e);
    }

    pub reading-stop : is_digit (get_or text i 0) ≡ false → None ≡ ticks_of text
    reading-stop other = none-asked text (all_left false other)

  pub reading_end : length text ≤ i → then_some (not (length text == 0)) ticks ≡ ticks_of text
  reading_end h =
      let e : drop i text ≡ [] = drop_of_length-le text {i = i} h in
      all_asked text ticks (r.digits ∙ ap (all is_digit) e) (r.value ∙ ap (λ (l : List ℕ). min (foldl with_digit ticks l) most_asked) e ∙ min-eq_left r.few)
