-- Text written behind text: what is written already, and what is left to write. Assumes nothing.
use mathlib.Core.Path.{◌≡◌, refl, sym, ap, ap₂, ◌∙◌, subst}
use mathlib.Core.List.{List, [], ◌∷◌, ◌++◌}
use Prim.Native.Nat.{ℕ, ◌+◌, ◌≤◌, ◌<◌}
use native.Mathlib.Nat.{add-zero, add_assoc}
use native.Mathlib.Numerals.{add-one}
use native.Mathlib.Omega.{arith}
use lib.ListN.{length, drop, get_or, length-append}
use lib.Seq.{drop-cons}
use Rattle.rules.specs.Plain.{overwritten}
use Rattle.lister_text.specs.Text.{TextWritten}
use Rattle.sheet.proofs.Lists.{overwritten-length, overwritten-next, overwritten-none}

-- from an index on: the element there, then the rest
pub from_index : (l : List ℕ) (i : ℕ) → i < length l → drop i l ≡ get_or l i 0 ∷ drop (i + 1) l
from_index l i h = drop-cons l i 0 h ∙ ap (λ (n : ℕ). get_or l i 0 ∷ drop n l) (sym (add-one i))

-- one text behind another
pub wrote_both : (l : List ℕ) (at : ℕ) (s t k j : List ℕ) (r q : ℕ) → at + length s ≤ length l → TextWritten l at s k r → TextWritten k r t j q → TextWritten l at (s ++ t) j q
wrote_both l at s t k j r q h w v = record {
  list = v.list ∙ ap₂ (λ (a : List ℕ) (n : ℕ). overwritten a n t) w.list w.next ∙ overwritten-next l at s t h;
  next = v.next ∙ ap (λ (n : ℕ). n + length t) w.next ∙ add_assoc at (length s) (length t) ∙ ap (λ (n : ℕ). at + n) (sym (length-append s t));
}

-- ---- A whole text goes into a list at a place. Of it a part is written, and the rest is to stand at the next place.

pub record Left (l : List ℕ) (at : ℕ) (whole k : List ℕ) (next : ℕ) (rest : List ℕ) : Type 0 where
  pub list : overwritten k next rest ≡ overwritten l at whole
  pub end : next + length rest ≡ at + length whole
  pub fits : next + length rest ≤ length k
  pub same : length k ≡ length l

pub left-all : (l : List ℕ) (at : ℕ) (whole : List ℕ) → at + length whole ≤ length l → Left l at whole l at whole
left-all l at whole h = record { list = refl; end = refl; fits = h; same = refl }

-- of a text that is given by what is to be written
pub left_as : (l : List ℕ) (at : ℕ) (whole rest : List ℕ) → whole ≡ rest → at + length whole ≤ length l → Left l at whole l at rest
left_as l at whole rest e h = subst (λ (t : List ℕ). Left l at whole l at t) e (left-all l at whole h)

module _ {l : List ℕ} {at : ℕ} {whole k : List ℕ} {next : ℕ} where
  pub left-none : Left l at whole k next [] → TextWritten l at whole k next
  left-none d = record { list = sym (overwritten-none k next) ∙ d.list; next = sym (add-zero next) ∙ d.end }

  pub left-last : {s j : List ℕ} {q : ℕ} → Left l at whole k next s → TextWritten k next s j q → TextWritten l at whole j q
  left-last d w = record { list = w.list ∙ d.list; next = w.next ∙ d.end }

-- s is next, and then that is left
pub record Next (l : List ℕ) (at : ℕ) (whole k : List ℕ) (next : ℕ) (s rest : List ℕ) : Type 0 where
  pub room : next + length s ≤ length k
  pub after : {j : List ℕ} {q : ℕ} → TextWritten k next s j q → Left l at whole j q rest

pub left-next : {l : List ℕ} {at : ℕ} {whole k : List ℕ} {next : ℕ} (s rest : List ℕ) → Left l at whole k next (s ++ rest) → Next l at whole k next s rest
left-next {l} {at} {whole} {k} {next} s rest d = record { room = room; after = after }
  where
    both : length (s ++ rest) ≡ length s + length rest
    both = length-append s rest

    room : next + length s ≤ length k
    room = omega (arith, both, d.fits)

    after : {j : List ℕ} {q : ℕ} → TextWritten k next s j q → Left l at whole j q rest
    after {j} {q} w =
        let n : length j ≡ length k = ap length w.list ∙ overwritten-length k next s room in
        record {
          list = ap₂ (λ (a : List ℕ) (n : ℕ). overwritten a n rest) w.list w.next ∙ overwritten-next k next s rest room ∙ d.list;
          end = omega (arith, both, w.next, d.end);
          fits = omega (arith, both, w.next, d.fits);
          same = n ∙ d.same;
        }
