-- The rules' sum of a list in std's words.
use Rattle.std.proofs.Common.{◌≡◌, ℕ, zero, suc, ◌≤◌, ◌<◌, List, [], ◌∷◌, map, length, get_or, sum, refl, arith}
use Rattle.std.proofs.lemmas.List.Recursion.{is_sum_by}
use Rattle.rules.specs.Plain as Plain

pub sum-is : (l : List ℕ) → Plain.sum l ≡ sum l
sum-is = is_sum_by Plain.sum (λ n. n) refl (λ _ _. refl)

-- no part is more than the sum
pub part-small : {A : Type 0} (f : A → ℕ) (l : List A) (i : ℕ) (a : A) → i < length l → a ≡ get_or l i a → f a ≤ Plain.sum (map f l)
part-small f [] i a h is = absurd (omega arith)
part-small f (b ∷ l) zero a h is = rw is (omega arith)
part-small f (b ∷ l) (suc i) a h is = omega (arith, part-small f l i a (omega arith) is)
