-- A stack as it lies in its array. Assumes nothing.
use mathlib.Core.Path.{◌≡◌, ap, ◌∙◌}
use mathlib.Core.List.{List, [], ◌∷◌}
use Prim.Native.Nat.{ℕ, ◌+◌, ◌≤◌, ◌<◌}
use native.Mathlib.Omega.{arith}
use Rattle.std.proofs.Common.{length, take, set, reverse}
use Rattle.std.proofs.lemmas.List.{take_more_set, reverse-append, length-reverse, length-take-le}

-- it has as many items as the height says
waits_length : {X : Type 0} (es : List X) (h : ℕ) → h ≤ length es → length (reverse (take h es)) ≡ h
waits_length es h b = length-reverse (take h es) ∙ length-take-le h es b

-- one more on top
laid_top : {X : Type 0} (es : List X) (h : ℕ) (e : X) → h < length es → reverse (take (h + 1) (set es h e)) ≡ e ∷ reverse (take h es)
laid_top es h e b = rw (take_more_set es h e b, reverse-append (take h es) (e ∷ []))

-- where there was room for it
pub pushed : {X : Type 0} (es : List X) (h n : ℕ) (e : X) (v : List X) → length es ≡ n → h ≤ n → length v < n → reverse (take h es) ≡ v → reverse (take (h + 1) (set es h e)) ≡ e ∷ v
pushed es h n e v z b r i =
    let k : h < length es = omega (arith, waits_length es h (omega arith), ap length i) in
    laid_top es h e k ∙ ap (λ l. e ∷ l) i
