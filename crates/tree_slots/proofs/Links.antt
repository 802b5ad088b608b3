-- Lists of particles in ascending order, and links that lead along them.
use mathlib.Core.Path.{◌≡◌, refl, sym, ap, ◌∙◌, subst}
use mathlib.Core.Logic.{inl, inr}
use mathlib.Core.Bool.{Bool, true, false, cond}
use mathlib.Core.List.{List, [], ◌∷◌, ◌++◌}
use Prim.Native.Nat.{ℕ, zero, suc, ◌+◌, ◌≤◌, ◌<◌}
use native.Mathlib.Omega.{arith}
use lib.ListN.{length, get_or, set}
use lib.Seq.{get_or-set_same, get_or-set_other}
use Rattle.rules.specs.Plain.{count_from, up_to, keep}
use Rattle.rules.proofs.CellList.{In}
use Rattle.rules.proofs.CellCount.{in_count}
use Rattle.tree_slots.specs.Trees.{Follows, first, Trails, Rises, last_or, Below}

-- ---- in ascending order

pub rises_low : (a b : ℕ) (l : List ℕ) → a ≤ b → Rises b l → Rises a l
rises_low a b [] h r = tt
rises_low a b (j ∷ l) h r = (omega (arith, r.0), r.1)

pub rises_in : (lo : ℕ) (is : List ℕ) (i : ℕ) → Rises lo is → In i is → lo ≤ i
rises_in lo [] i h m = absurd m
rises_in lo (j ∷ is) i h (inl e) = omega (arith, h.0)
rises_in lo (j ∷ is) i h (inr m) = omega (arith, h.0, rises_in (j + 1) is i h.1 m)

pub rises_keep : (p : ℕ → Bool) (lo : ℕ) (l : List ℕ) → Rises lo l → Rises lo (keep p l)
rises_keep p lo [] r = tt
rises_keep p lo (j ∷ l) r = go (p j) (rises_keep p (j + 1) l r.1)
  where
    go : (b : Bool) → Rises (j + 1) (keep p l) → Rises lo (cond b (j ∷ keep p l) (keep p l))
    go true h = (r.0, h)
    go false h = rises_low lo (j + 1) (keep p l) (omega (arith, r.0)) h

-- one more at the end
pub rises_snoc : (lo p : ℕ) (l : List ℕ) → lo ≤ p → ((i : ℕ) → In i l → i < p) → Rises lo l → Rises lo (l ++ (p ∷ []))
rises_snoc lo p [] h f r = (h, tt)
rises_snoc lo p (j ∷ l) h f r = (r.0, rises_snoc (j + 1) p l (omega (arith, f j (inl refl))) (λ i m. f i (inr m)) r.1)

-- below n there are no more than n
pub rises_length : (lo n : ℕ) (l : List ℕ) → lo ≤ n → ((i : ℕ) → In i l → i < n) → Rises lo l → length l + lo ≤ n
rises_length lo n [] h f r = omega arith
rises_length lo n (j ∷ l) h f r = omega (arith, r.0, rises_length (j + 1) n l (omega (arith, f j (inl refl))) (λ i m. f i (inr m)) r.1)

pub below_in : (n : ℕ) (is : List ℕ) (i : ℕ) → Below n is → In i is → i < n
below_in n [] i h m = absurd m
below_in n (j ∷ is) i h (inl e) = omega (arith, h.0)
below_in n (j ∷ is) i h (inr m) = below_in n is i h.1 m

pub in_below : (n : ℕ) (l : List ℕ) → ((i : ℕ) → In i l → i < n) → Below n l
in_below n [] f = tt
in_below n (j ∷ l) f = (f j (inl refl), in_below n l (λ i m. f i (inr m)))

-- ---- 0, 1, .. , n - 1

rises_count : (k n : ℕ) → Rises k (count_from k n)
rises_count k zero = tt
rises_count k (suc n) = (omega arith, rises_count (k + 1) n)

pub rises_up_to : (n : ℕ) → Rises 0 (up_to n)
rises_up_to n = rises_count 0 n

pub in_up_to : (n i : ℕ) → In i (up_to n) → i < n
in_up_to n i m = omega (arith, in_count 0 n i m)

-- ---- links

-- a link has one chain at most
pub trails_unique : (next : List ℕ) (l : ℕ) (is js : List ℕ) → Trails next l is → Trails next l js → is ≡ js
trails_unique next l [] [] h g = refl
trails_unique next l [] (j ∷ js) h g = absurd (omega (arith, h, g.0))
trails_unique next l (i ∷ is) [] h g = absurd (omega (arith, h.0, g))
trails_unique next l (i ∷ is) (j ∷ js) h g =
    let e : i ≡ j = omega (arith, h.0, g.0) in
    rw e (ap (λ (k : List ℕ). j ∷ k) (trails_unique next (get_or next j 0) is js (subst (λ (x : ℕ). Trails next (get_or next x 0) is) e h.1) g.1))

-- links elsewhere don't matter
pub trails_frame : (next w : List ℕ) (l : ℕ) (is : List ℕ) → ((k : ℕ) → In k is → get_or w k 0 ≡ get_or next k 0) → Trails next l is → Trails w l is
trails_frame next w l [] f h = h
trails_frame next w l (i ∷ is) f h =
    (h.0, subst (λ (x : ℕ). Trails w x is) (sym (f i (inl refl))) (trails_frame next w (get_or next i 0) is (λ k m. f k (inr m)) h.1))

-- what a member links to is a member
pub in_next : (next : List ℕ) (l : ℕ) (is : List ℕ) (j k : ℕ) → Trails next l is → In j is → get_or next j 0 ≡ k + 1 → In k is
in_next next l [] j k h m e = absurd m
in_next next l (i ∷ is) j k h (inr m) e = inr (in_next next (get_or next i 0) is j k h.1 m e)
in_next next l (i ∷ []) j k h (inl d) e = absurd (omega (arith, h.1, e, ap (λ (x : ℕ). get_or next x 0) d))
in_next next l (i ∷ x ∷ is) j k h (inl d) e = inr (inl (omega (arith, h.1.0, e, ap (λ (y : ℕ). get_or next y 0) d)))

-- the first is a member
pub first_in : (next : List ℕ) (f : ℕ) (js : List ℕ) → Trails next (f + 1) js → In f js
first_in next f [] t = absurd (omega (arith, t))
first_in next f (j ∷ js) t = inl (omega (arith, t.0))

pub head_in : (l : List ℕ) → 0 < length l → In (first l) l
head_in [] s = absurd (omega arith)
head_in (j ∷ l) s = inl refl

-- the last is a member
pub last_in : (d : ℕ) (js : List ℕ) → 0 < length js → In (last_or d js) js
last_in d [] l = absurd (omega arith)
last_in d (j ∷ []) l = inl refl
last_in d (j ∷ k ∷ js) l = inr (last_in j (k ∷ js) (omega arith))

-- a member more at the end: the last links to it
pub trails_snoc : (next : List ℕ) (p l lo d : ℕ) (js : List ℕ) → get_or next p 0 ≡ 0 → ((i : ℕ) → In i js → (i < p) × (i < length next)) → 0 < length js → Rises lo js → Trails next l js → Trails (set next (last_or d js) (p + 1)) l (js ++ (p ∷ []))
trails_snoc next p l lo d [] z f s r t = absurd (omega arith)
trails_snoc next p l lo d (j ∷ []) z f s r t =
    let w = f j (inl refl) in
    (t.0, (get_or-set_same next j (p + 1) 0 w.1, get_or-set_other next j p (p + 1) 0 (λ e. omega (arith, w.0)) ∙ z))
trails_snoc next p l lo d (j ∷ k ∷ js) z f s r t =
    let a : j < last_or j (k ∷ js) = omega (arith, rises_in (j + 1) (k ∷ js) (last_or j (k ∷ js)) r.1 (last_in j (k ∷ js) (omega arith))) in
    (t.0, subst (λ (x : ℕ). Trails (set next (last_or j (k ∷ js)) (p + 1)) x (k ∷ js ++ (p ∷ []))) (sym (get_or-set_other next (last_or j (k ∷ js)) j (p + 1) 0 (λ e. omega arith))) (trails_snoc next p (get_or next j 0) (j + 1) j (k ∷ js) z (λ i m. f i (inr m)) (omega arith) r.1 t.1))

pub last_snoc : (d p : ℕ) (js : List ℕ) → last_or d (js ++ (p ∷ [])) ≡ p
last_snoc d p [] = refl
last_snoc d p (j ∷ js) = last_snoc j p js

-- a chain that is led to follows its links
pub trails_follows : (next : List ℕ) (l : ℕ) (js : List ℕ) → 0 < length js → Trails next l js → Follows next js
trails_follows next l [] s t = absurd (omega arith)
trails_follows next l (j ∷ []) s t = t.1
trails_follows next l (j ∷ k ∷ js) s t = (t.1.0, trails_follows next (get_or next j 0) (k ∷ js) (omega arith) t.1)

-- and the other way: from its first on it is led to
pub follows_trails : (next js : List ℕ) → Follows next js → Trails next (first js + 1) js
follows_trails next [] f = absurd f
follows_trails next (j ∷ []) f = (refl, f)
follows_trails next (j ∷ k ∷ js) f = (refl, (f.0, (follows_trails next (k ∷ js) f.1).1))
