-- Columns of a sheet: the pairs of its particles, read and written back.
use mathlib.Core.Path.{◌≡◌, refl, sym, ap, ◌∙◌}
use mathlib.Core.List.{List, [], ◌∷◌, ◌++◌, append_assoc}
use Prim.Native.Nat.{ℕ, zero, suc, ◌+◌, ◌*◌, ◌≤◌}
use native.Mathlib.Nat.{add_assoc}
use native.Mathlib.Omega.{arith}
use lib.ListN.{length, take, drop, length-append, length-drop, take-append-drop}
use lib.Seq.{drop-drop, length-take-le}
use lib.Ieee.{Float}
use Rattle.rules.specs.declared.Particle.{Particle}
use Rattle.rules.specs.Plain.{overwritten}
use Rattle.rules.specs.Sheet.{record_size, bytes_of, word_at, float_at, float_bytes, record_at, records_from, count_of, particles_of, record_bytes, sheet_of, places_of, speeds_of, pairs_from, pairs_bytes}
use Rattle.sheet.specs.Columns.{put_pairs, flags_of}
use Rattle.sheet.proofs.Lists.{length-zero, overwritten-next, overwritten-after, overwritten-part, overwritten-none, overwritten-length}
use Rattle.rules.specs.Terms.{Bytes}
use Rattle.words.proofs.Bytes.{bytes_drop, word_kept}
use Rattle.sheet.proofs.Sheets.{records-drop}

-- ---- reading

places-from : (s : List ℕ) (at k : ℕ) → places_of (records_from s at k) ≡ pairs_from record_size s at k
unfolding record_at
places-from s at zero = refl
places-from s at (suc k) = ap (λ (l : List Float). float_at s at ∷ float_at s (at + 8) ∷ l) (places-from s (at + record_size) k)

speeds-from : (s : List ℕ) (at k : ℕ) → speeds_of (records_from s at k) ≡ pairs_from record_size s (at + 16) k
unfolding record_at
speeds-from s at zero = refl
speeds-from s at (suc k) =
    ap (λ (l : List Float). float_at s (at + 16) ∷ float_at s (at + 24) ∷ l) (speeds-from s (at + record_size) k ∙ ap (λ (n : ℕ). pairs_from record_size s n k) (omega arith))
    ∙ ap (λ (n : ℕ). float_at s (at + 16) ∷ float_at s n ∷ pairs_from record_size s (at + 16 + record_size) k) (omega arith)

-- the places of a sheet's particles are its pairs at 0
pub places_of_lem : (s : List ℕ) → places_of (particles_of s) ≡ pairs_from record_size s 0 (count_of s)
unfolding particles_of
places_of_lem s = places-from s 0 (count_of s)

-- their speeds are its pairs at 16
pub speeds_of_lem : (s : List ℕ) → speeds_of (particles_of s) ≡ pairs_from record_size s 16 (count_of s)
unfolding particles_of
speeds_of_lem s = speeds-from s 0 (count_of s)

-- ---- writing

-- pairs are written after a front as they are alone
put-after : (stride : ℕ) (p s : List ℕ) (at : ℕ) (xs : List Float) → put_pairs stride (p ++ s) (length p + at) xs ≡ p ++ put_pairs stride s at xs
put-after stride p s at [] = refl
put-after stride p s at (x ∷ []) = refl
put-after stride p s at (x ∷ y ∷ xs) =
    let b = float_bytes x ++ float_bytes y in
    rw (overwritten-after p s at b, add_assoc (length p) at stride) (put-after stride p (overwritten s at b) (at + stride) xs)

-- pairs side by side are written as one part
pub put_beside : (k : ℕ) (s : List ℕ) (at : ℕ) (xs : List Float) → length xs ≡ k * 2 → at + k * 16 ≤ length s → put_pairs 16 s at xs ≡ overwritten s at (pairs_bytes xs)
put_beside k s at [] e h = sym (overwritten-none s at)
put_beside zero s at (x ∷ xs) e h = absurd (omega arith)
put_beside (suc k) s at (x ∷ []) e h = absurd (omega arith)
put_beside (suc k) s at (x ∷ y ∷ xs) e h =
    let b = float_bytes x ++ float_bytes y in
    put_beside k (overwritten s at b) (at + 16) xs (omega arith) (rw (overwritten-length s at b (omega arith)) (omega arith))
    ∙ overwritten-next s at b (pairs_bytes xs) (omega arith)
    ∙ ap (overwritten s at) (append_assoc (float_bytes x) (float_bytes y) (pairs_bytes xs))

-- ---- places and speeds written into a sheet

-- the same, with the front's length n
past : (stride : ℕ) (p s : List ℕ) (n at : ℕ) (xs : List Float) → length p ≡ n → put_pairs stride (p ++ s) (n + at) xs ≡ p ++ put_pairs stride s at xs
past stride p s n at xs e = rw (← e) (put-after stride p s at xs)

-- into a record that is the parts a, v, f, the bytes of a place and of a speed, with t after it
record_put : (a v f t place speed : List ℕ) (xs vs : List Float) → length a ≡ 16 → length v ≡ 16 → length f ≡ 8 → length place ≡ 16 → length speed ≡ 16
    → put_pairs record_size (overwritten (put_pairs record_size (overwritten (a ++ (v ++ (f ++ t))) 0 place) record_size xs) 16 speed) 56 vs
    ≡ place ++ speed ++ f ++ put_pairs record_size (put_pairs record_size t 0 xs) 16 vs
record_put a v f t place speed xs vs ha hv hf hp hs =
    let rest = put_pairs record_size t 0 xs in
    let e : put_pairs record_size (overwritten (a ++ (v ++ (f ++ t))) 0 place) record_size xs ≡ place ++ (v ++ (f ++ rest)) =
    ap (λ (l : List ℕ). put_pairs record_size l record_size xs) (overwritten-part [] a (v ++ (f ++ t)) 0 place refl (hp ∙ sym ha) ∙ three place v f t)
    ∙ past record_size (place ++ (v ++ f)) t record_size 0 xs (forty place v f hp hv hf)
    ∙ sym (three place v f rest) in
    ap (λ (l : List ℕ). put_pairs record_size (overwritten l 16 speed) 56 vs) e
    ∙ ap (λ (l : List ℕ). put_pairs record_size l 56 vs) (overwritten-part place v (f ++ rest) 16 speed hp (hs ∙ sym hv) ∙ three place speed f rest)
    ∙ past record_size (place ++ (speed ++ f)) rest record_size 16 vs (forty place speed f hp hs hf)
    ∙ simp append_assoc
  where
    three : (a b c d : List ℕ) → a ++ (b ++ (c ++ d)) ≡ (a ++ (b ++ c)) ++ d
    three a b c d = simp append_assoc

    forty : (a b c : List ℕ) → length a ≡ 16 → length b ≡ 16 → length c ≡ 8 → length (a ++ (b ++ c)) ≡ record_size
    forty a b c x y z = simp length-append (omega arith)

-- a sheet's first record in three parts
parts : (s : List ℕ) → s ≡ take 16 s ++ (take 16 (drop 16 s) ++ (take 8 (drop 32 s) ++ drop record_size s))
parts s =
    sym
    (ap (λ (l : List ℕ). take 16 s ++ (take 16 (drop 16 s) ++ (take 8 (drop 32 s) ++ l))) (sym (drop-drop 8 32 s))
    ∙ ap (λ (l : List ℕ). take 16 s ++ (take 16 (drop 16 s) ++ l)) (take-append-drop 8 (drop 32 s) ∙ sym (drop-drop 16 16 s))
    ∙ ap (λ (l : List ℕ). take 16 s ++ l) (take-append-drop 16 (drop 16 s))
    ∙ take-append-drop 16 s)

-- lists that are equal have equal heads and tails
heads : {a b : ℕ} {l m : List ℕ} → a ∷ l ≡ b ∷ m → (a ≡ b) × (l ≡ m)
heads e = (cc, cc)

-- the flags of the first record and of those after it
first_flags : (s : List ℕ) (k : ℕ) → flags_of (records_from s 0 (suc k)) ≡ word_at s 32 ∷ flags_of (records_from (drop record_size s) 0 k)
unfolding record_at
first_flags s k = ap (λ (l : List Particle). word_at s 32 ∷ flags_of l) (records-drop s record_size k)

-- the first record's bytes, its flags being the bytes f
first-bytes : (q : Particle) (f l : List ℕ) → f ≡ bytes_of 8 q.flags → float_bytes q.x ++ float_bytes q.y ++ (float_bytes q.vx ++ float_bytes q.vy) ++ f ++ l ≡ record_bytes q ++ l
unfolding record_bytes
first-bytes q f l e = ap (λ (g : List ℕ). float_bytes q.x ++ float_bytes q.y ++ (float_bytes q.vx ++ float_bytes q.vy) ++ g ++ l) e

columns-put : (qs : List Particle) (s : List ℕ) → Bytes s → length s ≡ length qs * record_size → flags_of (records_from s 0 (length qs)) ≡ flags_of qs
    → put_pairs record_size (put_pairs record_size s 0 (places_of qs)) 16 (speeds_of qs) ≡ sheet_of qs
columns-put [] s b e h = length-zero s e
columns-put (q ∷ qs) s b e h =
    let g = heads (sym (first_flags s (length qs)) ∙ h) in
    ap (λ (l : List ℕ). put_pairs record_size (put_pairs record_size l 0 (places_of (q ∷ qs))) 16 (speeds_of (q ∷ qs))) (parts s)
    ∙ record_put (take 16 s) (take 16 (drop 16 s)) (take 8 (drop 32 s)) (drop record_size s) (float_bytes q.x ++ float_bytes q.y)
    (float_bytes q.vx ++ float_bytes q.vy) (places_of qs) (speeds_of qs) (length-take-le 16 s (omega arith))
    (length-take-le 16 (drop 16 s) (simp length-drop (omega arith))) (length-take-le 8 (drop 32 s) (simp length-drop (omega arith))) refl refl
    ∙ first-bytes q (take 8 (drop 32 s)) _ (sym (word_kept s 32 b (omega arith)) ∙ ap (bytes_of 8) g.0)
    ∙ ap (λ (l : List ℕ). record_bytes q ++ l) (columns-put qs (drop record_size s) (bytes_drop record_size s b) (simp length-drop (omega arith)) g.1)

-- the places and speeds of particles, written into a sheet with their flags, give the particles' sheet
pub sheet_of-columns : (qs : List Particle) (s : List ℕ) → Bytes s → length s ≡ length qs * record_size → flags_of (particles_of s) ≡ flags_of qs
    → put_pairs record_size (put_pairs record_size s 0 (places_of qs)) 16 (speeds_of qs) ≡ sheet_of qs
unfolding particles_of
sheet_of-columns qs s b e h = columns-put qs s b e (ap (λ (k : ℕ). flags_of (records_from s 0 k)) c ∙ h)
  where
    c : length qs ≡ count_of s
    c = omega arith
