-- A sheet and its particles: what was written is read, and what was read is written.
use mathlib.Core.Path.{◌≡◌, refl, sym, ap, ◌∙◌}
use mathlib.Core.Bool.{not}
use mathlib.Core.List.{List, [], ◌∷◌, ◌++◌}
use Prim.Native.Nat.{ℕ, zero, suc, ◌+◌, ◌*◌, ◌%◌, ◌≤◌}
use native.Mathlib.Omega.{arith}
use lib.Dec.{T}
use lib.ListN.{length, take, drop, length-drop, take-append-drop}
use lib.Seq.{drop-drop, take-add}
use lib.Ieee.{Float, is_nan, fits, binary64}
use lib.Ieee.Bits.{of_bits-to_bits, to_bits-of_bits, to_bits-lt}
use Rattle.rules.specs.declared.Particle.{Particle}
use Rattle.rules.specs.Outcome.{fine, check_from}
use Rattle.rules.specs.Number.{float_of, bits_of}
use Rattle.rules.specs.Sheet.{record_size, word_of, bytes_of, word_at, float_at, float_bytes, particle, record_at, records_from, count_of, particles_of, record_bytes, sheet_of, record_check, records_check}
use Rattle.sheet.proofs.Lists.{length-zero}
use Rattle.rules.specs.Terms.{Bytes, Storable, AllStorable}
use Rattle.words.proofs.Bytes.{bytes_drop, word_of-bytes, word_kept, word_fits}
use Rattle.sheet.proofs.Checked.{Sound, within-number, finite_number, checks_split}

-- ---- how many particles

records-count : (s : List ℕ) (at k : ℕ) → length (records_from s at k) ≡ k
records-count s at zero = refl
records-count s at (suc k) = ap suc (records-count s (at + record_size) k)

pub particles-count : (s : List ℕ) → length (particles_of s) ≡ count_of s
unfolding particles_of
particles-count s = records-count s 0 (count_of s)

-- ---- a record alone

-- a record is read the same from the bytes that begin with it
record_drop : (s : List ℕ) (at : ℕ) → record_at s at ≡ record_at (drop at s) 0
unfolding record_at word_at
record_drop s at = rw (← drop-drop 8 at s, ← drop-drop 16 at s, ← drop-drop 24 at s, ← drop-drop 32 at s)

-- and so are the records after it
pub records-drop : (s : List ℕ) (at k : ℕ) → records_from s at k ≡ records_from (drop at s) 0 k
records-drop s at zero = refl
records-drop s at (suc k) =
    cc (
      record_drop s at,
      records-drop s (at + record_size) k ∙ ap (λ (l : List ℕ). records_from l 0 k) (sym (drop-drop record_size at s)) ∙ sym (records-drop (drop at s) record_size k),
    )

-- a number is what its eight bytes say
float_back : (x : Float) → T (fits binary64 x) → float_of (word_of (float_bytes x)) ≡ x
float_back x h = ap float_of (word_of-bytes 8 (bits_of x) (to_bits-lt binary64 x h)) ∙ of_bits-to_bits binary64 x h

same-particle : {x x' y y' vx vx' vy vy' : Float} {f f' : ℕ} → x ≡ x' → y ≡ y' → vx ≡ vx' → vy ≡ vy' → f ≡ f'
    → particle x y vx vy f ≡ particle x' y' vx' vy' f'
same-particle a b c d e = cc

-- a record is what its forty bytes say
pub record_back : (p : Particle) (q : List ℕ) → Storable p → record_at (record_bytes p ++ q) 0 ≡ p
unfolding record_at record_bytes word_at
record_back p q h =
    same-particle (float_back p.x h.x) (float_back p.y h.y) (float_back p.vx h.vx) (float_back p.vy h.vy) (word_of-bytes 8 p.flags h.flags)

-- the bytes of a number that was read are those that stand there, unless it is a NaN
float-kept : (s : List ℕ) (at : ℕ) → Bytes s → at + 8 ≤ length s → T (not (is_nan (float_at s at))) → float_bytes (float_at s at) ≡ take 8 (drop at s)
float-kept s at b h n = ap (bytes_of 8) (to_bits-of_bits binary64 (word_at s at) (word_fits s at b h) n) ∙ word_kept s at b h

-- ---- sheets

record_length : (p : Particle) (q : List ℕ) → length (record_bytes p ++ q) ≡ record_size + length q
unfolding record_bytes
record_length p q = omega arith

-- a sheet has 40 bytes for each particle
pub sheet-length : (ps : List Particle) → length (sheet_of ps) ≡ length ps * record_size
sheet-length [] = refl
sheet-length (p ∷ ps) = record_length p (sheet_of ps) ∙ omega (arith, sheet-length ps)

-- what stands after a record
record_past : (p : Particle) (q : List ℕ) → drop record_size (record_bytes p ++ q) ≡ q
unfolding record_bytes
record_past p q = refl

records-back : (ps : List Particle) → AllStorable ps → records_from (sheet_of ps) 0 (length ps) ≡ ps
records-back [] h = refl
records-back (p ∷ ps) h =
    cc (
      record_back p (sheet_of ps) h.0,
      records-drop (record_bytes p ++ sheet_of ps) record_size (length ps)
          ∙ ap (λ (l : List ℕ). records_from l 0 (length ps)) (record_past p (sheet_of ps))
          ∙ records-back ps h.1,
    )

-- reading what was written gives it
pub particles_of-sheet : (ps : List Particle) → AllStorable ps → particles_of (sheet_of ps) ≡ ps
unfolding particles_of
particles_of-sheet ps h = rw e (records-back ps h)
  where
    e : count_of (sheet_of ps) ≡ length ps
    e = omega (arith, sheet-length ps)

-- the five words of a record are its forty bytes
five : (s : List ℕ) → take 8 s ++ take 8 (drop 8 s) ++ take 8 (drop 16 s) ++ take 8 (drop 24 s) ++ take 8 (drop 32 s) ≡ take record_size s
five s = rw (← take-add 8 8 s, ← take-add 16 8 s, ← take-add 24 8 s, ← take-add 32 8 s)

same_words : {a a' b b' c c' d d' e e' : List ℕ} → a ≡ a' → b ≡ b' → c ≡ c' → d ≡ d' → e ≡ e' → a ++ b ++ c ++ d ++ e ≡ a' ++ b' ++ c' ++ d' ++ e'
same_words p q r s t = cc

-- a sound record's bytes are those that it was read from
record_kept : (s : List ℕ) → Bytes s → record_size ≤ length s → Sound (record_at s 0) → record_bytes (record_at s 0) ≡ take record_size s
unfolding record_at record_bytes
record_kept s b room h =
    same_words
    (float-kept s 0 b (omega arith) (within-number _ h.x))
    (float-kept s 8 b (omega arith) (within-number _ h.y))
    (float-kept s 16 b (omega arith) (finite_number _ h.vx))
    (float-kept s 24 b (omega arith) (finite_number _ h.vy))
    (word_kept s 32 b (omega arith))
    ∙ five s

-- k records that pass the check
records-kept : (k i : ℕ) (s : List ℕ) → Bytes s → length s ≡ k * record_size → check_from record_check i (records_from s 0 k) ≡ fine → sheet_of (records_from s 0 k) ≡ s
records-kept zero i s b e h = sym (length-zero s e)
records-kept (suc k) i s b e h =
    let c = checks_split i (record_at s 0) (records_from s record_size k) h in
    let d = records-drop s record_size k in
    ap (λ (l : List ℕ). l ++ sheet_of (records_from s record_size k)) (record_kept s b (omega arith) c.0)
    ∙ ap (λ (l : List ℕ). take record_size s ++ l) (ap sheet_of d ∙ records-kept k (i + 1) (drop record_size s) (bytes_drop record_size s b) (simp length-drop (omega arith)) (rw d at c.1))
    ∙ take-append-drop record_size s

-- writing what was read gives the same bytes
pub sheet_of-particles : (s : List ℕ) → Bytes s → length s % record_size ≡ 0 → records_check (particles_of s) ≡ fine → sheet_of (particles_of s) ≡ s
unfolding particles_of records_check
sheet_of-particles s b e h = records-kept (count_of s) 0 s b (omega arith) h
