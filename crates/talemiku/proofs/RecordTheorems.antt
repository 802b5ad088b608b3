-- What the writer and the reader of records are shown to do (document 02, R-1), from what the entries promise alone, `Written` and `ReadOut`. The words are those of rules/specs/Terms and specs/AfterRecords.
use mathlib.Core.Path.{◌≡◌, refl, sym, ap, ◌∙◌, subst}
use mathlib.Core.Logic.{◌≢◌}
use mathlib.Core.Bool.{Bool, true, not, and-eq-true_iff}
use mathlib.Core.List.{List, [], ◌∷◌, ◌++◌, append-nil}
use Prim.Native.Nat.{ℕ, zero, suc, ◌+◌, ◌*◌, ◌/◌, ◌%◌, ◌≤◌, ◌<◌}
use native.Mathlib.Nat.{lt_of_le_of_lt}
use native.Mathlib.Omega.{arith}
use borrow.Author.Tests.{eqb-true, leb-true, eq-eqb, ne_eqb, le-leb, lt-leb}
use lib.Dec.{eqb, leb, lit<}
use lib.ListN.{length, take, drop}
use lib.Seq.{take_at, drop_at}
use lib.Ieee.{Float, is_nan, binary64}
use lib.Ieee.Bits.{of_bits-fits}
use denote.Floats.{is_true}
use Rattle.rules.specs.declared.Particle.{Particle}
use Rattle.rules.specs.declared.Refusal.{Refusal}
use Rattle.rules.specs.Plain.{all, overwritten}
use Rattle.rules.specs.Outcome.{done, refused, refusal, no_refusal, Check, fine, ◌then◌, ◌>>=◌, refusal_of, check_from, check_each}
use Rattle.rules.specs.Number.{bits_of, within, finite}
use Rattle.rules.specs.Refusal.{most_particles, count_check, lengths_check}
use Rattle.rules.specs.Sheet.{record_size, velocity_start, flags_start, bytes_of, word_at, float_bytes, record_at, records_from, record_bytes, count_of, particles_of, sheet_of, whole_records, record_check, records_check, places_of, speeds_of}
use Rattle.rules.specs.Calls.{TreeInput, tree_lengths, input_check}
use Rattle.rules.specs.Tick.{SheetInput, count, entry_state}
use Rattle.rules.specs.Records.{room_check, read_check, RecordsInput, write_result, write_answer, sheet_after_write, read_result, read_answer, particles_after_read}
use Rattle.rules.specs.Terms.{Bytes, AllStorable, NoNan}
use Rattle.rules.proofs.RefusalLaws.{◌then·◌}
use Rattle.rules.proofs.RefusalNumbers.{room-early, read-early, records-early}
use Rattle.sheet.proofs.Sheets.{particles-count, sheet-length, particles_of-sheet, sheet_of-particles}
use Rattle.sheet.proofs.Checked.{checks_split, within-number, finite_number, records-sound}
use Rattle.list_checks.proofs.Checks.{then_both, then_fine, require_true}
use Rattle.list_checks.proofs.Scans.{passes}
use Rattle.talemiku.specs.AfterRecords.{lent_records, Written, ReadOut}
use Rattle.talemiku.proofs.Recorded.{writes, reads}

-- ==== what the theorems rest on

-- a check's answer stays where something is done after it
bound : {A : Type 0} (c : Check) (x : A) → refusal_of (c >>= λ _. done x) ≡ refusal_of c
bound (done t) x = refl
bound (refused r) x = refl

-- the check of all records is that of each
each_fine : (qs : List Particle) → records_check qs ≡ fine → check_each record_check qs ≡ fine
unfolding records_check
each_fine qs h = h

-- a list whose front is written over: the front, and the rest
module _ {A : Type 0} (l part : List A) (n : ℕ) (e : length part ≡ n) where
  front_is : take n (overwritten l 0 part) ≡ part
  front_is = take_at part (drop (0 + length part) l) n e

  rest-is : drop n (overwritten l 0 part) ≡ drop n l
  rest-is = drop_at part (drop (0 + length part) l) n e ∙ let h : 0 + length part ≡ n = omega (arith, e) in ap (λ (k : ℕ). drop k l) h

-- numbers that pass a test which no NaN passes are none
module _ (p : Float → Bool) (number : (x : Float) → p x ≡ true → not (is_nan x) ≡ true) where
  all-numbers : (xs ys : List Float) → all p xs ≡ true → all (λ x. not (is_nan x)) ys ≡ true → all (λ x. not (is_nan x)) (xs ++ ys) ≡ true
  all-numbers [] ys h k = k
  all-numbers (x ∷ xs) ys h k =
      let b = (and-eq-true_iff (p x) (all p xs)).0 h in
      (and-eq-true_iff (not (is_nan x)) (all (λ x. not (is_nan x)) (xs ++ ys))).1 (number x b.0, all-numbers xs ys b.1 k)

no_nan : (ps : List Particle) → records_check ps ≡ fine → NoNan ps
no_nan ps h =
    let s = records-sound ps h in
    all-numbers within (λ x w. is_true _ (within-number x w)) (places_of ps) (speeds_of ps) s.places
    (subst (λ (l : List Float). all (λ x. not (is_nan x)) l ≡ true) (append-nil (speeds_of ps)) (all-numbers finite (λ x w. is_true _ (finite_number x w)) (speeds_of ps) [] s.speeds refl))

-- the bytes of a sheet are bytes
bytes_beside : (a b : List ℕ) → Bytes a → Bytes b → Bytes (a ++ b)
bytes_beside [] b h k i = k i
bytes_beside (x ∷ a) b h k zero = h 0
bytes_beside (x ∷ a) b h k (suc i) = bytes_beside a b (λ j. h (suc j)) k i

word_bytes : (k w : ℕ) → Bytes (bytes_of k w)
word_bytes zero w i = omega arith
word_bytes (suc k) w zero = omega arith
word_bytes (suc k) w (suc i) = word_bytes k (w / 256) i

float_bytes_lem : (x : Float) → Bytes (float_bytes x)
float_bytes_lem x = word_bytes 8 (bits_of x)

record_bytes_lem : (p : Particle) → Bytes (record_bytes p)
unfolding record_bytes
record_bytes_lem p =
    let flags = bytes_of 8 p.flags in
    let vy = float_bytes p.vy ++ flags in
    let vx = float_bytes p.vx ++ vy in
    let y = float_bytes p.y ++ vx in
    bytes_beside (float_bytes p.x) y (float_bytes_lem p.x)
    (bytes_beside (float_bytes p.y) vx (float_bytes_lem p.y)
    (bytes_beside (float_bytes p.vx) vy (float_bytes_lem p.vx) (bytes_beside (float_bytes p.vy) flags (float_bytes_lem p.vy) (word_bytes 8 p.flags))))

sheet-bytes : (ps : List Particle) → Bytes (sheet_of ps)
sheet-bytes [] = λ i. omega arith
sheet-bytes (p ∷ ps) = bytes_beside (record_bytes p) (sheet_of ps) (record_bytes_lem p) (sheet-bytes ps)

-- what passes the check of records can be held by records again
records_storable : (s : List ℕ) (k at i : ℕ) → check_from record_check i (records_from s at k) ≡ fine → AllStorable (records_from s at k)
unfolding record_at
records_storable s zero at i h = tt
records_storable s (suc k) at i h =
    let c = checks_split i (record_at s at) (records_from s (at + record_size) k) h in
    let few = leb-true (word_at s (at + flags_start)) 3 c.0.flags in (
      record {
        x = of_bits-fits binary64 (word_at s at);
        y = of_bits-fits binary64 (word_at s (at + 8));
        vx = of_bits-fits binary64 (word_at s (at + velocity_start));
        vy = of_bits-fits binary64 (word_at s (at + (velocity_start + 8)));
        flags = lt_of_le_of_lt few (lit< tt);
      },
      records_storable s k (at + record_size) (i + 1) c.1,
    )

particles_storable : (s : List ℕ) → records_check (particles_of s) ≡ fine → AllStorable (particles_of s)
unfolding particles_of records_check
particles_storable s h = records_storable s (count_of s) 0 0 h

-- ==== the writer

module _ (l : RecordsInput) (r : Refusal) (out : List ℕ) (a : Written l r out) where
  abbrev ps : List Particle
  ps = l.particles

  -- how many bytes the records of all particles take
  abbrev size : ℕ
  size = length ps * record_size

  abbrev check : Check
  check = room_check (length ps) (length l.sheet) then records_check ps

  write_answered : r ≡ refusal_of check
  unfolding write_answer write_result
  write_answered = a.answer ∙ bound check (sheet_of ps)

  -- More than 4,096 particles are 1 at place 0, whatever else is wrong.
  pub write_many : most_particles < length ps → r ≡ refusal 1 0
  write_many h = write_answered ∙ rw (lt-leb (length ps) most_particles h)

  -- Else less than 40 bytes a particle are 2 at place 0, whatever is wrong with the particles.
  pub write_short : length ps ≤ most_particles → length l.sheet < size → r ≡ refusal 2 0
  write_short few h = write_answered ∙ rw (le-leb (length ps) most_particles few, lt-leb size (length l.sheet) h)

  -- A refusal writes nothing.
  pub write_refused : r.number ≢ 0 → out ≡ l.sheet
  unfolding sheet_after_write write_result
  write_refused h = go check refl
    where
      go : (c : Check) → check ≡ c → out ≡ l.sheet
      go (done t) e = absurd (h (ap (λ (r : Refusal). r.number) (write_answered ∙ ap refusal_of e)))
      go (refused q) e = a.sheet ∙ rw e

  -- ---- answered 0

  module _ (z : r.number ≡ 0) where
    write-fine : check ≡ fine
    write-fine = passes check (room-early (length ps) (length l.sheet) then· records-early ps) (ap (λ (r : Refusal). r.number) (sym write_answered) ∙ z)

    roomed : room_check (length ps) (length l.sheet) ≡ fine
    roomed = (then_both (room_check (length ps) (length l.sheet)) (records_check ps) write-fine).0

    sound : records_check ps ≡ fine
    sound = (then_both (room_check (length ps) (length l.sheet)) (records_check ps) write-fine).1

    written_is : out ≡ overwritten l.sheet 0 (sheet_of ps)
    unfolding sheet_after_write write_result
    written_is = a.sheet ∙ rw write-fine

    -- The first 40 n bytes are the records of the n particles in index order, and the rest is kept.
    pub write-records : (take size out ≡ sheet_of ps) × (drop size out ≡ drop size l.sheet)
    write-records = rw written_is (front_is l.sheet (sheet_of ps) size (sheet-length ps), rest-is l.sheet (sheet_of ps) size (sheet-length ps))

    -- No number is a NaN, so that the same particles have the same bits.
    pub write-numbers : NoNan ps
    write-numbers = no_nan ps sound

    -- What is written are bytes.
    pub write_bytes : Bytes (take size out)
    write_bytes = rw write-records.0 (sheet-bytes ps)

    module _ (held : AllStorable ps) where
      -- As a sheet these bytes are as many records, and those particles.
      pub write-particles : (count_of (take size out) ≡ length ps) × (particles_of (take size out) ≡ ps)
      write-particles = rw write-records.0 (omega (arith, sheet-length ps), particles_of-sheet ps held)

      -- Of what a call checks of a sheet's length, count and records, nothing refuses them.
      pub write-passes : (whole_records (take size out) ≡ fine) × (count_check most_particles (count_of (take size out)) ≡ fine) × (records_check (particles_of (take size out)) ≡ fine)
      unfolding whole_records
      write-passes = (
        rw (write-records.0, eq-eqb (length (sheet_of ps) % record_size) 0 (omega (arith, sheet-length ps))),
        rw write-particles.0 (then_both (count_check most_particles (length ps)) (lengths_check (leb size (length l.sheet))) roomed).0,
        rw write-particles.1 sound,
      )

      -- So the tree call refuses them, before 6 and 7, only where its own lists have wrong lengths, and builds the tree of their places.
      pub write-tree : (t : TreeInput) → t.sheet ≡ take size out
          → (input_check most_particles (tree_lengths t) t.sheet ≡ tree_lengths t) × (count_of t.sheet ≡ length ps) × (places_of (particles_of t.sheet) ≡ places_of ps)
      write-tree t e = (subst (λ (u : List ℕ). input_check most_particles (tree_lengths t) u ≡ tree_lengths t) (sym e) (only (tree_lengths t)), rw e write-particles.0, rw e (ap places_of write-particles.1))
        where
          only : (lengths : Check) → input_check most_particles lengths (take size out) ≡ lengths
          only lengths = rw (write-passes.0, write-passes.1, write-passes.2) (then_fine lengths)

      -- A tick and a step begin with those particles.
      pub write-tick : (t : SheetInput) → t.sheet ≡ take size out → (count t ≡ length ps) × ((entry_state t).particles ≡ ps)
      write-tick t e = rw e write-particles

      -- Reading the first 40 n bytes of what was written, into a list that has room for n particles, gives the same n particles, and keeps that list's rest.
      pub write_read : (qs : List Particle) (r' : Refusal) (after : List Particle) → ReadOut (lent_records qs (take size out)) r' after → length ps ≤ length qs
          → (r' ≡ no_refusal) × (take (length ps) after ≡ ps) × (drop (length ps) after ≡ drop (length ps) qs)
      write_read qs r' after b h =
          let s = reads (lent_records qs (take size out)) again in
          let e : after ≡ overwritten qs 0 ps = b.particles ∙ sym s.particles ∙ ap (overwritten qs 0) write-particles.1 in
          (b.answer ∙ sym s.answer, rw e (front_is qs ps (length ps) refl), rw e (rest-is qs ps (length ps) refl))
        where
          again : read_check (take size out) (length qs) ≡ fine
          again = rw (write-passes.0, write-passes.1, le-leb (count_of (take size out)) (length qs) (omega (arith, write-particles.0, h))) write-passes.2

-- ==== the reader

module _ (l : RecordsInput) (r : Refusal) (after : List Particle) (a : ReadOut l r after) where
  abbrev s : List ℕ
  s = l.sheet

  abbrev n : ℕ
  n = count_of s

  abbrev checked : Check
  checked = read_check s (length l.particles)

  read-answered : r ≡ refusal_of checked
  unfolding read_answer read_result
  read-answered = a.answer ∙ bound checked (particles_of s)

  -- A length that is no multiple of 40 is 10 at place 0, whatever else is wrong.
  pub read_bad_length : length s % record_size ≢ 0 → r ≡ refusal 10 0
  unfolding whole_records
  read_bad_length h = read-answered ∙ rw (ne_eqb (length s % record_size) 0 h)

  -- Else more than 4,096 records are 1 at place 0, and then a list that is shorter than their count is 2.
  pub read_many : length s % record_size ≡ 0 → most_particles < n → r ≡ refusal 1 0
  unfolding whole_records
  read_many e h = read-answered ∙ rw (eq-eqb (length s % record_size) 0 e, lt-leb n most_particles h)

  pub read_short : length s % record_size ≡ 0 → n ≤ most_particles → length l.particles < n → r ≡ refusal 2 0
  unfolding whole_records
  read_short e few h = read-answered ∙ rw (eq-eqb (length s % record_size) 0 e, le-leb n most_particles few, lt-leb n (length l.particles) h)

  -- A refusal changes no particle.
  pub read_refused : r.number ≢ 0 → after ≡ l.particles
  unfolding particles_after_read read_result
  read_refused h = go checked refl
    where
      go : (c : Check) → checked ≡ c → after ≡ l.particles
      go (done t) e = absurd (h (ap (λ (r : Refusal). r.number) (read-answered ∙ ap refusal_of e)))
      go (refused q) e = a.particles ∙ rw e

  -- ---- answered 0

  module _ (z : r.number ≡ 0) where
    read-fine : checked ≡ fine
    read-fine = passes checked (read-early s (length l.particles)) (ap (λ (r : Refusal). r.number) (sym read-answered) ∙ z)

    -- each of its checks
    abbrev lengths : Check
    lengths = lengths_check (leb n (length l.particles))

    abbrev counts : Check
    counts = count_check most_particles n

    records-fine : records_check (particles_of s) ≡ fine
    records-fine = (then_both (whole_records s then counts then lengths) (records_check (particles_of s)) read-fine).1

    first_fine : whole_records s then counts ≡ fine
    first_fine = (then_both (whole_records s then counts) lengths (then_both (whole_records s then counts then lengths) (records_check (particles_of s)) read-fine).0).0

    whole : length s % record_size ≡ 0
    unfolding whole_records
    whole = eqb-true (length s % record_size) 0 (require_true (eqb (length s % record_size) 0) 10 0 (then_both (whole_records s) counts first_fine).0)

    read_is : after ≡ overwritten l.particles 0 (particles_of s)
    unfolding particles_after_read read_result
    read_is = a.particles ∙ rw read-fine

    -- The first places hold the particles of the records in index order, and the rest is kept.
    pub read-particles : (take n after ≡ particles_of s) × (drop n after ≡ drop n l.particles)
    read-particles = rw read_is (front_is l.particles (particles_of s) n (particles-count s), rest-is l.particles (particles_of s) n (particles-count s))

    -- No number is a NaN, so that the same particles have the same bits.
    pub read-numbers : NoNan (take n after)
    read-numbers = rw read-particles.0 (no_nan (particles_of s) records-fine)

    -- What is read can be held by records.
    pub read-storable : AllStorable (take n after)
    read-storable = rw read-particles.0 (particles_storable s records-fine)

    -- Writing the first n particles of what was read, of n records, into bytes that have room, gives the same bytes, and keeps the rest of them.
    pub read-write : Bytes s → (bytes : List ℕ) (r' : Refusal) (out : List ℕ) → Written (lent_records (take n after) bytes) r' out → length s ≤ length bytes
        → (r' ≡ no_refusal) × (take (length s) out ≡ s) × (drop (length s) out ≡ drop (length s) bytes)
    read-write are bytes r' out b h =
        let same : sheet_of (take n after) ≡ s = ap sheet_of read-particles.0 ∙ sheet_of-particles s are whole records-fine in
        let w = writes (lent_records (take n after) bytes) again (each_fine (take n after) (rw read-particles.0 records-fine)) in
        let e : out ≡ overwritten bytes 0 s = b.sheet ∙ sym w.sheet ∙ ap (overwritten bytes 0) same in
        (b.answer ∙ sym w.answer, rw e (front_is bytes s (length s) refl), rw e (rest-is bytes s (length s) refl))
      where
        long : length (take n after) ≡ n
        long = ap length read-particles.0 ∙ particles-count s

        counted : counts ≡ fine
        counted = (then_both (whole_records s) counts first_fine).1

        again : room_check (length (take n after)) (length bytes) ≡ fine
        again = rw (long, counted, le-leb (n * record_size) (length bytes) (omega (arith, whole, h)))
