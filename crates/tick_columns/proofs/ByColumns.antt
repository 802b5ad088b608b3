-- A sheet by columns: read, and written back.
use mathlib.Core.Path.{◌≡◌, refl, sym, ap, ◌∙◌}
use mathlib.Core.List.{List}
use Prim.Native.Nat.{ℕ, zero, suc, ◌+◌, ◌*◌, ◌/◌}
use native.Mathlib.Omega.{arith}
use lib.ListN.{length, length-map}
use lib.Ieee.{Float}
use Rattle.rules.specs.declared.Particle.{Particle}
use Rattle.rules.specs.Plain.{up_to}
use Rattle.rules.specs.Sheet.{record_size, velocity_start, count_of, particles_of, records_from, pairs_from}
use Rattle.rules.proofs.CellCount.{length-up_to}
use Rattle.sheet.specs.Columns.{flags_of, put_pairs}
use Rattle.rules.specs.Terms.{Bytes}
use Rattle.sheet.proofs.Columns.{places_of_lem, speeds_of_lem, sheet_of-columns}
use Rattle.closing.specs.Columns.{particle_at, particles_from}
use Rattle.closing.proofs.Closing.{places-back, speeds-back, flags_back}
use Rattle.tick_columns.specs.Columns.{Read, Writable, written}

-- ---- reading

-- p and v numbers were read, which are a pair for each record
pub columns-read : (sheet : List ℕ) (places speeds : List Float) (flags : List ℕ) (p v : ℕ) → p ≡ count_of sheet * 2 → v ≡ count_of sheet * 2
    → places ≡ pairs_from record_size sheet 0 (p / 2) → speeds ≡ pairs_from record_size sheet velocity_start (v / 2) → flags ≡ flags_of (particles_of sheet) → Read sheet places speeds flags
columns-read sheet places speeds flags p v hp hv ep ev ef =
    record {
      of_places = ep ∙ ap (pairs_from record_size sheet 0) (half p hp) ∙ sym (places_of_lem sheet);
      of_speeds = ev ∙ ap (pairs_from record_size sheet velocity_start) (half v hv) ∙ sym (speeds_of_lem sheet);
      of_flags = ef;
    }
  where
    half : (k : ℕ) → k ≡ count_of sheet * 2 → k / 2 ≡ count_of sheet
    half k h = omega arith

-- ---- writing

-- a flag for each record
flags_from : (s : List ℕ) (at k : ℕ) → length (flags_of (records_from s at k)) ≡ k
flags_from s at zero = refl
flags_from s at (suc k) = ap suc (flags_from s (at + record_size) k)

flags_count : (s : List ℕ) → length (flags_of (particles_of s)) ≡ count_of s
unfolding particles_of
flags_count s = flags_from s 0 (count_of s)

-- a particle for each flag
particles-count : (places speeds : List Float) (flags : List ℕ) → length (particles_from places speeds flags) ≡ length flags
unfolding particles_from
particles-count places speeds flags = length-map (up_to (length flags)) (particle_at places speeds flags) ∙ length-up_to (length flags)

-- the places were written first, then the speeds
pub columns-written : (sheet : List ℕ) (places speeds : List Float) (mid end : List ℕ) → Bytes sheet → Writable sheet places speeds
    → mid ≡ put_pairs record_size sheet 0 places → end ≡ put_pairs record_size mid velocity_start speeds → end ≡ written sheet places speeds
columns-written sheet places speeds mid end b h em ee =
    ee
    ∙ rw em (
    rw (places-back places speeds flags (h.place_each ∙ twice), speeds-back places speeds flags (h.speed_each ∙ twice)) at
    (sheet_of-columns qs sheet b (omega (arith, h.whole, particles-count places speeds flags, flags_count sheet)) (sym (flags_back places speeds flags)))
    )
  where
    flags : List ℕ
    flags = flags_of (particles_of sheet)

    qs : List Particle
    qs = particles_from places speeds flags

    twice : count_of sheet * 2 ≡ length flags * 2
    twice = ap (λ (n : ℕ). n * 2) (sym (flags_count sheet))
