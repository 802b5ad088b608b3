-- The outcomes of the writer and of the reader of records, check by check: what each answers, and what it leaves.
use mathlib.Core.Path.{◌≡◌}
use mathlib.Core.List.{List}
use Prim.Native.Nat.{ℕ, ◌*◌, ◌≤◌}
use borrow.Author.Tests.{leb-true}
use lib.Dec.{leb}
use lib.ListN.{length}
use Rattle.rules.specs.declared.Refusal.{Refusal}
use Rattle.rules.specs.Plain.{overwritten}
use Rattle.rules.specs.Outcome.{Check, refused, no_refusal, fine, ◌then◌, check_each}
use Rattle.rules.specs.Refusal.{most_particles, count_check, lengths_check}
use Rattle.rules.specs.Sheet.{record_size, count_of, particles_of, sheet_of, whole_records, record_check, records_check}
use Rattle.rules.specs.Records.{room_check, read_check, RecordsInput, write_result, write_answer, sheet_after_write, read_result, read_answer, particles_after_read}
use Rattle.list_checks.proofs.Checks.{then_both, require_true}
use Rattle.talemiku.specs.AfterRecords.{Written, ReadOut}

-- ---- what a check that is fine says

module _ (n bytes : ℕ) where
  pub room-reaches : room_check n bytes ≡ fine → n * record_size ≤ bytes
  room-reaches h = leb-true (n * record_size) bytes (require_true (leb (n * record_size) bytes) 2 0 (then_both (count_check most_particles n) (lengths_check (leb (n * record_size) bytes)) h).1)

module _ (s : List ℕ) (room : ℕ) where
  abbrev lengths : Check
  lengths = lengths_check (leb (count_of s) room)

  pub read-reaches : read_check s room ≡ fine → count_of s ≤ room
  read-reaches h =
      let first = whole_records s then count_check most_particles (count_of s) in
      leb-true (count_of s) room (require_true (leb (count_of s) room) 2 0 (then_both first lengths (then_both (first then lengths) (records_check (particles_of s)) h).0).1)

-- ---- what is answered and left

module _ (l : RecordsInput) where
  abbrev bytes : ℕ
  bytes = length l.sheet

  abbrev count : ℕ
  count = length l.particles

  pub stops-room : (r : Refusal) → room_check count bytes ≡ refused r → Written l r l.sheet
  unfolding write_answer sheet_after_write write_result
  stops-room r e = record { answer = rw e; sheet = rw e }

  module _ (room : room_check count bytes ≡ fine) where
    pub stops-particles : (r : Refusal) → check_each record_check l.particles ≡ refused r → Written l r l.sheet
    unfolding write_answer sheet_after_write write_result records_check
    stops-particles r e = record { answer = rw (room, e); sheet = rw (room, e) }

    pub writes : check_each record_check l.particles ≡ fine → Written l no_refusal (overwritten l.sheet 0 (sheet_of l.particles))
    unfolding write_answer sheet_after_write write_result records_check
    writes e = record { answer = rw (room, e); sheet = rw (room, e) }

  -- either of them refuses
  pub stops-write : (r : Refusal) → (room_check count bytes then records_check l.particles) ≡ refused r → Written l r l.sheet
  unfolding write_answer sheet_after_write write_result
  stops-write r e = record { answer = rw e; sheet = rw e }

  pub stops-read : (r : Refusal) → read_check l.sheet count ≡ refused r → ReadOut l r l.particles
  unfolding read_answer particles_after_read read_result
  stops-read r e = record { answer = rw e; particles = rw e }

  pub reads : read_check l.sheet count ≡ fine → ReadOut l no_refusal (overwritten l.particles 0 (particles_of l.sheet))
  unfolding read_answer particles_after_read read_result
  reads e = record { answer = rw e; particles = rw e }
