-- Document 02, R-1: particles written out as the records of a sheet, and a sheet read. Definitions only.
use Rattle.std.specs.Prelude.{List, ℕ, ◌*◌, leb, length}
use Rattle.rules.specs.declared.Particle.{Particle}
use Rattle.rules.specs.declared.Refusal.{Refusal}
use Rattle.rules.specs.Plain.{overwritten}
use Rattle.rules.specs.Outcome.{Outcome, done, Check, ◌then◌, ◌>>=◌, refusal_of, if_done}
use Rattle.rules.specs.Refusal.{most_particles, count_check, lengths_check}
use Rattle.rules.specs.Sheet.{record_size, count_of, particles_of, sheet_of, records_check}
use Rattle.rules.specs.Calls.{input_check}

-- ---- the checks

-- of n particles that go into so many bytes, before the particles are looked at: 1, then 2 for fewer than 40 bytes a particle
abbrev pub room_check : ℕ → ℕ → Check
room_check n bytes = count_check most_particles n then lengths_check (leb (n * record_size) bytes)

-- of a sheet that goes into a list of so many places, with its records: 10, 1, 2 for a list shorter than the count, then the first bad record
abbrev pub read_check : List ℕ → ℕ → Check
read_check sheet places = input_check most_particles (lengths_check (leb (count_of sheet) places)) sheet

-- Lent to both calls: a list of particles and a sheet's bytes. The writer changes the sheet, the reader the particles.
pub record RecordsInput : Type 0 where
  pub particles : List Particle
  pub sheet : List ℕ

module _ (l : RecordsInput) where
  -- ---- the writer: particles in, records out in index order

  -- after 1 and 2 the first bad particle: a sheet that can't be read is not written
  unfoldable pub write_result : Outcome (List ℕ)
  write_result = room_check (length l.particles) (length l.sheet) then records_check l.particles >>= λ _. done (sheet_of l.particles)

  -- the answer is the refusal, or number 0
  unfoldable pub write_answer : Refusal
  write_answer = refusal_of write_result

  -- a longer output keeps its rest; a refusal writes nothing
  unfoldable pub sheet_after_write : List ℕ
  sheet_after_write = if_done write_result (overwritten l.sheet 0) l.sheet

  -- ---- the reader: records in, particles out in index order

  unfoldable pub read_result : Outcome (List Particle)
  read_result = read_check l.sheet (length l.particles) >>= λ _. done (particles_of l.sheet)

  unfoldable pub read_answer : Refusal
  read_answer = refusal_of read_result

  -- a longer list keeps its rest; a refusal changes nothing
  unfoldable pub particles_after_read : List Particle
  particles_after_read = if_done read_result (overwritten l.particles 0) l.particles
