-- How the writer and the reader of records ended. Definitions only.
use Rattle.std.specs.Prelude.{◌≡◌, List, ℕ}
use Rattle.rules.specs.declared.Particle.{Particle}
use Rattle.rules.specs.declared.Refusal.{Refusal}
use Rattle.rules.specs.Records.{RecordsInput, write_answer, sheet_after_write, read_answer, particles_after_read}

-- what is lent to either
abbrev pub lent_records : List Particle → List ℕ → RecordsInput
lent_records particles sheet = record { particles = particles; sheet = sheet }

-- the writer's answer, and the sheet after it
pub record Written (l : RecordsInput) (r : Refusal) (after : List ℕ) : Type 0 where
  pub answer : r ≡ write_answer l
  pub sheet : after ≡ sheet_after_write l

-- the reader's answer, and the particles after it
pub record ReadOut (l : RecordsInput) (r : Refusal) (after : List Particle) : Type 0 where
  pub answer : r ≡ read_answer l
  pub particles : after ≡ particles_after_read l
