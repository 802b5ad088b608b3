-- What a tick and a step are lent, and their checks before 2 and after it. Definitions only.
use Rattle.std.specs.Prelude.{List, ℕ, Float}
use Rattle.rules.specs.Outcome.{Check, ◌then◌, check_each}
use Rattle.rules.specs.Refusal.{most_particles, most_ticks, count_check, draws_check}
use Rattle.rules.specs.Sheet.{whole_records, count_of, particles_of, records_check}
use Rattle.rules.specs.Tick.{SheetInput, entry_counts, entries_of}
use Rattle.tick_checks.specs.Parts.{ends_each, ranges_each}

abbrev pub lent_sheet : List ℕ → ℕ → List ℕ → List Float → List ℕ → List Float → List ℕ → SheetInput
lent_sheet sheet alpha words numbers links draws work =
    record { sheet = sheet; alpha = alpha; words = words; numbers = numbers; links = links; draws = draws; work = work }

-- before 2: the sheet's length (10), then 1
abbrev pub sizes_check : List ℕ → List ℕ → ℕ → Check
sizes_check sheet words ticks =
    whole_records sheet
    then count_check most_particles (count_of sheet)
    then count_check most_ticks ticks
    then check_each (λ _ e. entry_counts e) (entries_of words)

-- after 2: 3, then the first bad record, then the rest of 5 but the settings
abbrev pub contents_check : List ℕ → List ℕ → List Float → List ℕ → List Float → Check
contents_check sheet words numbers links draws =
    ends_each (count_of sheet) (entries_of words) links
    then records_check (particles_of sheet)
    then ranges_each (count_of sheet) (entries_of words) numbers
    then draws_check draws
