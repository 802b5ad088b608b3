-- Document 02, R-1: the program recenter, which reads a sheet, runs a stated number of ticks with Center in force slot 0, and writes the sheet. Definitions only.
use Rattle.std.specs.Prelude.{cond, List, [], ◌∷◌, ℕ, ◌-◌, ◌*◌, eqb, replicate, Float}
use Rattle.rules.specs.declared.Settings.{Settings}
use Rattle.rules.specs.Outcome.{Outcome, done, refused, ◌then◌, ◌>>=◌}
use Rattle.rules.specs.Number.{0·, float_of}
use Rattle.rules.specs.Refusal.{count_check}
use Rattle.rules.specs.Sheet.{whole_records, count_of, sheet_of}
use Rattle.rules.specs.Tick.{entry_words, force_slots, settings, SheetInput, TicksDone, step_result}

-- ---- what is fixed

abbrev pub most_recentered : ℕ
most_recentered = 512

-- 1 and -1, as f64 bits
abbrev pub one_bits : ℕ
one_bits = 0x3ff0_0000_0000_0000

abbrev pub minus_one_bits : ℕ
minus_one_bits = 0xbff0_0000_0000_0000

-- force slot 0 is Center (4): x 0, y 0, strength 1; the others are empty
abbrev pub center_words : List ℕ
center_words = 4 ∷ 0 ∷ 0 ∷ 0 ∷ 0 ∷ 0 ∷ one_bits ∷ replicate ((force_slots - 1) * entry_words) 0

-- alpha is 1; Center takes no numbers, links or draws, and no work slots
abbrev pub recenter_input : List ℕ → SheetInput
recenter_input sheet = record { sheet = sheet; alpha = one_bits; words = center_words; numbers = []; links = []; draws = []; work = [] }

-- alpha_target 0, alpha_decay 0.0228, velocity_decay 0.6
abbrev pub recenter_settings : Settings
recenter_settings = settings 0· (float_of 0x3f97_58e2_1965_2bd4) (float_of 0x3fe3_3333_3333_3333)

-- -1: alpha stays above it, so that every stated tick runs
abbrev pub recenter_alpha_min : Float
recenter_alpha_min = float_of minus_one_bits

-- ---- from a sheet and a number of ticks to a sheet

-- a refused tick refuses the whole
abbrev pub unless_stopped : TicksDone → Outcome (List ℕ)
unless_stopped r = cond (eqb r.stop.number 0) (done (sheet_of r.last.particles)) (refused r.stop)

-- 10 for the length, then 1 for over 512 records, then what a step refuses (1 for over 4,096 ticks, the first bad record), then what the first refused tick is refused by
unfoldable pub recentered : List ℕ → ℕ → Outcome (List ℕ)
recentered sheet ticks =
    whole_records sheet then count_check most_recentered (count_of sheet) >>= λ _.
    step_result (recenter_input sheet) recenter_settings recenter_alpha_min ticks >>= unless_stopped
