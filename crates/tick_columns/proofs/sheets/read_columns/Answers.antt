-- `read_columns` reads the three columns of the particles on a sheet: places, velocities and flags.
use Rattle.tick_columns.proofs.ByColumns.{columns-read}
use Rattle.tick_columns.proofs.sheets.read_columns.Goals as goal

pub returns : goal.returns
returns c = columns-read _ _ _ _ _ _ c.requires.0 c.requires.1 c.read_pairs.ensures c.read_pairs-2.ensures c.read_flags.ensures
