-- `write_columns` writes places and velocities into a sheet, and leaves the flags.
use Rattle.std.proofs.Common.{rules}
use Rattle.tick_columns.proofs.ByColumns.{columns-written}
use Rattle.tick_columns.proofs.sheets.write_columns.Goals as goal

pub returns : goal.returns
returns c = columns-written _ _ _ _ _ (search rules) c.requires c.write_pairs.ensures c.write_pairs-2.ensures
