-- `rows::blank_column` meets its contract. Assumes nothing.
use mathlib.Core.Path.{sym}
use Rattle.kept_columns.proofs.KeptColumns.{gap}
use Rattle.rows.proofs.blank_column.Goals as goal

pub returns : goal.returns
returns c = sym (gap c.args.line.now c.args.i c.requires)
