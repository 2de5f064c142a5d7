-- `records::is_text` meets its contract. Assumes nothing.
use mathlib.Core.Path.{◌∙◌}
use Rattle.records.proofs.Codes.{text_of_columns}
use Rattle.records.proofs.is_text.Goals as goal

pub returns : goal.returns
returns c = c.is_text_code.ensures ∙ text_of_columns c.args.line.now _ _ _ c.column.ensures c.column-2.ensures c.column-3.ensures
