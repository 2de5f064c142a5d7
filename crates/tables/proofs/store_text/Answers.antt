-- `tables::store_text` meets its contract. Assumes nothing.
use Rattle.tables.proofs.Rows.{pasted_ended}
use Rattle.tables.proofs.store_text.Goals as goal

pub returns : goal.returns
returns c = pasted_ended c.args.t.now c.args.at c.args.line.now c.requires c.put.ensures
