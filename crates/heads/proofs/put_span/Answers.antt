-- `heads::put_span` meets its contract. Assumes nothing.
use Rattle.puts.proofs.Puts.{puts_then}
use Rattle.heads.proofs.put_span.Goals as goal

pub returns : goal.returns
returns c = puts_then c.put_number-at.ensures (puts_then c.put_blanks-at.ensures c.put_number.ensures)
