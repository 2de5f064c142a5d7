-- `heads::put_scoring` meets its contract. Assumes nothing.
use Rattle.puts.proofs.Puts.{puts_then}
use Rattle.heads.proofs.put_scoring.Goals as goal

pub returns : goal.returns
returns c =
    puts_then c.put_code-at.ensures (puts_then c.put_value-at.ensures (puts_then c.put_value-at-2.ensures (puts_then c.put_value-at-3.ensures (puts_then c.put_value-at-4.ensures (puts_then c.put_value-at-5.ensures c.put_value.ensures)))))
