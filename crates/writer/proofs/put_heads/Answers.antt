-- `writer::put_heads` meets its contract. Assumes nothing.
use Rattle.puts.proofs.Puts.{puts_then}
use Rattle.writer.proofs.put_heads.Goals as goal

pub returns : goal.returns
returns c =
    puts_then (puts_then c.put_rounds-at.ensures c.put_end-at.ensures) (puts_then c.put_known-at.ensures (puts_then c.put_scoring-at.ensures c.put_end.ensures))

pub shape_of-out : goal.shape_of-out
shape_of-out c = (returns c).long
