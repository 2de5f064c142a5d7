-- `heads::put_value` meets its contract. Assumes nothing.
use mathlib.Core.Path.{refl}
use native.Mathlib.Omega.{arith}
use Rattle.puts.proofs.Puts.{puts_as, puts_then}
use Rattle.heads.proofs.put_value.Goals as goal

pub returns : goal.returns
returns c = puts_as refl (omega arith) refl (puts_then c.put_blanks-at.ensures (puts_then c.put-at.ensures c.put_points.ensures))
