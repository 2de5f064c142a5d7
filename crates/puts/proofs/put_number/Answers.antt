-- `puts::put_number` meets its contract. Assumes nothing.
use mathlib.Core.Path.{refl}
use native.Mathlib.Omega.{arith}
use Rattle.puts.proofs.Puts.{puts_as, puts_then}
use Rattle.puts.proofs.Numbers.{filled_last}
use Rattle.puts.proofs.put_number.Goals as goal

pub returns : goal.returns
returns c =
    let a = c.args in
    let p = c.requires in
    puts_as (filled_last a.fill a.width a.n p.0 c.digit.ensures) (omega arith) refl (puts_then c.put_upper-last.ensures c.put.ensures)
