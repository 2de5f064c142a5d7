-- `heads::put_rounds` meets its contract. Assumes nothing.
use mathlib.Core.Path.{refl}
use native.Mathlib.Omega.{arith}
use Rattle.puts.proofs.Puts.{puts_as, puts_then, puts_last}
use Rattle.heads.proofs.Lines.{rounds-wide}
use Rattle.heads.proofs.put_rounds.Goals as goal

pub returns : goal.returns
returns c = puts_as refl (omega (arith, rounds-wide c.args.rounds)) refl (puts_then c.put_code-at.ensures (puts_then c.put_blanks-at.ensures (puts_last c.put_leading.ensures)))
