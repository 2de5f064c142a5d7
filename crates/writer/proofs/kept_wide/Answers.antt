-- `writer::kept_wide` meets its contract. Assumes nothing.
use mathlib.Core.Path.{ap}
use native.Mathlib.Omega.{arith}
use lib.ListN.{length}
use Rattle.puts.proofs.Ends.{end-wide, kept-cr, kept_byte}
use Rattle.writer.proofs.kept_wide.Goals as goal

pub returns-then-c-eq-CR : goal.returns-then-c-eq-CR
returns-then-c-eq-CR c =
    let a = c.args in
    let k = ap length (kept-cr a.end a.c c.if-c-eq-CR.true) in
    let w = end-wide a.end in
    let e = c.end_wide.ensures in
    (omega arith, omega arith)

pub returns-else-c-eq-CR : goal.returns-else-c-eq-CR
returns-else-c-eq-CR c = let a = c.args in let k = ap length (kept_byte a.end a.c c.if-c-eq-CR.false) in (omega arith, omega arith)
