-- `writer::colour_wide` meets its contract. Assumes nothing.
use mathlib.Core.Path.{ap}
use native.Mathlib.Omega.{arith}
use lib.ListN.{length}
use Rattle.writer.proofs.Wide.{colour-none, known_wide}
use Rattle.writer.proofs.colour_wide.Goals as goal

pub returns-then-colour-eq0 : goal.returns-then-colour-eq0
returns-then-colour-eq0 c = let a = c.args in let e = ap length (colour-none a.colour a.end c.if-colour-eq0.true) in omega arith

pub returns : goal.returns
returns c = let a = c.args in let e = known_wide a.colour a.end c.if-colour-eq0.false in let w = c.end_wide.ensures in omega arith
