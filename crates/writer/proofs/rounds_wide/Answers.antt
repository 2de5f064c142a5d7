-- `writer::rounds_wide` meets its contract. Assumes nothing.
use native.Mathlib.Omega.{arith}
use borrow.Author.Rules.{rules}
use Rattle.writer.proofs.Wide.{rounds-short, rounds-long}
use Rattle.writer.proofs.rounds_wide.Goals as goal

pub returns-then-rounds-lt10 : goal.returns-then-rounds-lt10
returns-then-rounds-lt10 c = let e = rounds-short c.args.rounds (search rules) in omega arith

pub returns-else-rounds-lt10 : goal.returns-else-rounds-lt10
returns-else-rounds-lt10 c = let e = rounds-long c.args.rounds (search rules) (search rules) in omega arith
