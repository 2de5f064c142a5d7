-- `lines_read::refused` meets its contract. Assumes nothing.
use mathlib.Core.Path.{refl}
use Rattle.law.specs.Calls.{refused_answer}
use Rattle.lines_read.proofs.refused.Goals as goal

pub returns : goal.returns
unfolding refused_answer
returns c = refl
