-- `writer::done` meets its contract. Assumes nothing.
use mathlib.Core.Path.{refl}
use Rattle.law.specs.Calls.{written_answer}
use Rattle.writer.proofs.done.Goals as goal

pub returns : goal.returns
unfolding written_answer
returns c = refl
