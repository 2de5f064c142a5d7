-- `writer::refused` meets its contract. Assumes nothing.
use mathlib.Core.Path.{ap}
use Prim.Native.Nat.{ℕ}
use Rattle.law.specs.Refusals.{refusal}
use Rattle.law.specs.Calls.{written_answer}
use Rattle.writer.proofs.refused.Goals as goal

pub returns : goal.returns
unfolding written_answer
returns c = ap (λ (n : ℕ). written_answer (refusal n 0 0) 0) c.number.ensures
