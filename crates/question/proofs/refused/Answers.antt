-- `question::refused` meets its contract. Assumes nothing.
use mathlib.Core.Path.{ap}
use Prim.Native.Nat.{ℕ}
use Rattle.law.specs.Refusals.{refusal}
use Rattle.law.specs.Calls.{score_answer}
use Rattle.question.proofs.refused.Goals as goal

pub returns : goal.returns
unfolding score_answer
returns c = ap (λ (n : ℕ). score_answer (refusal n 0 0) 0 0) c.number.ensures
