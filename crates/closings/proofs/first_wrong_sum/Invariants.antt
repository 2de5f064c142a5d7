-- `closings::first_wrong_sum` meets its contract. The loop's invariant: the first p players state their sums. Assumes nothing.
use Rattle.join.specs.Check.{wrong_sum}
use Rattle.turns.proofs.Seeks.{Seeking}
use Rattle.closings.proofs.first_wrong_sum.Given as goal

abbrev pub invariant-loop-p : goal.invariant-loop-p
invariant-loop-p l = Seeking (wrong_sum l.worths.values l.points l.results l.rounds) l.n l.p
