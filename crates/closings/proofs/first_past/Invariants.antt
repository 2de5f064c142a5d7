-- `closings::first_past` meets its contract. The loop's invariant: none of the first k turns is past. Assumes nothing.
use Rattle.join.specs.Check.{past_cell}
use Rattle.turns.proofs.Seeks.{Seeking}
use Rattle.closings.proofs.first_past.Given as goal

abbrev pub invariant-loop-k : goal.invariant-loop-k
invariant-loop-k l = Seeking (past_cell l.rounds l.colours) l.k-end l.k
