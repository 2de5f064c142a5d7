-- `closings::close_row` meets its contract. The loop's invariant: the cells of the first j rounds are closed. Assumes nothing.
use Rattle.closings.proofs.Closes.{Row}
use Rattle.closings.proofs.close_row.Given as goal

abbrev pub invariant-loop-j : goal.invariant-loop-j
invariant-loop-j l = Row l.rounds l.letter l.place.0 l.initial.t l.t l.j
