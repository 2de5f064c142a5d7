-- `puts::put_upper` meets its contract. The loop's invariant: the last columns are put. Assumes nothing.
use Rattle.puts.proofs.Turns.{Showing}
use Rattle.puts.proofs.put_upper.Given as goal

abbrev pub invariant-loop-i : goal.invariant-loop-i
invariant-loop-i l = Showing l.fill l.width l.n l.at l.initial.out l.out l.i l.left
