-- `cells::put` meets its contract. The loop's invariant: the first i cells are copied. Assumes nothing.
use Rattle.cells.proofs.Copied.{Copied}
use Rattle.cells.proofs.put.Given as goal

abbrev pub invariant-loop-i : goal.invariant-loop-i
invariant-loop-i g l = Copied l.initial.t l.at l.s l.t l.i
