-- `closings::first_shared` meets its contract. The loop's invariant: none of the first j records shares with an earlier one. Assumes nothing.
use Rattle.join.specs.Check.{shared_record}
use Rattle.turns.proofs.Seeks.{Seeking}
use Rattle.closings.proofs.first_shared.Given as goal

abbrev pub invariant-loop-j : goal.invariant-loop-j
invariant-loop-j l = Seeking (shared_record l.records) l.j-end l.j
