-- `puts::put_text` meets its contract. The loop's invariant: the first bytes are put, with their terminators. Assumes nothing.
use Rattle.puts.proofs.Ends.{Relined}
use Rattle.puts.proofs.put_text.Given as goal

abbrev pub invariant-loop-c : goal.invariant-loop-c
invariant-loop-c l = Relined l.end l.text l.at l.initial.out l.out l.next l.c-index
