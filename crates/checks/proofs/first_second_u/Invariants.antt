-- `checks::first_second_u` meets its contract. The loop's invariant: none of the first k turns has a second U, and the flags tell of them. Assumes nothing.
use Rattle.law.specs.Entries.{one_U}
use Rattle.join.specs.Check.{broken_cell}
use Rattle.checks.specs.Laws.{four_of}
use Rattle.turns.proofs.Seeks.{Seeking}
use Rattle.checks.proofs.Flags.{Flags}
use Rattle.checks.proofs.first_second_u.Given as goal

abbrev pub invariant-loop-k : goal.invariant-loop-k
invariant-loop-k l = Seeking (broken_cell one_U l.entries.players l.entries.rounds (four_of l.entries)) l.k-end l.k × Flags l.entries.results.now l.k l.seen
