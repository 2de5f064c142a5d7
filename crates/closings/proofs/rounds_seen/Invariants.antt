-- `closings::rounds_seen` meets its contract. The loop's invariant: the greatest of the first k turns. Assumes nothing.
use Rattle.join.specs.Check.{round_seen}
use Rattle.turns.proofs.Seeks.{Climbing}
use Rattle.closings.proofs.rounds_seen.Given as goal

abbrev pub invariant-loop-k : goal.invariant-loop-k
invariant-loop-k l = Climbing (round_seen l.colours) l.k-end l.k l.most
