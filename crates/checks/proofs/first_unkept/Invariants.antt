-- `checks::first_unkept` meets its contract. The loop's invariant: the entries of the first k turns keep the law that the look tells of. Assumes nothing.
use Rattle.law.specs.Entries.{Law}
use Rattle.join.specs.Check.{broken_cell}
use Rattle.checks.specs.Laws.{four_of, Tells}
use Rattle.turns.proofs.Seeks.{Seeking}
use Rattle.checks.proofs.first_unkept.Given as goal

abbrev pub invariant-loop-k : goal.invariant-loop-k
invariant-loop-k g l =
    (law : Law) → Tells (goal.F-post g l.keeps) law l.entries.players (four_of l.entries) → Seeking (broken_cell law l.entries.players l.entries.rounds (four_of l.entries)) l.k-end l.k
