-- `closings::sum_by` meets its contract. The loop's invariant: the sum of the first j rounds, at most 999 a round. Assumes nothing.
use Prim.Native.Nat.{◌+◌, ◌*◌, ◌≤◌}
use lib.ListN.{get_or}
use Rattle.law.specs.Sizes.{most_points}
use Rattle.law.specs.Tables.{cell_of}
use Rattle.join.specs.Check.{worth_by}
use Rattle.turns.proofs.Seeks.{Adding}
use Rattle.closings.proofs.sum_by.Given as goal

abbrev pub invariant-loop-j : goal.invariant-loop-j
invariant-loop-j l = Adding (λ k. worth_by l.worths.values (get_or l.results (cell_of l.place.0 (k + 1)) 0)) l.rounds l.j l.sum × (l.sum ≤ most_points * l.j)
