-- `closings::shares_earlier` meets its contract. The loop's invariant: whether one of the first i shares. Assumes nothing.
use lib.ListN.{get_or}
use Rattle.law.specs.Accelerations.{shares}
use Rattle.law.specs.Lawful.{no_acceleration}
use Rattle.turns.proofs.Seeks.{Asking}
use Rattle.closings.proofs.shares_earlier.Given as goal

abbrev pub invariant-loop-i : goal.invariant-loop-i
invariant-loop-i l = Asking (λ k. shares (get_or l.records l.number.0 no_acceleration) (get_or l.records k no_acceleration)) l.number.0 l.i l.found
