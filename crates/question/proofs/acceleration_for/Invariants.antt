-- `question::acceleration_for` meets its contract. The loop's invariant: the first of the records that covers is the first of those that are left. Assumes nothing.
use mathlib.Core.Path.{◌≡◌}
use lib.ListN.{drop}
use Rattle.kit.specs.Lists.{first}
use Rattle.law.specs.Accelerations.{covers}
use Rattle.question.proofs.acceleration_for.Given as goal

abbrev pub invariant-loop-a : goal.invariant-loop-a
invariant-loop-a l = first (covers l.start.0 l.round) (drop l.a-index l.records) ≡ first (covers l.start.0 l.round) l.records
