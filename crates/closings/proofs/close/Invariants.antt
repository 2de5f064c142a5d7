-- `closings::close` meets its contract. The loop's invariant: the cells of the first p players are closed. Assumes nothing.
use Prim.Native.Nat.{◌*◌}
use Rattle.law.specs.Sizes.{most_rounds}
use Rattle.closings.specs.Closing.{Closing}
use Rattle.closings.proofs.close.Given as goal

abbrev pub invariant-loop-p : goal.invariant-loop-p
invariant-loop-p l = Closing l.n l.rounds l.letter l.initial.t l.t (l.p * most_rounds)
