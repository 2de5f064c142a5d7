-- `glances::keeps_one_u` meets its contract. The loop's invariant: no two of the first p players have U in one round, and the flags tell of them. Assumes nothing.
use Rattle.glances.proofs.Once.{Onced}
use Rattle.glances.proofs.keeps_one_u.Given as goal

abbrev pub invariant-loop-p : goal.invariant-loop-p
invariant-loop-p l = Onced l.entries.results.now l.p l.seen
