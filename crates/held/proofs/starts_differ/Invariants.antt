-- `held::starts_differ` meets its contract. The loop's invariant: the first p start numbers differ, and the index is theirs. Assumes nothing.
use Rattle.held.proofs.Differ.{Differing}
use Rattle.held.proofs.starts_differ.Given as goal

abbrev pub invariant-loop-p : goal.invariant-loop-p
invariant-loop-p l = Differing l.starts l.n l.index l.p
