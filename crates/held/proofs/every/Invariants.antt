-- `held::every` meets its contract. The loop's invariant: each number up to i passes where good says so, and else one does not. Assumes nothing.
use Rattle.held.proofs.Runs.{Passed}
use Rattle.held.proofs.every.Given as goal

abbrev pub invariant-loop-i : goal.invariant-loop-i
invariant-loop-i g l = Passed (goal.F-post g l.passes) l.from l.to l.i l.good
