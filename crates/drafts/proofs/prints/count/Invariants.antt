-- No more cells hold the value than were looked at.
use Rattle.std.proofs.Common.{◌≤◌}
use Rattle.drafts.proofs.prints.count.Given as goal

abbrev pub invariant-loop-cell : goal.invariant-loop-cell
invariant-loop-cell g l = l.n ≤ l.cell-index
