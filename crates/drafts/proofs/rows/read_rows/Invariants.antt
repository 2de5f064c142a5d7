-- What is read is within the room.
use Rattle.std.proofs.Common.{length, ◌-◌, ◌≤◌}
use Rattle.drafts.proofs.rows.read_rows.Given as goal

abbrev pub invariant-loop-n : goal.invariant-loop-n
invariant-loop-n g l = l.n ≤ length l.rows

abbrev pub decreases-loop-n : goal.decreases-loop-n
decreases-loop-n g l = length l.rows - l.n
