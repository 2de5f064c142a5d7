-- What is read is within the room.
use Rattle.std.proofs.Common.{length, ◌-◌, ◌≤◌}
use Rattle.listed.proofs.read_input.Given as goal

abbrev pub invariant-loop-n : goal.invariant-loop-n
invariant-loop-n g l = l.n ≤ length l.file

abbrev pub decreases-loop-n : goal.decreases-loop-n
decreases-loop-n g l = length l.file - l.n
