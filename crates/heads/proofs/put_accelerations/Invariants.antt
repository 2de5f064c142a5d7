-- `heads::put_accelerations` meets its contract. The loop's invariant: the first records are put. Assumes nothing.
use Rattle.std.proofs.Common.{◌+◌, length}
use Rattle.law.specs.Writing.{acceleration_line}
use Rattle.puts.specs.Ends.{end_wide, ended_by}
use Rattle.puts.proofs.Lined.{Lined}
use Rattle.heads.specs.Lines.{acceleration_wide}
use Rattle.heads.proofs.put_accelerations.Given as goal

abbrev pub invariant-loop-a : goal.invariant-loop-a
invariant-loop-a l = Lined (λ a. ended_by l.end (acceleration_line a)) (acceleration_wide + end_wide l.end) l.records (length l.records) l.at l.initial.out l.out l.a-index l.next
