-- `lines::stop_within` meets its contract. The loop's invariant: every byte up to i is allowed. Assumes nothing.
use Rattle.lines.specs.Step.{Clean}
use Rattle.lines.proofs.stop_within.Given as goal

abbrev pub invariant-loop-i : goal.invariant-loop-i
invariant-loop-i l = Clean l.file l.at l.i
