-- `lines::cr_from` meets its contract. The loop's invariant: from `at` up to i there is no CR. Assumes nothing.
use Rattle.lines.specs.Step.{NoCR}
use Rattle.lines.proofs.cr_from.Given as goal

abbrev pub invariant-loop-i : goal.invariant-loop-i
invariant-loop-i l = NoCR l.file l.at l.i
