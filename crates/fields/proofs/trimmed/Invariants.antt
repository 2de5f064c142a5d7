-- `fields::trimmed` meets its contract. The loop's invariant: the bytes up to the one that is looked at, without their trailing blanks, are what the line is without
-- its own. Assumes nothing.
use mathlib.Core.Path.{◌≡◌}
use lib.ListN.{take}
use Rattle.law.proofs.FieldsRead.{trim}
use Rattle.fields.proofs.trimmed.Given as goal

abbrev pub invariant-loop-n : goal.invariant-loop-n
invariant-loop-n l = trim l.line ≡ trim (take l.n l.line)
