-- `fields::number_at` meets its contract. The loop's invariant: what is asked of the whole field is asked of the columns that are left. Assumes nothing.
use mathlib.Core.Path.{◌≡◌}
use Prim.Native.Nat.{◌+◌, ◌-◌}
use Rattle.law.specs.Columns.{cells}
use Rattle.law.proofs.FieldsRead.{number_of}
use Rattle.fields.proofs.number_at.Given as goal

abbrev pub invariant-loop-i : goal.invariant-loop-i
invariant-loop-i l = number_of (cells l.line l.from l.width) ≡ number_of (cells l.line (l.from + l.i) (l.width - l.i))
