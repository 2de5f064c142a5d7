-- `fields::digits_at` meets its contract. The loop's invariant: what is asked of the whole field is asked of the columns that are left, after digits
-- that are worth n. Assumes nothing.
use mathlib.Core.Path.{◌≡◌}
use Prim.Native.Nat.{◌<◌, ◌+◌, ◌-◌, ◌^◌}
use Rattle.law.specs.Columns.{cells}
use Rattle.law.proofs.FieldsRead.{digits_from}
use Rattle.fields.proofs.digits_at.Given as goal

abbrev pub invariant-loop-i : goal.invariant-loop-i
invariant-loop-i l =
    (l.n < 10 ^ l.i) × (digits_from 0 (cells l.line l.from l.width) ≡ digits_from l.n (cells l.line (l.from + l.i) (l.width - l.i)))
