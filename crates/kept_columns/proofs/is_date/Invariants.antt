-- `kept_columns::is_date` meets its contract. The loop's invariant: what is asked of all columns is asked of those that are left. Assumes nothing.
use mathlib.Core.Path.{◌≡◌}
use Prim.Native.Nat.{◌+◌, ◌-◌}
use lib.ListN.{drop}
use Rattle.law.specs.Columns.{cells}
use Rattle.law.specs.Fields.{has_shape}
use Rattle.kept_columns.specs.Kept.{date_shape}
use Rattle.kept_columns.proofs.is_date.Given as goal

abbrev pub invariant-loop-i : goal.invariant-loop-i
invariant-loop-i l = has_shape date_shape (cells l.line l.from 10) ≡ has_shape (drop l.i date_shape) (cells l.line (l.from + l.i) (10 - l.i))
