-- `fields::blank_at` meets its contract. The loop's invariant: what is asked of the whole field is asked of the columns that are left. Assumes nothing.
use mathlib.Core.Path.{◌≡◌}
use Prim.Native.Nat.{◌+◌, ◌-◌}
use Rattle.kit.specs.Lists.{all}
use Rattle.law.specs.Columns.{is_blank, cells}
use Rattle.fields.proofs.blank_at.Given as goal

abbrev pub invariant-loop-i : goal.invariant-loop-i
invariant-loop-i l = all is_blank (cells l.line l.from l.width) ≡ all is_blank (cells l.line (l.from + l.i) (l.width - l.i))
