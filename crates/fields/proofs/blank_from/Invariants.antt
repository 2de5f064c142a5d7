-- `fields::blank_from` meets its contract. The loop's invariant: what is asked of all that follows is asked of what is left. Assumes nothing.
use mathlib.Core.Path.{◌≡◌}
use lib.ListN.{drop}
use Rattle.kit.specs.Lists.{all}
use Rattle.law.specs.Columns.{is_blank}
use Rattle.fields.proofs.blank_from.Given as goal

abbrev pub invariant-loop-k : goal.invariant-loop-k
invariant-loop-k l = all is_blank (drop l.i l.line) ≡ all is_blank (drop l.k l.line)
