-- `scorings::slots_given` meets its contract. The loop's invariant: the slots from the i-th on are given. Assumes nothing.
use mathlib.Core.Path.{◌≡◌}
use lib.ListN.{drop}
use Rattle.fields.specs.Said.{says}
use Rattle.scorings.specs.Scoring.{slots_in, slots_give}
use Rattle.scorings.proofs.slots_given.Given as goal

abbrev pub invariant-loop-i : goal.invariant-loop-i
invariant-loop-i l = says l.given ≡ slots_give (drop l.i (slots_in l.line))
