-- `glances::is_row_blank` meets its contract. The loop's invariant: the cells up to round j are zero where good says so. Assumes nothing.
use mathlib.Core.Path.{◌≡◌}
use mathlib.Core.Bool.{true}
use Prim.Native.Nat.{ℕ, ◌+◌, ◌≤◌, ◌<◌}
use lib.ListN.{get_or}
use Rattle.law.specs.Tables.{cell_of}
use Rattle.glances.proofs.is_row_blank.Given as goal

abbrev pub invariant-loop-j : goal.invariant-loop-j
invariant-loop-j l = l.good ≡ true → (k : ℕ) → k < l.j → l.from ≤ k → get_or l.colours (cell_of l.place.0 (k + 1)) 0 ≡ 0
