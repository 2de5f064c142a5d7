-- A line of the file that has its terminator, and what the run over the lines leaves.
use Rattle.std.specs.Prelude.{◌≡◌, List, ℕ, ◌-◌, ◌≤◌, length, Result, Ok, Err}
use Rattle.std.proofs.Math.Option.{some}
use Rattle.types.specs.declared.Refusal.{Refusal}
use Rattle.types.specs.Faults.{number_of}
use Rattle.law.specs.Sizes.{most_line}
use Rattle.law.specs.Lines.{Line, End}
use Rattle.law.specs.Items.{kind_of, passed_over}
use Rattle.join.specs.Run.{Way, on, stop}
use Rattle.join.specs.Store.{Nine, State, state}
use Rattle.steps.specs.declared.counts.Counts.{Counts}
use Rattle.steps.specs.Counts.{as_count}

abbrev pub line_of : List ℕ → End → Line
line_of text end = record { text = text; end = some end }

-- a line that is passed over, and is not too long
pub record Skipped (text : List ℕ) : Type 0 where
  pub short : length text ≤ most_line
  pub passed : kind_of text ≡ passed_over

-- what the lines left: the state after all of them, or the line that is refused, by what, and the state before it
abbrev pub ran : Result ℕ Refusal → Counts → Nine → Way State (ℕ × ℕ)
ran (Ok n) c t = on (state n (as_count c) t)
ran (Err r) c t = stop (r.line.0, number_of r.fault) (state (r.line.0 - 1) (as_count c) t)
