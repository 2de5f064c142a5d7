-- `runs::run` meets its contract. The loop's invariant: what is left of the run is the whole run, and the tables are those that were lent. Assumes nothing.
use Prim.Native.Nat.{◌-◌, ◌≤◌}
use lib.ListN.{length}
use Rattle.law.specs.Sizes.{most_text}
use Rattle.tables.specs.Lent.{nine_of, SameSettled, SameClosing, SameColumns}
use Rattle.steps.specs.Counts.{Small}
use Rattle.runs.proofs.Going.{Going}
use Rattle.runs.proofs.run.Given as goal

abbrev pub invariant-loop-line : goal.invariant-loop-line
invariant-loop-line l =
    record {
      same_settled : SameSettled l.initial.settled l.settled;
      same_closing : SameClosing l.initial.closing l.closing;
      same_columns : SameColumns l.initial.columns l.columns;
      long : most_text ≤ length l.text;
      room : Small l.counts;
      going : Going l.file (nine_of l.initial.settled l.initial.closing l.initial.columns l.initial.text) l.initial.counts (nine_of l.settled l.closing l.columns l.text) l.index l.counts l.cursor.at l.number;
    }

abbrev pub decreases-loop-line : goal.decreases-loop-line
decreases-loop-line l = length l.file - l.cursor.at
