-- `kept_columns::kept_of` meets its contract. Assumes nothing.
use mathlib.Core.Path.{◌≡◌, ◌∙◌, sym, ap}
use mathlib.Core.List.{List, [], ◌++◌}
use Prim.Native.Nat.{ℕ, ◌-◌}
use lib.ListN.{length, drop, replicate, drop_of_length-le, length-drop}
use lib.Seq.{take_all}
use native.Mathlib.Omega.{arith}
use Rattle.law.specs.Columns.{blank}
use Rattle.kept_columns.proofs.KeptColumns.{all_there, some-there}
use Rattle.kept_columns.proofs.kept_of.Goals as goal

pub returns-then-line-ge-KEPT_END : goal.returns-then-line-ge-KEPT_END
returns-then-line-ge-KEPT_END c = c.widened.ensures ∙ all_there c.args.line.now 9 70

pub returns-then-line-ge-BEFORE_KEPT : goal.returns-then-line-ge-BEFORE_KEPT
returns-then-line-ge-BEFORE_KEPT c =
    let line = c.args.line.now in
    c.widened-then-line-ge-BEFORE_KEPT.ensures
    ∙ ap (λ (l : List ℕ). l ++ replicate (70 - length l) blank) (take_all (length line - 9) (drop 9 line) (omega (arith, length-drop 9 line)))
    ∙ some-there line 9 70 (omega arith)

pub returns-else-line-ge-BEFORE_KEPT : goal.returns-else-line-ge-BEFORE_KEPT
returns-else-line-ge-BEFORE_KEPT c =
    let line = c.args.line.now in
    let nothing : drop 9 line ≡ [] = drop_of_length-le line {i = 9} (omega arith) in
    c.widened-else-line-ge-BEFORE_KEPT.ensures
    ∙ ap (λ (l : List ℕ). l ++ replicate (70 - length l) blank) (sym nothing) ∙ some-there line 9 70 (omega arith)
