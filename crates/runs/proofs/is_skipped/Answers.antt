-- `runs::is_skipped` meets its contract. Assumes nothing.
use mathlib.Core.Path.{sym, ◌∙◌}
use borrow.Author.Tests.{leb-true}
use Rattle.runs.proofs.Sound.{passed_kind, empty_skipped}
use Rattle.runs.proofs.is_skipped.Goals as goal

pub returns-then-line-eq0 : goal.returns-then-line-eq0
returns-then-line-eq0 c = λ _. empty_skipped _ c.if-line-eq0.true

pub returns-then-is_passed : goal.returns-then-is_passed
returns-then-is_passed c = λ e.
    record {
      short = leb-true _ _ e;
      passed = passed_kind _ (sym c.is_passed.ensures ∙ c.if-is_passed.true);
    }
