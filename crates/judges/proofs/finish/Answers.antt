-- `judges::finish` meets its contract. Assumes nothing.
use mathlib.Core.Path.{sym, ◌∙◌}
use Rattle.judges.proofs.finish.Goals as goal

pub returns-clause-verdict : goal.returns-clause-verdict
returns-clause-verdict c =
    let before = c.shared-before.ensures in
    let after = c.shared-after.ensures in
    λ x y colours lines e0 e1 e2 e3 e4 e5.
    c.judge-verdict.ensures x y e0 e1 e2 (e3 ∙ sym after.colours) (e4 ∙ sym after.results) e5 lines (rw (colours ∙ sym before.colours, lines) c.past-past.ensures)
