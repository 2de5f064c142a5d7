-- `steps::step_acceleration` meets its contract. Assumes nothing.
use mathlib.Core.Path.{refl, sym, ap, ◌∙◌}
use native.Mathlib.Omega.{arith}
use lib.ListN.{set}
use borrow.Author.Tests.{lt-ltb, le-ltb}
use Rattle.law.specs.Sizes.{most_accelerations}
use Rattle.law.proofs.RecordsRead.{acceleration_of}
use Rattle.fields.proofs.Cases.{value-said}
use Rattle.join.specs.Store.{count_acceleration}
use Rattle.steps.specs.Counts.{as_count, with_lines}
use Rattle.steps.proofs.Went.{handed, acceleration_bad, acceleration_full, acceleration-on}
use Rattle.steps.proofs.step_acceleration.Goals as goal

pub returns-in_err-record-clause-step : goal.returns-in_err-record-clause-step
returns-in_err-record-clause-step c =
    λ ln t e. let h = handed (acceleration_of c.args.line.now) _ _ c.from_residual.ensures.1 c.in_err-record.ensures ln c.args.counts.now (with_lines t c.args.lines.now) in
    h.0 ∙ acceleration_bad ln (as_count c.args.counts.now) (with_lines t c.args.lines.now) _ h.1

pub returns-then-n-eq-MOST_ACCELERATIONS-clause-step : goal.returns-then-n-eq-MOST_ACCELERATIONS-clause-step
returns-then-n-eq-MOST_ACCELERATIONS-clause-step c =
    λ ln t e. acceleration_full ln (as_count c.args.counts.now) (with_lines t c.args.lines.now) _ _ (value-said _ _ (sym c.in_ok-record.ensures)) (lt-ltb most_accelerations _ (omega (arith, c.if-n-eq-MOST_ACCELERATIONS.true)))

pub returns-clause-step : goal.returns-clause-step
unfolding count_acceleration
returns-clause-step c =
    λ ln t e. acceleration-on ln (as_count c.args.counts.now) (with_lines t c.args.lines.now) _ _ (value-said _ _ (sym c.in_ok-record.ensures)) (le-ltb most_accelerations _ (omega (arith, c.if-n-eq-MOST_ACCELERATIONS.false, c.requires.few)))
    refl (c.store_record_line.ensures ∙ ap (set c.args.lines.now _) e)
