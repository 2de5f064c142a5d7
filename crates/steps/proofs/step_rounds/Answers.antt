-- `steps::step_rounds` meets its contract. Assumes nothing.
use mathlib.Core.Path.{refl, sym, ◌∙◌}
use Rattle.law.proofs.RecordsRead.{rounds_of_row}
use Rattle.fields.proofs.Cases.{value-said}
use Rattle.join.specs.Store.{count_rounds}
use Rattle.steps.specs.Counts.{as_count}
use Rattle.steps.proofs.Went.{handed, rounds_bad, rounds-again, rounds-on}
use Rattle.steps.proofs.step_rounds.Goals as goal

pub returns-in_err-rounds-clause-step : goal.returns-in_err-rounds-clause-step
returns-in_err-rounds-clause-step c =
    λ ln t. let h = handed (rounds_of_row c.args.line.now) _ _ c.from_residual.ensures.1 c.in_err-rounds.ensures ln c.args.counts.now t in
    h.0 ∙ rounds_bad ln (as_count c.args.counts.now) t _ h.1

pub returns-then-is_some-clause-step : goal.returns-then-is_some-clause-step
returns-then-is_some-clause-step c =
    λ ln t. rounds-again ln (as_count c.args.counts.now) t _ _ (value-said _ _ (sym c.in_ok-rounds.ensures)) (sym c.is_some.ensures ∙ c.if-is_some.true)

pub returns-clause-step : goal.returns-clause-step
unfolding count_rounds
returns-clause-step c =
    λ ln t. rounds-on ln (as_count c.args.counts.now) t _ _ (value-said _ _ (sym c.in_ok-rounds.ensures)) (sym c.is_some.ensures ∙ c.if-is_some.false) refl
