-- `steps::step_scoring` meets its contract. Assumes nothing.
use mathlib.Core.Path.{sym, ap, ◌∙◌}
use Rattle.law.proofs.RecordsRead.{given_of}
use Rattle.scorings.specs.declared.Scoring.{Scoring}
use Rattle.scorings.specs.Scoring.{scored, values_of}
use Rattle.kit.specs.Decides.{to}
use Rattle.join.specs.Store.{count_scoring}
use Rattle.steps.specs.Counts.{as_count}
use Rattle.steps.proofs.Answers.{value_there, to_none}
use Rattle.steps.proofs.Went.{handed, scoring_bad, scoring-again, scoring-on}
use Rattle.steps.proofs.step_scoring.Goals as goal

pub returns-in_err-scoring-clause-step : goal.returns-in_err-scoring-clause-step
returns-in_err-scoring-clause-step c =
    λ ln t. let h = handed (to scored (given_of c.args.line.now)) _ _ c.from_residual.ensures.1 c.in_err-scoring.ensures ln c.args.counts.now t in
    h.0 ∙ scoring_bad ln (as_count c.args.counts.now) t _ (to_none scored _ h.1)

pub returns-then-is_some-clause-step : goal.returns-then-is_some-clause-step
returns-then-is_some-clause-step c =
    let h = value_there scored (given_of c.args.line.now) _ (sym c.in_ok-scoring.ensures) in
    λ ln t. scoring-again ln (as_count c.args.counts.now) t _ h.0 h.1.0 (sym c.is_some.ensures ∙ c.if-is_some.true)

pub returns-clause-step : goal.returns-clause-step
unfolding count_scoring values_of
returns-clause-step c =
    let h = value_there scored (given_of c.args.line.now) _ (sym c.in_ok-scoring.ensures) in
    λ ln t. scoring-on ln (as_count c.args.counts.now) t _ h.0 h.1.0 (sym c.is_some.ensures ∙ c.if-is_some.false) (ap (λ (s : Scoring). count_scoring s.values (as_count c.args.counts.now)) h.1.1)
