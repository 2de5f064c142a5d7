-- `steps::step_colour` meets its contract. Assumes nothing.
use mathlib.Core.Path.{refl, sym, ◌∙◌}
use borrow.Author.Tests.{eq-eqb, ne_eqb}
use Rattle.law.proofs.RecordsRead.{colour_of}
use Rattle.fields.proofs.Cases.{value-said}
use Rattle.join.specs.Store.{count_colour}
use Rattle.steps.specs.Counts.{as_count}
use Rattle.steps.proofs.Went.{handed, colour_bad, colour-again, colour-on}
use Rattle.steps.proofs.step_colour.Goals as goal

pub returns-in_err-colour-clause-step : goal.returns-in_err-colour-clause-step
returns-in_err-colour-clause-step c =
    λ ln t. let h = handed (colour_of c.args.line.now) _ _ c.from_residual.ensures.1 c.in_err-colour.ensures ln c.args.counts.now t in
    h.0 ∙ colour_bad ln (as_count c.args.counts.now) t _ h.1

pub returns-then-counts-ne0-clause-step : goal.returns-then-counts-ne0-clause-step
returns-then-counts-ne0-clause-step c =
    λ ln t. colour-again ln (as_count c.args.counts.now) t _ _ (value-said _ _ (sym c.in_ok-colour.ensures)) (ne_eqb c.args.counts.now.colour 0 c.if-counts-ne0.true)

pub returns-clause-step : goal.returns-clause-step
unfolding count_colour
returns-clause-step c =
    λ ln t. colour-on ln (as_count c.args.counts.now) t _ _ (value-said _ _ (sym c.in_ok-colour.ensures)) (eq-eqb c.args.counts.now.colour 0 c.if-counts-ne0.false) refl
