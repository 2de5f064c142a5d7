-- `runs::step` meets its contract. Assumes nothing.
use mathlib.Core.Path.{refl, ◌∙◌}
use Prim.Native.Nat.{◌-◌}
use native.Mathlib.Omega.{arith}
use Rattle.law.specs.Items.{passed_over, kept-text, 142-record, 152-record, 162-record, 250-record, 001-record}
use Rattle.join.specs.Store.{state, step_row}
use Rattle.tables.specs.Lent.{nine_of}
use Rattle.steps.specs.Counts.{as_count}
use Rattle.runs.proofs.Sound.{too_long, by_kind, passed_on, told_kind, no_kind}
use Rattle.runs.proofs.Players.{still_indexed}
use Rattle.runs.proofs.step.Goals as goal

pub returns-then-is_skipped-clause-step : goal.returns-then-is_skipped-clause-step
returns-then-is_skipped-clause-step c =
    let a = c.args in
    λ ln end e. passed_on a.line.now end ln (as_count a.counts.now) (nine_of a.settled.now a.closing.now a.columns.now a.text.now) c.requires.clean (c.is_skipped.ensures c.if-is_skipped.true)

pub returns-then-line-gt-MOST_LINE-clause-step : goal.returns-then-line-gt-MOST_LINE-clause-step
returns-then-line-gt-MOST_LINE-clause-step c =
    let a = c.args in
    λ ln end e. too_long a.line.now end (state ln (as_count a.counts.now) (nine_of a.settled.now a.closing.now a.columns.now a.text.now)) c.requires.clean c.if-line-gt-MOST_LINE.true

pub returns-in_err-kind_of-clause-step : goal.returns-in_err-kind_of-clause-step
returns-in_err-kind_of-clause-step c =
    let a = c.args in
    λ ln end e. no_kind a.line.now end ln a.counts.now (nine_of a.settled.now a.closing.now a.columns.now a.text.now) _ _ c.from_residual.ensures.1 c.in_err-kind_of.ensures c.requires.clean c.if-line-gt-MOST_LINE.false

pub step_text-requires-clause-kept : goal.step_text-requires-clause-kept
step_text-requires-clause-kept c = told_kind c.args.line.now _ _ c.in_ok-kind_of.ensures c.in-KeptText.is

pub returns-in-PassedOver-clause-step : goal.returns-in-PassedOver-clause-step
unfolding step_row
returns-in-PassedOver-clause-step c =
    let a = c.args in
    let kind = told_kind a.line.now _ _ c.in_ok-kind_of.ensures c.in-PassedOver.is in
    λ ln end e. by_kind a.line.now end (state ln (as_count a.counts.now) (nine_of a.settled.now a.closing.now a.columns.now a.text.now)) c.requires.clean passed_over c.if-line-gt-MOST_LINE.false kind

pub returns-in-KeptText-clause-step : goal.returns-in-KeptText-clause-step
unfolding step_row
returns-in-KeptText-clause-step c =
    let a = c.args in
    let kind = told_kind a.line.now _ _ c.in_ok-kind_of.ensures c.in-KeptText.is in
    λ ln end e. c.step_text.ensures.step ln (nine_of a.settled.now a.closing.now a.columns.now a.text.now) ∙ by_kind a.line.now end (state ln (as_count a.counts.now) (nine_of a.settled.now a.closing.now a.columns.now a.text.now)) c.requires.clean kept-text c.if-line-gt-MOST_LINE.false kind

pub returns-in-KeptText-clause-indexed : goal.returns-in-KeptText-clause-indexed
unfolding step_row
returns-in-KeptText-clause-indexed c =
    let a = c.args in
    let t = nine_of a.settled.now a.closing.now a.columns.now a.text.now in
    still_indexed a.settled.now.starts.now a.index.now 0 (as_count a.counts.now) t a.line.now kept-text refl c.step_text.result c.step_text.new.counts _ (c.step_text.ensures.step 0 t) c.requires.indexed

pub returns-in-Rounds-clause-step : goal.returns-in-Rounds-clause-step
unfolding step_row
returns-in-Rounds-clause-step c =
    let a = c.args in
    let kind = told_kind a.line.now _ _ c.in_ok-kind_of.ensures c.in-Rounds.is in
    λ ln end e. c.step_rounds.ensures.step ln (nine_of a.settled.now a.closing.now a.columns.now a.text.now) ∙ by_kind a.line.now end (state ln (as_count a.counts.now) (nine_of a.settled.now a.closing.now a.columns.now a.text.now)) c.requires.clean 142-record c.if-line-gt-MOST_LINE.false kind

pub returns-in-Rounds-clause-indexed : goal.returns-in-Rounds-clause-indexed
unfolding step_row
returns-in-Rounds-clause-indexed c =
    let a = c.args in
    let t = nine_of a.settled.now a.closing.now a.columns.now a.text.now in
    still_indexed a.settled.now.starts.now a.index.now 0 (as_count a.counts.now) t a.line.now 142-record refl c.step_rounds.result c.step_rounds.new.counts _ (c.step_rounds.ensures.step 0 t) c.requires.indexed

pub returns-in-Colour-clause-step : goal.returns-in-Colour-clause-step
unfolding step_row
returns-in-Colour-clause-step c =
    let a = c.args in
    let kind = told_kind a.line.now _ _ c.in_ok-kind_of.ensures c.in-Colour.is in
    λ ln end e. c.step_colour.ensures.step ln (nine_of a.settled.now a.closing.now a.columns.now a.text.now) ∙ by_kind a.line.now end (state ln (as_count a.counts.now) (nine_of a.settled.now a.closing.now a.columns.now a.text.now)) c.requires.clean 152-record c.if-line-gt-MOST_LINE.false kind

pub returns-in-Colour-clause-indexed : goal.returns-in-Colour-clause-indexed
unfolding step_row
returns-in-Colour-clause-indexed c =
    let a = c.args in
    let t = nine_of a.settled.now a.closing.now a.columns.now a.text.now in
    still_indexed a.settled.now.starts.now a.index.now 0 (as_count a.counts.now) t a.line.now 152-record refl c.step_colour.result c.step_colour.new.counts _ (c.step_colour.ensures.step 0 t) c.requires.indexed

pub returns-in-Scoring-clause-step : goal.returns-in-Scoring-clause-step
unfolding step_row
returns-in-Scoring-clause-step c =
    let a = c.args in
    let kind = told_kind a.line.now _ _ c.in_ok-kind_of.ensures c.in-Scoring.is in
    λ ln end e. c.step_scoring.ensures.step ln (nine_of a.settled.now a.closing.now a.columns.now a.text.now) ∙ by_kind a.line.now end (state ln (as_count a.counts.now) (nine_of a.settled.now a.closing.now a.columns.now a.text.now)) c.requires.clean 162-record c.if-line-gt-MOST_LINE.false kind

pub returns-in-Scoring-clause-indexed : goal.returns-in-Scoring-clause-indexed
unfolding step_row
returns-in-Scoring-clause-indexed c =
    let a = c.args in
    let t = nine_of a.settled.now a.closing.now a.columns.now a.text.now in
    still_indexed a.settled.now.starts.now a.index.now 0 (as_count a.counts.now) t a.line.now 162-record refl c.step_scoring.result c.step_scoring.new.counts _ (c.step_scoring.ensures.step 0 t) c.requires.indexed

pub returns-in-Acceleration-clause-step : goal.returns-in-Acceleration-clause-step
unfolding step_row
returns-in-Acceleration-clause-step c =
    let a = c.args in
    let kind = told_kind a.line.now _ _ c.in_ok-kind_of.ensures c.in-Acceleration.is in
    λ ln end e. c.step_acceleration.ensures.step ln (nine_of a.settled.now a.closing.now a.columns.now a.text.now) e ∙ by_kind a.line.now end (state ln (as_count a.counts.now) (nine_of a.settled.now a.closing.now a.columns.now a.text.now)) c.requires.clean 250-record c.if-line-gt-MOST_LINE.false kind

pub returns-in-Acceleration-clause-indexed : goal.returns-in-Acceleration-clause-indexed
unfolding step_row
returns-in-Acceleration-clause-indexed c =
    let a = c.args in
    let t = nine_of a.settled.now a.closing.now a.columns.now a.text.now in
    still_indexed a.settled.now.starts.now a.index.now (a.number.0 - 1) (as_count a.counts.now) t a.line.now 250-record refl c.step_acceleration.result c.step_acceleration.new.counts _ (c.step_acceleration.ensures.step (a.number.0 - 1) t (omega arith)) c.requires.indexed

pub returns-in-Player-clause-step : goal.returns-in-Player-clause-step
unfolding step_row
returns-in-Player-clause-step c =
    let a = c.args in
    let kind = told_kind a.line.now _ _ c.in_ok-kind_of.ensures c.in-Player.is in
    λ ln end e. c.step_player.ensures.step ln a.text.now e ∙ by_kind a.line.now end (state ln (as_count a.counts.now) (nine_of a.settled.now a.closing.now a.columns.now a.text.now)) c.requires.clean 001-record c.if-line-gt-MOST_LINE.false kind
