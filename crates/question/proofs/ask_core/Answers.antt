-- `question::ask_core` meets its contract. Assumes nothing.
use mathlib.Core.Path.{sym, ◌∙◌}
use Rattle.law.specs.Calls.{score_answer}
use Rattle.lawful.specs.Given.{tables_of}
use Rattle.question.proofs.Asked.{core_short, core_unread, core_outside, core_inside}
use Rattle.question.proofs.ask_core.Goals as goal

pub returns-then-not-enough : goal.returns-then-not-enough
returns-then-not-enough c =
    let a = c.args in
    let t = tables_of a.starts.now a.points.now a.ranks.now a.kept.now a.opponents.now a.colours.now a.results.now a.text.now a.accelerations.now in
    core_short a.answer t a.place a.round (sym c.enough.ensures ∙ c.if-not-enough.true) c.refused.ensures

pub returns-then-not-is_reading : goal.returns-then-not-is_reading
returns-then-not-is_reading c =
    let a = c.args in
    let t = tables_of a.starts.now a.points.now a.ranks.now a.kept.now a.opponents.now a.colours.now a.results.now a.text.now a.accelerations.now in
    core_unread a.answer t c.carried-records.ensures.enough a.place a.round (sym c.enough.ensures ∙ c.if-not-enough.false) c.is_reading.ensures c.if-not-is_reading.true c.refused-then-not-is_reading.ensures

pub returns-then-not-is_inside : goal.returns-then-not-is_inside
returns-then-not-is_inside c =
    let a = c.args in
    let t = tables_of a.starts.now a.points.now a.ranks.now a.kept.now a.opponents.now a.colours.now a.results.now a.text.now a.accelerations.now in
    core_outside a.answer t c.carried-records.ensures.enough a.place a.round (sym c.enough.ensures ∙ c.if-not-enough.false) c.is_reading.ensures c.if-not-is_reading.false (sym c.is_inside.ensures ∙ c.if-not-is_inside.true)
    c.refused-then-not-is_inside.ensures

pub returns : goal.returns
unfolding score_answer
returns c =
    let a = c.args in
    let t = tables_of a.starts.now a.points.now a.ranks.now a.kept.now a.opponents.now a.colours.now a.results.now a.text.now a.accelerations.now in
    core_inside a.answer t c.carried-records.ensures.enough a.place a.round (sym c.enough.ensures ∙ c.if-not-enough.false) c.is_reading.ensures c.if-not-is_reading.false (sym c.is_inside.ensures ∙ c.if-not-is_inside.false) c.sum_of.ensures
    c.start_at-start.ensures c.acceleration_for.ensures
