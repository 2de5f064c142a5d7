-- `fields::points_at` meets its contract: the four columns are what the field is. Assumes nothing.
use mathlib.Core.Path.{◌≡◌, refl, sym, ap, ◌∙◌}
use mathlib.Core.Bool.{true, false}
use Rattle.fields.specs.Said.{or_bad_field}
use Rattle.law.proofs.FieldsRead.{are_points}
use Rattle.fields.proofs.Turns.{points-there, points-not}
use Rattle.fields.proofs.points_at.Goals as goal

pub returns-then-not-are_points : goal.returns-then-not-are_points
returns-then-not-are_points c =
    let a = c.args in
    let t : are_points c.column-a.result c.column-b.result c.column-c.result c.column-d.result ≡ false = sym c.are_points.ensures ∙ c.if-not-are_points.true in
    sym (ap or_bad_field (points-not a.line.now a.from _ _ _ _ c.column-a.ensures c.column-b.ensures c.column-c.ensures c.column-d.ensures t))

pub returns : goal.returns
returns c =
    let a = c.args in
    let t : are_points c.column-a.result c.column-b.result c.column-c.result c.column-d.result ≡ true = sym c.are_points.ensures ∙ c.if-not-are_points.false in
    sym (ap or_bad_field (points-there a.line.now a.from _ _ _ _ c.column-a.ensures c.column-b.ensures c.column-c.ensures c.column-d.ensures t)
    ∙ rw (← c.digit_value.ensures.0, ← c.digit_value-2.ensures.0, ← c.digit_value-3.ensures.0) refl)
