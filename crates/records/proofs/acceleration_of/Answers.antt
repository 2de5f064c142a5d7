-- `records::acceleration_of` meets its contract: at each answer the fields read so far say what the line is. Assumes nothing.
use mathlib.Core.Path.{refl, sym, ap, ◌∙◌}
use mathlib.Core.Bool.{true, false}
use mathlib.Core.Option.{none, some}
use Rattle.fields.proofs.Cases.{value-said, handed_on}
use Rattle.fields.specs.Said.{or_bad_field}
use Rattle.law.proofs.RecordsRead.{acceleration_of}
use Rattle.records.proofs.Accelerations.{acceleration_by, acceleration_in_lem}
use Rattle.records.proofs.acceleration_of.Goals as goal

pub returns-in_err-points : goal.returns-in_err-points
returns-in_err-points c =
    let gaps = sym c.acceleration_else_blank.ensures ∙ c.if-not-acceleration_else_blank.false in
    handed_on _ _ c.from_residual.ensures.1 _ (acceleration_of c.args.line.now) c.in_err-points.ensures (λ n. acceleration_by c.args.line.now true none _ _ gaps n refl refl)

pub returns-in_err-first_round : goal.returns-in_err-first_round
returns-in_err-first_round c =
    let gaps = sym c.acceleration_else_blank.ensures ∙ c.if-not-acceleration_else_blank.false in
    handed_on _ _ c.from_residual-in_err-first_round.ensures.1 _ (acceleration_of c.args.line.now) c.in_err-first_round.ensures
    (λ n. acceleration_by c.args.line.now true (some _) none _ gaps (value-said _ _ (sym c.in_ok-points.ensures)) n refl)

pub returns-in_err-first : goal.returns-in_err-first
returns-in_err-first c =
    let gaps = sym c.acceleration_else_blank.ensures ∙ c.if-not-acceleration_else_blank.false in
    handed_on _ _ c.from_residual-in_err-first.ensures.1 _ (acceleration_of c.args.line.now) c.in_err-first.ensures
    (λ n. acceleration_by c.args.line.now true (some _) (some _) none gaps (value-said _ _ (sym c.in_ok-points.ensures)) (value-said _ _ (sym c.in_ok-first_round.ensures)) n)

pub returns-then-not-is_acceleration : goal.returns-then-not-is_acceleration
returns-then-not-is_acceleration c =
    sym (ap or_bad_field (acceleration_in_lem c.args.line.now _ _ _ false (sym c.acceleration_else_blank.ensures ∙ c.if-not-acceleration_else_blank.false)
    (value-said _ _ (sym c.in_ok-points.ensures)) (value-said _ _ (sym c.in_ok-first_round.ensures)) (value-said _ _ (sym c.in_ok-first.ensures))
    (sym c.is_acceleration.ensures ∙ c.if-not-is_acceleration.true)))
