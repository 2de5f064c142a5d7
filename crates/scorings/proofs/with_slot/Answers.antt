-- `scorings::with_slot` meets its contract: each answer is what one slot more gives. Assumes nothing.
use mathlib.Core.Path.{sym, ◌∙◌}
use mathlib.Core.List.{◌∷◌}
use Rattle.kit.specs.Decides.{to}
use Rattle.law.specs.Columns.{cells}
use Rattle.law.proofs.RecordsRead.{value_of}
use Rattle.fields.proofs.Cases.{handed_on}
use Rattle.scorings.specs.Scoring.{differing, placed, if_filled}
use Rattle.scorings.proofs.ScoringSlots.{slot_place, blank_late, blank_more, slot_bad, slot_more}
use Rattle.scorings.proofs.with_slot.Goals as goal

pub returns-then-is_some : goal.returns-then-is_some
returns-then-is_some c = λ after said. blank_late (cells c.args.line.now c.args.from 5) after c.args.given said (sym c.blank_at.ensures ∙ c.if-blank_at.true) (sym c.is_some.ensures ∙ c.if-is_some.true)

pub returns-else-is_some : goal.returns-else-is_some
returns-else-is_some c = λ after said. blank_more (cells c.args.line.now c.args.from 5) after c.args.given said (sym c.blank_at.ensures ∙ c.if-blank_at.true) (sym c.is_some.ensures ∙ c.if-is_some.false)

pub returns-in_err-place : goal.returns-in_err-place
returns-in_err-place c =
    let slot = cells c.args.line.now c.args.from 5 in
    λ after said. handed_on _ _ c.from_residual.ensures.1 (to placed (value_of slot)) (to if_filled (differing (slot ∷ after))) c.in_err-place.ensures
    (λ _. slot_bad slot after c.args.given said (sym c.blank_at.ensures ∙ c.if-blank_at.false) c.in_err-place.ensures)

pub with-requires : goal.with-requires
with-requires c = slot_place (cells c.args.line.now c.args.from 5) _ _ c.in_ok-place.ensures

pub returns : goal.returns
returns c =
    λ after said. slot_more (cells c.args.line.now c.args.from 5) after c.args.given said (sym c.blank_at.ensures ∙ c.if-blank_at.false) c.in_ok-place.ensures c.unwrap_or.ensures _ _ c.with.ensures c.map.ensures.cases
