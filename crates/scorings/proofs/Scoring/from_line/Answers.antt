-- `scorings::Scoring::from_line` meets its contract. Assumes nothing.
use mathlib.Core.Path.{◌≡◌, sym, ap, ◌∙◌}
use mathlib.Core.Option.{none}
use native.Mathlib.Omega.{arith}
use Rattle.std.specs.Prelude.{Option as Maybe, Some, None}
use Rattle.kit.specs.Decides.{to}
use Rattle.law.proofs.RecordsRead.{given_of}
use Rattle.types.specs.declared.Fault.{Fault}
use Rattle.types.specs.declared.Fault.TheVariants.{BadField}
use Rattle.types.specs.Faults.{number_of}
use Rattle.fields.specs.Said.{says, refuses, or_bad_field}
use Rattle.scorings.specs.declared.Given.{Given}
use Rattle.fields.proofs.Cases.{handed_on}
use Rattle.scorings.specs.Scoring.{differing, slots_in, if_filled, scored}
use Rattle.scorings.proofs.ScoringSlots.{none_given, none_filled, some_filled}
use Rattle.scorings.proofs.Scoring.from_line.Goals as goal

pub returns-in_err-slots_given : goal.returns-in_err-slots_given
returns-in_err-slots_given c =
    let row = c.args.line.now in
    let blank = sym c.scoring_else_blank.ensures ∙ c.if-not-scoring_else_blank.false in
    handed_on _ _ c.from_residual.ensures.1 (to if_filled (differing (slots_in row))) (to scored (given_of row)) c.in_err-slots_given.ensures
    (λ _. none_given row blank c.in_err-slots_given.ensures)

pub returns-in_err-given : goal.returns-in_err-given
returns-in_err-given c =
    let row = c.args.line.now in
    let blank = sym c.scoring_else_blank.ensures ∙ c.if-not-scoring_else_blank.false in
    let no : c.in_ok-slots_given.field-0 ≡ None = grind arith in
    let bad : c.in_err-given.field-0.0 ≡ BadField = grind arith in
    handed_on _ _ c.from_residual-in_err-given.ensures.1 none none (ap (λ (e : Fault). refuses (number_of e)) bad) (λ n. n)
    ∙ sym (ap or_bad_field (none_filled row blank (ap (λ (g : Maybe Given). says g) (sym no) ∙ c.in_ok-slots_given.ensures)))

pub returns : goal.returns
returns c =
    let blank = sym c.scoring_else_blank.ensures ∙ c.if-not-scoring_else_blank.false in
    let is : c.in_ok-slots_given.field-0 ≡ Some c.in_ok-given.given = grind arith in
    some_filled c.args.line.now blank (ap (λ (g : Maybe Given). says g) (sym is) ∙ c.in_ok-slots_given.ensures)
