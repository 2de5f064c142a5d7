-- `rows::slot_of` meets its contract: at each answer the columns read so far say what the round is. Assumes nothing.
use mathlib.Core.Path.{◌≡◌, refl, sym, ap, ◌∙◌}
use native.Mathlib.Omega.{arith}
use Rattle.law.specs.Players.{capital}
use Rattle.law.proofs.FieldsRead.{number_of}
use Rattle.fields.specs.Said.{says}
use Rattle.fields.proofs.Cases.{is_value, is_blank_lem, is_bad}
use Rattle.rows.specs.declared.Slot.{Slot}
use Rattle.rows.specs.Rows.{result_in}
use Rattle.rows.proofs.Letters.{code_at, letter-said, letter-not}
use Rattle.rows.proofs.PlayerRounds.{refused_on, refused_number, id_bytes, colour_bad, result_bad, id_bad, wholly_blank, id-blank, id-zero, id_other}
use Rattle.rows.proofs.slot_of.Goals as goal

pub returns-then-not-is_slot_colour : goal.returns-then-not-is_slot_colour
returns-then-not-is_slot_colour c =
    colour_bad c.args.line.now c.args.round c.requires.0 c.requires.2 (sym c.is_slot_colour.ensures ∙ c.if-not-is_slot_colour.true)

pub returns-in_err-result : goal.returns-in_err-result
returns-in_err-result c =
    let code = code_at c.args.line.now c.args.round in
    refused_on _ _ c.from_residual.ensures.1 (result_in code) c.in_err-result.ensures
    ∙ result_bad c.args.line.now c.args.round c.requires.0 c.requires.2 (capital code) refl (sym c.is_slot_colour.ensures ∙ c.if-not-is_slot_colour.false) (letter-not code c.in_err-result.ensures)

pub returns-in_err-number_of : goal.returns-in_err-number_of
returns-in_err-number_of c =
    let code = code_at c.args.line.now c.args.round in
    let l = letter-said code c.in_ok-result.result c.in_ok-result.ensures in
    let n = number_of (id_bytes c.args.line.now c.args.round) in
    refused_number _ _ c.from_residual-in_err-number_of.ensures.1 n c.in_err-number_of.ensures
    ∙ id_bad c.args.line.now c.args.round c.requires.0 c.requires.2 (capital code) refl (sym c.is_slot_colour.ensures ∙ c.if-not-is_slot_colour.false) l.1 (is_bad n (sym c.in_err-number_of.ensures))

pub returns-in-Some-eq0 : goal.returns-in-Some-eq0
returns-in-Some-eq0 c =
    let code = code_at c.args.line.now c.args.round in
    let l = letter-said code c.in_ok-result.result c.in_ok-result.ensures in
    let n-is = is_value (number_of (id_bytes c.args.line.now c.args.round)) c.in-Some-eq0.field-0 (sym (rw c.in-Some-eq0.is at c.in_ok-number_of.ensures)) in
    ap (λ (s : Slot). says s) (c.bye_of.ensures (capital code) l.1 l.0)
    ∙ id-zero c.args.line.now c.args.round c.requires.0 c.requires.2 (capital code) refl (sym c.is_slot_colour.ensures ∙ c.if-not-is_slot_colour.false) l.1 c.in-Some-eq0.field-0 n-is c.in-Some-eq0.field-0-test

pub returns-in-Some : goal.returns-in-Some
returns-in-Some c =
    let code = code_at c.args.line.now c.args.round in
    let l = letter-said code c.in_ok-result.result c.in_ok-result.ensures in
    let n-is = is_value (number_of (id_bytes c.args.line.now c.args.round)) c.in-Some.id (sym (rw c.in-Some.is at c.in_ok-number_of.ensures)) in
    let other : c.in-Some.id ≡ 0 → ⊥ = omega arith in
    rw l.0 (id_other c.args.line.now c.args.round c.requires.0 c.requires.2 (capital code) refl (sym c.is_slot_colour.ensures ∙ c.if-not-is_slot_colour.false) l.1 c.in-Some.id n-is other)

pub returns-in-None : goal.returns-in-None
returns-in-None c =
    let code = code_at c.args.line.now c.args.round in
    let l = letter-said code c.in_ok-result.result c.in_ok-result.ensures in
    let n-is = is_blank_lem (number_of (id_bytes c.args.line.now c.args.round)) (sym (rw c.in-None.is at c.in_ok-number_of.ensures)) in
    ap (λ (s : Slot). says s) (c.bye_of-in-None.ensures (capital code) l.1 l.0)
    ∙ id-blank c.args.line.now c.args.round c.requires.0 c.requires.2 (capital code) refl (sym c.is_slot_colour.ensures ∙ c.if-not-is_slot_colour.false) l.1 n-is c.is_used.result c.is_used.ensures c.if-is_used.true

pub returns-in-None-2 : goal.returns-in-None-2
returns-in-None-2 c =
    let code = code_at c.args.line.now c.args.round in
    let l = letter-said code c.in_ok-result.result c.in_ok-result.ensures in
    let n-is = is_blank_lem (number_of (id_bytes c.args.line.now c.args.round)) (sym (rw c.in-None.is at c.in_ok-number_of.ensures)) in
    wholly_blank c.args.line.now c.args.round c.requires.0 c.requires.2 (capital code) refl (sym c.is_slot_colour.ensures ∙ c.if-not-is_slot_colour.false) l.1 n-is c.is_used.result c.is_used.ensures c.if-is_used.false
