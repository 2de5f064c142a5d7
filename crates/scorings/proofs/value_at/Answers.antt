-- `scorings::value_at` meets its contract. Assumes nothing.
use mathlib.Core.Path.{◌≡◌, sym, ap, ◌∙◌}
use mathlib.Core.Option.{none}
use native.Mathlib.Omega.{arith}
use Prim.Native.Nat.{ℕ, ◌+◌}
use Rattle.std.proofs.Common.{Some, None}
use Rattle.law.specs.Columns.{cells}
use Rattle.law.proofs.FieldsRead.{points_of}
use Rattle.kit.specs.Decides.{to}
use Rattle.types.specs.declared.Fault.{Fault}
use Rattle.types.specs.declared.Fault.TheVariants.{BadField}
use Rattle.types.specs.Faults.{number_of}
use Rattle.fields.specs.Said.{refuses, or_bad_field}
use Rattle.fields.proofs.Cases.{value-said, handed_on}
use Rattle.scorings.proofs.ScoringSlots.{no-letter, letter-points}
use Rattle.scorings.proofs.value_at.Goals as goal

pub returns-in_err-place : goal.returns-in_err-place
returns-in_err-place c =
    let a = c.args in
    let no : c.letter_place.result ≡ None = grind arith in
    let bad : c.in_err-place.field-0.0 ≡ BadField = grind arith in
    handed_on _ _ c.from_residual.ensures.1 none none (ap (λ (e : Fault). refuses (number_of e)) bad) (λ n. n)
    ∙ sym (ap or_bad_field (no-letter a.line.now a.from _ c.column.ensures (sym c.letter_place.ensures ∙ no)))

pub returns-in_err-points : goal.returns-in_err-points
returns-in_err-points c =
    let a = c.args in
    let k = c.in_ok-place.place in
    let found : c.letter_place.result ≡ Some k = grind arith in
    handed_on _ _ c.from_residual-in_err-points.ensures.1 (points_of (cells a.line.now (a.from + 1) 4)) (to (λ (p : ℕ). (k, p)) (points_of (cells a.line.now (a.from + 1) 4))) c.in_err-points.ensures (λ n. ap (to (λ (p : ℕ). (k, p))) n)
    ∙ sym (ap or_bad_field (letter-points a.line.now a.from _ c.column.ensures (sym c.letter_place.ensures ∙ found)))

pub returns : goal.returns
returns c =
    let a = c.args in
    let k = c.in_ok-place.place in
    let found : c.letter_place.result ≡ Some k = grind arith in
    sym (ap or_bad_field (letter-points a.line.now a.from _ c.column.ensures (sym c.letter_place.ensures ∙ found) ∙ ap (to (λ (p : ℕ). (k, p))) (value-said _ _ (sym c.in_ok-points.ensures))))
