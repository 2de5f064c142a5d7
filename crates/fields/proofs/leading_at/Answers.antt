-- `fields::leading_at` meets its contract: the first column decides whether there are digits at all. Assumes nothing.
use native.Mathlib.Omega.{arith}
use mathlib.Core.Path.{sym, ap, ◌∙◌}
use Prim.Native.Nat.{ℕ}
use Rattle.law.specs.Columns.{cells}
use Rattle.law.specs.Fields.{is_digit}
use Rattle.law.proofs.FieldsRead.{leading_of}
use Rattle.fields.specs.Said.{or_bad_field}
use Rattle.fields.proofs.Columns.{cells-nil}
use Rattle.fields.proofs.Turns.{leading-first, leading-none}
use Rattle.fields.proofs.leading_at.Goals as goal
use Rattle.fields.proofs.leading_at.Goals.{then-width-eq0-via-then-width-eq0, then-width-eq0-via-else-width-eq0+then-not-is_digit}

pub returns-then-width-eq0 : goal.returns-then-width-eq0
returns-then-width-eq0 c =
    let a = c.args in
    elim c.then-width-eq0.branch [
      | then-width-eq0-via-then-width-eq0 w ↦
          sym (ap (λ (w : ℕ). or_bad_field (leading_of (cells a.line.now a.from w))) w.if-width-eq0.true ∙ ap (λ l. or_bad_field (leading_of l)) (cells-nil a.line.now a.from))
      | then-width-eq0-via-else-width-eq0+then-not-is_digit w ↦
          let e = sym (ap is_digit w.column.ensures) ∙ sym w.is_digit.ensures ∙ w.if-not-is_digit.true in
          sym (ap or_bad_field (leading-none a.line.now a.from a.width (omega (arith, w.if-width-eq0.false)) e))
    ]

pub returns : goal.returns
returns c =
    let a = c.args in
    let e = sym (ap is_digit c.column.ensures) ∙ sym c.is_digit.ensures ∙ c.if-not-is_digit.false in
    c.leading_from.ensures ∙ sym (ap or_bad_field (leading-first a.line.now a.from a.width (omega (arith, c.if-width-eq0.false)) e))
