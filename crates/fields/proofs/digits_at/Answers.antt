use native.Mathlib.Omega.{arith}
use mathlib.Core.Path.{sym, ap, ◌∙◌}
use Prim.Native.Nat.{ℕ, ◌+◌, ◌*◌, ◌-◌}
use Rattle.law.specs.Columns.{cells}
use Rattle.law.proofs.FieldsRead.{the_number, digits_from}
use Rattle.fields.specs.Said.{or_bad_field}
use Rattle.fields.proofs.Columns.{ends}
use Rattle.fields.proofs.Turns.{digits_more, digits-stop, digit-small, worth_more, worth-fits}
use Rattle.fields.proofs.digits_at.Goals as goal

pub returns-then-not-is_digit : goal.returns-then-not-is_digit
returns-then-not-is_digit c =
    let a = c.args in
    let x = c.column-c in
    sym (ap (λ r. or_bad_field (the_number r)) (c.loop-i.invariant.1 ∙ digits-stop a.line.now a.from a.width c.loop-i.i x.result c.loop-i-test.true x.ensures c.loop-i.n (sym c.is_digit.ensures ∙ c.if-not-is_digit.true)))

pub overflow_mul-n : goal.overflow_mul-n
overflow_mul-n c = omega (arith, worth-fits c.loop-i.i c.loop-i.n (omega arith) c.loop-i.invariant.0)

pub overflow_add-n : goal.overflow_add-n
overflow_add-n c = omega (arith, worth-fits c.loop-i.i c.loop-i.n (omega arith) c.loop-i.invariant.0, c.digit_value.ensures.1)

pub loop-i-preserved : goal.loop-i-preserved
loop-i-preserved c =
    let a = c.args in
    let x = c.column-c in
    let d = sym c.is_digit.ensures ∙ c.if-not-is_digit.false in
    let v = c.digit_value.ensures.0 in (
      worth_more c.loop-i.n c.digit_value.result c.loop-i.i c.loop-i.invariant.0 (omega (arith, v, digit-small x.result d)),
      c.loop-i.invariant.1 ∙ digits_more a.line.now a.from a.width c.loop-i.i x.result c.loop-i-test.true x.ensures c.loop-i.n d
          ∙ ap (λ (k : ℕ). digits_from (c.loop-i.n * 10 + k) (cells a.line.now (a.from + (c.loop-i.i + 1)) (a.width - (c.loop-i.i + 1)))) (sym v),
    )

pub returns : goal.returns
returns c = sym (ap (λ r. or_bad_field (the_number r)) (c.loop-i.invariant.1 ∙ ends (digits_from c.loop-i.n) c.args.line.now c.args.from c.args.width c.loop-i.i c.loop-i-test.false))
