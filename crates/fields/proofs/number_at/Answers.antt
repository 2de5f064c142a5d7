use mathlib.Core.Path.{sym, ap, ◌∙◌}
use Prim.Native.Nat.{◌+◌, ◌-◌}
use Rattle.law.proofs.FieldsRead.{number_of}
use Rattle.law.specs.Columns.{cells}
use Rattle.fields.specs.Fields.{or_blank}
use Rattle.fields.proofs.Columns.{ends}
use Rattle.fields.proofs.Turns.{number-blank, number_digits}
use Rattle.fields.proofs.Fours.{their_number}
use Rattle.fields.proofs.number_at.Goals as goal

pub returns-then-column-ne32 : goal.returns-then-column-ne32
returns-then-column-ne32 c =
    let a = c.args in
    let x = c.column in
    let i = c.loop-i.i in
    their_number (cells a.line.now a.from a.width) (cells a.line.now (a.from + i) (a.width - i)) _ _ (c.loop-i.invariant ∙ number_digits a.line.now a.from a.width i x.result c.loop-i-test.true x.ensures c.if-column-ne32.true) c.digits_at.ensures c.map.ensures.cases

pub loop-i-preserved : goal.loop-i-preserved
loop-i-preserved c =
    let a = c.args in
    let x = c.column in
    c.loop-i.invariant ∙ number-blank a.line.now a.from a.width c.loop-i.i x.result c.loop-i-test.true x.ensures c.if-column-ne32.false

pub returns : goal.returns
returns c = sym (ap or_blank (c.loop-i.invariant ∙ ends number_of c.args.line.now c.args.from c.args.width c.loop-i.i c.loop-i-test.false))
