use mathlib.Core.Path.{sym, ◌∙◌}
use Rattle.kit.specs.Lists.{all}
use Rattle.law.specs.Columns.{is_blank}
use Rattle.fields.proofs.Columns.{ends}
use Rattle.fields.proofs.Turns.{blank_more, blank-stop}
use Rattle.fields.proofs.blank_at.Goals as goal

pub returns-then-column-ne32 : goal.returns-then-column-ne32
returns-then-column-ne32 c =
    let a = c.args in
    sym (c.loop-i.invariant ∙ blank-stop a.line.now a.from a.width c.loop-i.i c.column.result c.loop-i-test.true c.column.ensures c.if-column-ne32.true)

pub loop-i-preserved : goal.loop-i-preserved
loop-i-preserved c =
    let a = c.args in
    c.loop-i.invariant ∙ blank_more a.line.now a.from a.width c.loop-i.i c.column.result c.loop-i-test.true c.column.ensures c.if-column-ne32.false

pub returns : goal.returns
returns c = sym (c.loop-i.invariant ∙ ends (all is_blank) c.args.line.now c.args.from c.args.width c.loop-i.i c.loop-i-test.false)
