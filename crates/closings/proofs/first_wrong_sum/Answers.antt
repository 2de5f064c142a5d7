use mathlib.Core.Path.{sym, ◌∙◌}
use Rattle.index.specs.Index.{as_placed}
use Rattle.turns.proofs.Seeks.{seek_none, seek_hit, seek_more, seek_end}
use Rattle.closings.proofs.first_wrong_sum.Goals as goal

pub loop-p-init : goal.loop-p-init
loop-p-init c = seek_none _ _

pub returns-then-is_wrong_sum : goal.returns-then-is_wrong_sum
returns-then-is_wrong_sum c =
    rw (sym c.new-worths.ensures) (seek_hit c.loop-p.invariant as_placed c.loop-p-test.true (sym c.is_wrong_sum.ensures ∙ c.if-is_wrong_sum.true))

pub loop-p-preserved : goal.loop-p-preserved
loop-p-preserved c =
    seek_more c.loop-p.invariant c.loop-p-test.true (sym c.is_wrong_sum.ensures ∙ c.if-is_wrong_sum.false)

pub returns : goal.returns
returns c = rw (sym c.new-worths.ensures) (seek_end c.loop-p.invariant as_placed c.loop-p-test.false)
