use mathlib.Core.Path.{sym, ◌∙◌}
use Rattle.turns.specs.Found.{as_found_record}
use Rattle.turns.proofs.Seeks.{seek_none, seek_hit, seek_more, seek_end}
use Rattle.closings.proofs.first_shared.Goals as goal

pub loop-j-init : goal.loop-j-init
loop-j-init c = seek_none _ _

pub returns-then-shares_earlier : goal.returns-then-shares_earlier
returns-then-shares_earlier c = seek_hit c.loop-j.invariant as_found_record c.loop-j-test.true (sym c.shares_earlier.ensures ∙ c.if-shares_earlier.true)

pub loop-j-preserved : goal.loop-j-preserved
loop-j-preserved c = seek_more c.loop-j.invariant c.loop-j-test.true (sym c.shares_earlier.ensures ∙ c.if-shares_earlier.false)

pub returns : goal.returns
returns c = seek_end c.loop-j.invariant as_found_record c.loop-j-test.false
