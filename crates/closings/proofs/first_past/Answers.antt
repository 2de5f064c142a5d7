use mathlib.Core.Path.{sym, ◌∙◌}
use Rattle.turns.specs.Found.{as_found_turn}
use Rattle.turns.proofs.Seeks.{seek_none, seek_hit, seek_more, seek_end}
use Rattle.closings.proofs.first_past.Goals as goal

pub loop-k-init : goal.loop-k-init
loop-k-init c = seek_none _ _

pub returns-then-is_past : goal.returns-then-is_past
returns-then-is_past c = seek_hit c.loop-k.invariant as_found_turn c.loop-k-test.true (sym c.is_past.ensures ∙ c.if-is_past.true)

pub loop-k-preserved : goal.loop-k-preserved
loop-k-preserved c = seek_more c.loop-k.invariant c.loop-k-test.true (sym c.is_past.ensures ∙ c.if-is_past.false)

pub returns : goal.returns
returns c = seek_end c.loop-k.invariant as_found_turn c.loop-k-test.false
