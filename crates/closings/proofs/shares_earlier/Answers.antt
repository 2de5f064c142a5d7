use Rattle.join.specs.Check.{shared_record}
use Rattle.turns.proofs.Seeks.{ask_none, ask_more, ask_end}
use Rattle.closings.proofs.shares_earlier.Goals as goal

pub loop-i-init : goal.loop-i-init
loop-i-init c = ask_none

pub loop-i-preserved : goal.loop-i-preserved
loop-i-preserved c = ask_more c.loop-i.invariant c.loop-i-test.true _ c.shares-found.ensures

pub returns : goal.returns
unfolding shared_record
returns c = ask_end c.loop-i.invariant c.loop-i-test.false
