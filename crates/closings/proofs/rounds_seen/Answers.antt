use borrow.Author.Rules.{rules}
use Rattle.join.specs.Check.{rounds_seen}
use Rattle.turns.proofs.Seeks.{climb_none, climb_more, climb_end}
use Rattle.closings.proofs.rounds_seen.Goals as goal

pub loop-k-init : goal.loop-k-init
loop-k-init c = climb_none

pub loop-k-preserved : goal.loop-k-preserved
loop-k-preserved c = climb_more c.loop-k.invariant c.loop-k-test.true _ _ c.round_seen.ensures (search (rules, c.max-most.ensures))

pub returns : goal.returns
unfolding rounds_seen
returns c = climb_end c.loop-k.invariant c.loop-k-test.false
