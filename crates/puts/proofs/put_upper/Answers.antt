use borrow.Author.Rules.{rules}
use Rattle.puts.proofs.Turns.{showing_none, showing_next, showing_all}
use Rattle.puts.proofs.put_upper.Goals as goal

pub loop-i-init : goal.loop-i-init
loop-i-init c = showing_none (search rules)

pub loop-i-preserved : goal.loop-i-preserved
loop-i-preserved c = showing_next c.loop-i.invariant (search rules) c.digit_or.ensures

pub returns : goal.returns
returns c = showing_all c.loop-i.invariant (search rules)
