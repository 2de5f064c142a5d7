use Rattle.held.proofs.Runs.{passed_none, passed-next, passed-all}
use Rattle.held.proofs.every.Goals as goal

pub loop-i-init : goal.loop-i-init
loop-i-init g c = passed_none

pub loop-i-preserved : goal.loop-i-preserved
loop-i-preserved g c = passed-next c.loop-i.invariant c.loop-i.auto.i c.loop-i-test.true c.passes-good.ensures

pub returns : goal.returns
returns g c = passed-all c.loop-i.invariant c.loop-i-test.false
