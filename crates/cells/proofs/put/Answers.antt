-- `cells::put` meets its contract. Assumes nothing.
use borrow.Author.Rules.{rules}
use Rattle.cells.proofs.Copied.{copied_next}
use Rattle.cells.proofs.put.Goals as goal

pub loop-i-preserved : goal.loop-i-preserved
loop-i-preserved g c = copied_next c.loop-i.invariant c.loop-i-test.true c.requires (search rules)
