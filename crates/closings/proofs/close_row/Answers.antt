use native.Mathlib.Omega.{arith}
use Rattle.closings.proofs.Closes.{row_none, row_more, row_end}
use Rattle.closings.proofs.close_row.Goals as goal

pub loop-j-init : goal.loop-j-init
loop-j-init c = row_none _ _ _ _

pub bounds-t-i : goal.bounds-t-i
bounds-t-i c = omega (arith, c.cell_of-i.ensures.1, c.requires.long, c.loop-j.invariant.long)

pub bounds-t-i-in-loop-j : goal.bounds-t-i-in-loop-j
bounds-t-i-in-loop-j c = omega (arith, c.cell_of-i.ensures.1, c.requires.long, c.loop-j.invariant.long)

pub loop-j-preserved : goal.loop-j-preserved
loop-j-preserved c = row_more c.loop-j.invariant c.loop-j-test.true _ _ c.cell_of-i.ensures.0 c.closed.ensures

pub shape_of-t : goal.shape_of-t
shape_of-t c = c.loop-j.invariant.long

pub returns : goal.returns
returns c = row_end c.loop-j.invariant c.loop-j-test.false
