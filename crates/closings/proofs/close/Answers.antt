use native.Mathlib.Omega.{arith}
use Rattle.closings.proofs.Closes.{close_none, player_more, close_end}
use Rattle.closings.proofs.close.Goals as goal

pub loop-p-init : goal.loop-p-init
loop-p-init c = let p = c.requires in close_none _ _ _ _ p.players p.long

pub close_row-requires : goal.close_row-requires
close_row-requires c = let s = c.loop-p.invariant in record { place = omega (arith, c.loop-p-test.true, s.few); long = omega (arith, s.room, s.holds.long) }

pub loop-p-preserved : goal.loop-p-preserved
loop-p-preserved c = player_more c.loop-p.invariant c.loop-p-test.true c.close_row.ensures

pub shape_of-t : goal.shape_of-t
shape_of-t c = c.loop-p.invariant.holds.long

pub returns : goal.returns
returns c = close_end c.loop-p.invariant (omega (arith, c.loop-p-test.false))
