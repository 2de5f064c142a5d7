use native.Mathlib.Omega.{arith}
use Rattle.puts.proofs.Ends.{relined-start, relined-next, relined-all, relined-room}
use Rattle.puts.proofs.put_text.Goals as goal

pub loop-c-init : goal.loop-c-init
loop-c-init c = let a = c.args in relined-start a.end a.text.now a.at a.out.now (omega arith)

pub put_kept-next-requires : goal.put_kept-next-requires
put_kept-next-requires c = let a = c.args in relined-room a.end a.text.now a.at a.out.now c.loop-c.invariant c.loop-c-test.true c.requires

pub loop-c-preserved : goal.loop-c-preserved
loop-c-preserved c = let a = c.args in relined-next a.end a.text.now a.at a.out.now c.loop-c.invariant c.loop-c-test.true c.put_kept-next.ensures

pub returns : goal.returns
returns c = let a = c.args in relined-all a.end a.text.now a.at a.out.now c.loop-c.invariant c.loop-c-test.false
