use Rattle.std.proofs.Common.{rules}
use Rattle.law.specs.Lawful.{no_acceleration}
use Rattle.law.specs.Writing.{acceleration_line}
use Rattle.puts.specs.Ends.{ended_by}
use Rattle.puts.proofs.Puts.{puts_then}
use Rattle.puts.proofs.Lined.{lined_none, lined_next, lined_map}
use Rattle.heads.proofs.put_accelerations.Goals as goal

pub loop-a-init : goal.loop-a-init
loop-a-init c = lined_none c.requires

pub loop-a-preserved : goal.loop-a-preserved
loop-a-preserved c = lined_next no_acceleration c.loop-a.invariant c.loop-a-test.true (search rules) (puts_then c.put_acceleration-ended.ensures c.put_end-next.ensures)

pub returns : goal.returns
returns c = lined_map (ended_by c.args.end) acceleration_line c.loop-a.invariant c.loop-a-test.false
