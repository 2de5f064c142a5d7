use Rattle.glances.proofs.Once.{once-none, once_more}
use Rattle.glances.proofs.keeps_one_u.Goals as goal

pub loop-p-init : goal.loop-p-init
loop-p-init c = once-none _

pub loop-p-preserved : goal.loop-p-preserved
loop-p-preserved c = once_more c.loop-p.invariant c.note_u.ensures c.if-note_u.false
