use mathlib.Core.Path.{◌∙◌}
use Rattle.glances.proofs.Once.{note_more, u_is}
use Rattle.glances.proofs.note_u.Goals as goal

pub loop-j-preserved : goal.loop-j-preserved
loop-j-preserved c = note_more c.loop-j.invariant c.loop-j-test.true (c.is_allocated-here.ensures ∙ u_is _ _ _ c.letter_at.ensures)
