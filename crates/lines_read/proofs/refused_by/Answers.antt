-- `lines_read::refused_by` meets its contract. Assumes nothing.
use mathlib.Core.Path.{◌∙◌, refl}
use Rattle.lines_read.proofs.refused_by.Goals as goal

pub returns : goal.returns
returns c = c.refused.ensures ∙ rw c.number.ensures refl
