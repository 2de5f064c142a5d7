-- `question::covers` meets its contract. Assumes nothing.
use mathlib.Core.Path.{refl}
use Rattle.law.specs.Accelerations.{covers}
use Rattle.question.proofs.covers.Goals as goal

pub returns : goal.returns
unfolding covers
returns c = refl
