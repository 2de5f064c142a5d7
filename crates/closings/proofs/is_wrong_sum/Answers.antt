-- `closings::is_wrong_sum` meets its contract. Assumes nothing.
use mathlib.Core.Path.{refl}
use Rattle.join.specs.Check.{wrong_sum}
use Rattle.closings.proofs.is_wrong_sum.Goals as goal

pub returns : goal.returns
unfolding wrong_sum
returns c = rw (c.points_at.ensures, c.sum_by.ensures) refl
