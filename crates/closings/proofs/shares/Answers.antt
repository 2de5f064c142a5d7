-- `closings::shares` meets its contract: the rounds overlap, and the start numbers do. Assumes nothing.
use mathlib.Core.Path.{refl}
use Rattle.law.specs.Accelerations as accelerations
use Rattle.closings.proofs.shares.Goals as goal

pub returns : goal.returns
unfolding accelerations.shares
returns c = rw (c.overlap-rounds.ensures, c.overlap-starts.ensures) refl
