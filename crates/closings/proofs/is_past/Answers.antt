-- `closings::is_past` meets its contract. Assumes nothing.
use mathlib.Core.Path.{refl}
use Rattle.join.specs.Check.{past_cell}
use Rattle.closings.proofs.is_past.Goals as goal

pub returns : goal.returns
unfolding past_cell
returns c = rw (c.is_seen-seen.ensures, c.round-round.ensures) refl
