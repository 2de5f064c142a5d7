-- `checks::keeps_fitting` meets its contract. Assumes nothing.
use Rattle.std.proofs.Common.{refl}
use Rattle.index.proofs.Told.{told-place, told_nobody}
use Rattle.join.specs.Check.{entry_cell, keeps_cell}
use Rattle.checks.proofs.keeps_fitting.Goals as goal

pub returns-in_default : goal.returns-in_default
unfolding keeps_cell entry_cell
returns-in_default c = rw (rw c.opponent_at-id.ensures at (told_nobody _ c.player_of.ensures.found c.in_default.is)) refl

pub returns : goal.returns
unfolding keeps_cell entry_cell
returns c =
    rw (rw c.opponent_at-id.ensures at (told-place _ c.player_of.ensures.found c.in-Some.is), c.fits.ensures, c.result_at-result.ensures, c.result_at-theirs.ensures) refl
