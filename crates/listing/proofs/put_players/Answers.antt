use native.Mathlib.Omega.{arith}
use Rattle.listing.specs.Lent.{six}
use Rattle.listing.proofs.Lines.{lines_none, lines_next}
use Rattle.listing.proofs.put_players.Goals as goal

pub loop-place-init : goal.loop-place-init
loop-place-init c = (lines_none (six c.args.tables.now) c.args.rounds (omega arith), omega arith)

pub loop-place-preserved : goal.loop-place-preserved
loop-place-preserved c = (lines_next (six c.args.tables.now) c.args.rounds _ c.loop-place.invariant.0 c.put_player-end.ensures.put, omega arith)
