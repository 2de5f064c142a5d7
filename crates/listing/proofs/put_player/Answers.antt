-- `listing::put_player` meets its contract. Assumes nothing.
use Rattle.listing.specs.Lent.{six}
use Rattle.listing.proofs.Lines.{player-line}
use Rattle.listing.proofs.put_player.Goals as goal

pub returns-clause-put : goal.returns-clause-put
returns-clause-put c =
    player-line (six c.args.tables.now) c.args.rounds c.args.place.0 c.start_at-start.ensures c.points_at-points.ensures c.rank_at-rank.ensures c.put_standing-of_standing.ensures.put
    c.put_entries-of_entries.ensures.put c.put.ensures
