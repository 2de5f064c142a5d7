-- `players::store_player` meets its contract. Assumes nothing.
use Rattle.tables.specs.Lent.{nine_of}
use Rattle.players.proofs.Cells.{player_stored}
use Rattle.players.proofs.store_player.Goals as goal

pub returns-clause-stored : goal.returns-clause-stored
returns-clause-stored c =
    let a = c.args in
    λ p text e.
    player_stored p a.place.0 a.line.0 a.row.now e (nine_of a.settled.now a.closing.now a.columns.now text) c.store_own.ensures c.store_own-2.ensures c.store_own-3.ensures c.store_kept.ensures (c.store_row.ensures 0)
    (c.store_row-2.ensures 0) (c.store_row-3.ensures 0) c.store_own-4.ensures
