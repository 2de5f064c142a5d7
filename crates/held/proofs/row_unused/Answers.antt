-- `held::row_unused` meets its contract. Assumes nothing.
use Rattle.std.proofs.Common.{rules}
use Rattle.held.proofs.Runs.{every-told}
use Rattle.held.proofs.Entries.{row_told}
use Rattle.held.proofs.row_unused.Goals as goal

pub returns : goal.returns
returns g c = row_told _ c.args.players c.args.rounds c.args.t.now c.args.place.0 c.unused_from-from.ensures (every-told c.every.ensures (λ k b l m p. search rules))
