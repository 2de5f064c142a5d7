-- `held::entries_unused` meets its contract. Assumes nothing.
use Rattle.std.proofs.Common.{rules}
use Rattle.held.proofs.Runs.{every-told, from_zero}
use Rattle.held.proofs.Entries.{entries-told}
use Rattle.held.proofs.entries_unused.Goals as goal

pub returns : goal.returns
returns g c = entries-told _ c.args.players c.args.rounds c.args.t.now (from_zero (every-told c.every.ensures (λ k b l m p. search rules)))
