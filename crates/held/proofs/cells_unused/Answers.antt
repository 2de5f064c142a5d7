-- `held::cells_unused` meets its contract. Assumes nothing.
use Rattle.std.proofs.Common.{rules}
use Rattle.held.proofs.Runs.{every-told}
use Rattle.held.proofs.cells_unused.Goals as goal

pub returns : goal.returns
returns g c = every-told c.every.ensures (λ k b l m p. search rules)
