-- `held::kept_are` meets its contract. Assumes nothing.
use Rattle.std.proofs.Common.{rules}
use Rattle.held.proofs.Runs.{every-told, from_zero}
use Rattle.held.proofs.kept_are.Goals as goal

pub returns : goal.returns
returns c = from_zero (every-told c.every.ensures (λ k b l m p. search rules))
