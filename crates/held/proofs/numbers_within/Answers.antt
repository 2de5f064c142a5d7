-- `held::numbers_within` meets its contract. Assumes nothing.
use mathlib.Core.Path.{refl}
use Rattle.std.proofs.Common.{rules}
use lib.ListN.{get_or}
use Rattle.kit.specs.Lists.{between}
use Rattle.texts.proofs.Told.{told_is}
use Rattle.held.proofs.Runs.{every-tests, from_zero}
use Rattle.held.proofs.numbers_within.Goals as goal

pub returns : goal.returns
returns c = from_zero (every-tests c.every.ensures (λ k. between c.args.least c.args.most (get_or c.args.t.now k 0)) (λ k b l m p. search rules) (λ k. told_is _ _ refl))
