-- `held::accelerations_are` meets its contract. Assumes nothing.
use mathlib.Core.Path.{refl}
use Rattle.std.proofs.Common.{rules}
use lib.ListN.{get_or}
use Rattle.law.specs.Accelerations.{is_acceleration}
use Rattle.law.specs.Lawful.{no_acceleration}
use Rattle.texts.proofs.Told.{told_is}
use Rattle.held.proofs.Runs.{every-tests, from_zero}
use Rattle.held.proofs.accelerations_are.Goals as goal

pub returns : goal.returns
returns c = from_zero (every-tests c.every.ensures (λ k. is_acceleration (get_or c.args.records.now k no_acceleration)) (λ k b l m p. search rules) (λ k. told_is _ _ refl))
