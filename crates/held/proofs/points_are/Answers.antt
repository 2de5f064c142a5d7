-- `held::points_are` meets its contract. Assumes nothing.
use native.Mathlib.Omega.{arith}
use Rattle.kit.proofs.Bools.{within, in_between}
use Rattle.law.specs.Sizes.{most_points}
use Rattle.held.proofs.Runs.{each_as}
use Rattle.held.proofs.points_are.Goals as goal

pub returns : goal.returns
returns c = each_as (λ k e. (within 0 most_points _ e).1) (λ k l. in_between 0 most_points _ (omega arith) l) c.numbers_within.ensures
