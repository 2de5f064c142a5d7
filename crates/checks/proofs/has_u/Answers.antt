-- `checks::has_u` meets its contract. Assumes nothing.
use Rattle.std.proofs.Common.{rules}
use Rattle.join.specs.Check.{has_uat}
use Rattle.checks.proofs.has_u.Goals as goal

pub returns : goal.returns
unfolding has_uat
returns c = search rules
