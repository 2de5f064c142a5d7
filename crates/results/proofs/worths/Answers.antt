-- `results::worths` meets its contract: what each byte earns is computed from the rule and compared. Assumes nothing.
use mathlib.Core.Path.{refl}
use Rattle.join.specs.Check.{worth_by}
use Rattle.results.specs.Order.{result_place}
use Rattle.results.proofs.Ordered.{are-worths}
use Rattle.results.proofs.worths.Goals as goal

pub returns : goal.returns
unfolding worth_by result_place
returns c = are-worths _ _ refl
