-- `results::order` meets its contract: the table is the one that the rule gives. Assumes nothing.
use Rattle.results.specs.Order.{result_place}
use Rattle.results.proofs.Ordered.{is_order}
use Rattle.results.proofs.order.Goals as goal

pub returns : goal.returns
unfolding result_place
returns c = is_order
