-- The grid is the one that the rule gives.
use Rattle.law.specs.Entries.{fits}
use Rattle.results.proofs.Ordered.{is_grid}
use Rattle.results.proofs.lent.Grid.new.Goals as goal

pub invariant_of-result-clause-is_grid : goal.invariant_of-result-clause-is_grid
unfolding fits
invariant_of-result-clause-is_grid c = is_grid
