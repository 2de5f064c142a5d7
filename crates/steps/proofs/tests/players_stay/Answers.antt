-- `steps::tests::players_stay` is safe. Assumes nothing.
use mathlib.Core.Path.{refl}
use Rattle.law.specs.Columns.{cells}
use Rattle.law.specs.Items.{kind_of}
use Rattle.steps.proofs.tests.players_stay.Goals as goal

pub step_text-name-requires-clause-kept : goal.step_text-name-requires-clause-kept
unfolding kind_of cells
step_text-name-requires-clause-kept g c = refl
